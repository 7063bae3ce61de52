use Rattle.vt_laws_containers.proofs.sealed_scripts.footholds.Footholds.{no_call_gives_a_foothold}
use Rattle.vt_laws_containers.proofs.sealed_scripts.footholds.no_call_of_theirs_gives_a_foothold.Goals as goal

pub returns : goal.returns
returns c = record { none = no_call_gives_a_foothold }
