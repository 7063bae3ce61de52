use Rattle.vt_laws_containers.proofs.same_sets.members.EndedAlike.{calls_end_alike_in_same_worlds}
use Rattle.vt_laws_containers.proofs.same_sets.members.calls_of_theirs_end_alike_in_same_worlds.Goals as goal

pub returns : goal.returns
returns c = calls_end_alike_in_same_worlds
