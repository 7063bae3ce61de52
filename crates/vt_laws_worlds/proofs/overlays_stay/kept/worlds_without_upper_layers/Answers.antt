use Rattle.vt_laws_worlds.proofs.overlays_stay.kept.OverlaysSwept.{plain_worlds_have_no_overlays, same_worlds_have_no_upper_alike}
use Rattle.vt_laws_worlds.proofs.overlays_stay.kept.worlds_without_upper_layers.Goals as goal

pub returns-clause-plain : goal.returns-clause-plain
returns-clause-plain c = plain_worlds_have_no_overlays

pub returns-clause-alike : goal.returns-clause-alike
returns-clause-alike c = same_worlds_have_no_upper_alike
