use Rattle.vt_laws_worlds.proofs.overlays_stay.weaving.LeftWoven.{left_worlds_are_woven}
use Rattle.vt_laws_worlds.proofs.overlays_stay.weaving.worlds_that_are_left_are_woven.Goals as goal

pub returns : goal.returns
returns c = left_worlds_are_woven
