use Rattle.vt_upper_overlay.proofs.StandingSo.{stand_above}
use Rattle.vt_upper_overlay.proofs.laws.merged_trees_stand_above.Goals as goal

pub returns : goal.returns
returns c = stand_above
