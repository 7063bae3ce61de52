use Rattle.vt_upper_overlay.proofs.TreesSame.{looks_see}
use Rattle.vt_upper_overlay.proofs.laws.looks_see_merged_trees.Goals as goal

pub returns : goal.returns
returns c = looks_see
