use Rattle.vt_world.proofs.overlays_made.Made.{made_objects_are_shown, made_trees_are_shown}
use Rattle.vt_world.proofs.overlays_made.Numbers.{made_overlays_are_same}
use Rattle.vt_world.proofs.overlays_made.overlays_that_are_made_are_shown.Goals as goal

pub returns-clause-tree : goal.returns-clause-tree
returns-clause-tree c = made_trees_are_shown

pub returns-clause-objects : goal.returns-clause-objects
returns-clause-objects c = made_objects_are_shown

pub returns-clause-same : goal.returns-clause-same
returns-clause-same c = made_overlays_are_same
