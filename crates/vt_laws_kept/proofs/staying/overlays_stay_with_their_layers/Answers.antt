use Rattle.vt_laws_kept.proofs.staying.Applied.{layers_are_left, trees_are_left}
use Rattle.vt_laws_kept.proofs.staying.Paths.{shown_is_left}
use Rattle.vt_laws_kept.proofs.staying.overlays_stay_with_their_layers.Goals as goal

pub returns-clause-layers : goal.returns-clause-layers
returns-clause-layers c = layers_are_left

pub returns-clause-tree : goal.returns-clause-tree
returns-clause-tree c = trees_are_left

pub returns-clause-shown : goal.returns-clause-shown
returns-clause-shown c = shown_is_left
