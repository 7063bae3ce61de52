use Rattle.vt_laws_trees.proofs.layers.layers.CopyingEachChange.{overlay_changes_as_asked}
use Rattle.vt_laws_trees.proofs.layers.layers.CopyingLast.{copies_have_their_name}
use Rattle.vt_laws_trees.proofs.layers.layers.UpperFit.{overlays_are_fit}
use Rattle.vt_laws_trees.proofs.layers.layers.overlays_change_their_upper_layer.Goals as goal

pub returns-clause-changes : goal.returns-clause-changes
returns-clause-changes c = overlay_changes_as_asked

pub returns-clause-fit : goal.returns-clause-fit
returns-clause-fit c = overlays_are_fit

pub returns-clause-copies : goal.returns-clause-copies
returns-clause-copies c = copies_have_their_name
