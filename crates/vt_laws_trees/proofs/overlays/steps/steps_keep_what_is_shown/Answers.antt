use Rattle.vt_laws_trees.proofs.overlays.steps.WholeMoved.{move_keeps_shown}
use Rattle.vt_laws_trees.proofs.overlays.steps.WholeLinked.{link_keeps_shown}
use Rattle.vt_laws_trees.proofs.overlays.steps.WholeRemoved.{remove_keeps_shown}
use Rattle.vt_laws_trees.proofs.overlays.steps.WholeMade.{make_keeps_shown}
use Rattle.vt_laws_trees.proofs.overlays.steps.WholeCopied.{copy_keeps_whole}
use Rattle.vt_laws_trees.proofs.overlays.steps.WholeLines.{copies_keep_whole}
use Rattle.vt_laws_trees.proofs.overlays.steps.WholeAttributes.{attr_keeps_whole, bytes_keep_whole}
use Rattle.vt_laws_trees.proofs.overlays.steps.WholeMarked.{mark_keeps_whole, mark_of_the_tree_is_not_shown}
use Rattle.vt_laws_trees.proofs.overlays.steps.steps_keep_what_is_shown.Goals as goal

pub returns-clause-bytes : goal.returns-clause-bytes
returns-clause-bytes c = bytes_keep_whole

pub returns-clause-attr : goal.returns-clause-attr
returns-clause-attr c = attr_keeps_whole

pub returns-clause-mark : goal.returns-clause-mark
returns-clause-mark c = mark_keeps_whole

pub returns-clause-tree_mark : goal.returns-clause-tree_mark
returns-clause-tree_mark c = mark_of_the_tree_is_not_shown

pub returns-clause-copy : goal.returns-clause-copy
returns-clause-copy c = copy_keeps_whole

pub returns-clause-copies : goal.returns-clause-copies
returns-clause-copies c = copies_keep_whole

pub returns-clause-made : goal.returns-clause-made
returns-clause-made c = make_keeps_shown

pub returns-clause-linked : goal.returns-clause-linked
returns-clause-linked c = link_keeps_shown

pub returns-clause-removed : goal.returns-clause-removed
returns-clause-removed c = remove_keeps_shown

pub returns-clause-moved : goal.returns-clause-moved
returns-clause-moved c = move_keeps_shown
