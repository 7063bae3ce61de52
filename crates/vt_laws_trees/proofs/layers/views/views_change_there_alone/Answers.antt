use Rattle.vt_laws_trees.proofs.layers.views.Names.{names_leave_inodes}
use Rattle.vt_laws_trees.proofs.layers.views.Stay.{attr_changes_one_inode, bytes_change_one_inode, elsewhere_keeps_view, mark_changes_one_inode}
use Rattle.vt_laws_trees.proofs.layers.views.views_change_there_alone.Goals as goal

pub returns-clause-bytes : goal.returns-clause-bytes
returns-clause-bytes c = bytes_change_one_inode

pub returns-clause-attr : goal.returns-clause-attr
returns-clause-attr c = attr_changes_one_inode

pub returns-clause-mark : goal.returns-clause-mark
returns-clause-mark c = mark_changes_one_inode

pub returns-clause-names : goal.returns-clause-names
returns-clause-names c = names_leave_inodes

pub returns-clause-elsewhere : goal.returns-clause-elsewhere
returns-clause-elsewhere c = elsewhere_keeps_view
