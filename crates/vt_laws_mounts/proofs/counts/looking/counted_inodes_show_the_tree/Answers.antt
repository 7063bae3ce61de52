mod Looks
use Rattle.vt_laws_mounts.proofs.counts.looking.counted_inodes_show_the_tree.Answers.Looks.{counted_tree_is_the_tree, directories_lie_alike}
use Rattle.vt_laws_mounts.proofs.counts.looking.counted_inodes_show_the_tree.Goals as goal

pub returns-clause-tree : goal.returns-clause-tree
returns-clause-tree c = counted_tree_is_the_tree

pub returns-clause-under : goal.returns-clause-under
returns-clause-under c = directories_lie_alike
