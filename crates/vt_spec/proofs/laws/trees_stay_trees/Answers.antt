use Rattle.vt_spec.proofs.Trees.{is_tree-tree_of_root, is_tree-with_object, is_tree-with_file_bytes}
use Rattle.vt_spec.proofs.laws.trees_stay_trees.Goals as goal

pub returns-clause-root : goal.returns-clause-root
returns-clause-root c = is_tree-tree_of_root

pub returns-clause-new_object : goal.returns-clause-new_object
returns-clause-new_object c = is_tree-with_object

pub returns-clause-file_bytes : goal.returns-clause-file_bytes
returns-clause-file_bytes c = is_tree-with_file_bytes
