use Rattle.vt_laws_trees.proofs.layers.views.Names.{add_name_adds_path, add_name_is_seen, make_adds_inode, make_adds_path, make_ends_paths, make_is_seen}
use Rattle.vt_laws_trees.proofs.layers.views.new_names_add_a_path.Goals as goal

pub returns-clause-made : goal.returns-clause-made
returns-clause-made c = make_adds_path

pub returns-clause-inode : goal.returns-clause-inode
returns-clause-inode c = make_adds_inode

pub returns-clause-made_seen : goal.returns-clause-made_seen
returns-clause-made_seen c = make_is_seen

pub returns-clause-over : goal.returns-clause-over
returns-clause-over c = make_ends_paths

pub returns-clause-linked : goal.returns-clause-linked
returns-clause-linked c = add_name_adds_path

pub returns-clause-linked_seen : goal.returns-clause-linked_seen
returns-clause-linked_seen c = add_name_is_seen
