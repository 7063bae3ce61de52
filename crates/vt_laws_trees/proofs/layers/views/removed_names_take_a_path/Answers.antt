use Rattle.vt_laws_trees.proofs.layers.views.Names.{remove_ends_paths, remove_is_seen, remove_takes_path}
use Rattle.vt_laws_trees.proofs.layers.views.removed_names_take_a_path.Goals as goal

pub returns-clause-removed : goal.returns-clause-removed
returns-clause-removed c = remove_takes_path

pub returns-clause-seen : goal.returns-clause-seen
returns-clause-seen c = remove_is_seen

pub returns-clause-under : goal.returns-clause-under
returns-clause-under c = remove_ends_paths
