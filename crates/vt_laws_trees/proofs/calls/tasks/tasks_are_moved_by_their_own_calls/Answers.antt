use Rattle.vt_laws_trees.proofs.calls.tasks.TasksLaws.{only_these_move_directories, only_these_move_namespaces, only_these_move_roots}
use Rattle.vt_laws_trees.proofs.calls.tasks.tasks_are_moved_by_their_own_calls.Goals as goal

pub returns-clause-directories : goal.returns-clause-directories
returns-clause-directories c = only_these_move_directories

pub returns-clause-roots : goal.returns-clause-roots
returns-clause-roots c = only_these_move_roots

pub returns-clause-namespaces : goal.returns-clause-namespaces
returns-clause-namespaces c = only_these_move_namespaces
