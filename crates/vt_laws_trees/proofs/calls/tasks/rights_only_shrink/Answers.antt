use Rattle.vt_laws_trees.proofs.calls.tasks.TasksLaws.{new_tasks_are_children, only_drop_takes_rights, only_exit_leaves, only_open_gives_descriptors, only_umask_sets_umask, other_tasks_stay, rights_only_shrink}
use Rattle.vt_laws_trees.proofs.calls.tasks.rights_only_shrink.Goals as goal

pub returns-clause-rights : goal.returns-clause-rights
returns-clause-rights c = rights_only_shrink

pub returns-clause-drops : goal.returns-clause-drops
returns-clause-drops c = only_drop_takes_rights

pub returns-clause-umasks : goal.returns-clause-umasks
returns-clause-umasks c = only_umask_sets_umask

pub returns-clause-descriptors : goal.returns-clause-descriptors
returns-clause-descriptors c = only_open_gives_descriptors

pub returns-clause-others : goal.returns-clause-others
returns-clause-others c = other_tasks_stay

pub returns-clause-exits : goal.returns-clause-exits
returns-clause-exits c = only_exit_leaves

pub returns-clause-children : goal.returns-clause-children
returns-clause-children c = new_tasks_are_children
