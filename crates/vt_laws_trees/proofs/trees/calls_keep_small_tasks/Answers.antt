use Rattle.vt_laws_trees.proofs.trees.TreesLimits
use Rattle.vt_laws_trees.proofs.trees.calls_keep_small_tasks.Goals as goal

pub returns-clause-opening : goal.returns-clause-opening
returns-clause-opening c = TreesLimits.opening_has_small_tasks

pub returns-clause-calls : goal.returns-clause-calls
returns-clause-calls c = TreesLimits.calls_keep_small_tasks
