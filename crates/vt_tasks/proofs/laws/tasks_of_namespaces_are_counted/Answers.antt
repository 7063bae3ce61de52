use Rattle.vt_tasks.proofs.LocationLemmas.{exited_tasks, forked_tasks, has_tasks_while_counted, replaced_tasks}
use Rattle.vt_tasks.proofs.PivotCounts.{pivoted_tasks}
use Rattle.vt_tasks.proofs.laws.tasks_of_namespaces_are_counted.Goals as goal

pub returns-clause-used : goal.returns-clause-used
returns-clause-used c = has_tasks_while_counted

pub returns-clause-replaced : goal.returns-clause-replaced
returns-clause-replaced c = replaced_tasks

pub returns-clause-forked : goal.returns-clause-forked
returns-clause-forked c = forked_tasks

pub returns-clause-exited : goal.returns-clause-exited
returns-clause-exited c = exited_tasks

pub returns-clause-pivoted : goal.returns-clause-pivoted
returns-clause-pivoted c = pivoted_tasks
