use Rattle.vt_laws_members.proofs.changes.tasks.Forking.{forks_end_alike}
use Rattle.vt_laws_members.proofs.changes.tasks.Opening.{opens_end_alike}
use Rattle.vt_laws_members.proofs.changes.Common.{drops_end_alike, empty_writes_end_alike, renames_of_one_end_alike, umasks_end_alike}
use Rattle.vt_laws_members.proofs.changes.tasks.calls_of_theirs_that_let_nothing_go_end_alike.Goals as goal

pub returns-clause-umask : goal.returns-clause-umask
returns-clause-umask c = umasks_end_alike

pub returns-clause-drop : goal.returns-clause-drop
returns-clause-drop c = drops_end_alike

pub returns-clause-rename_of_one : goal.returns-clause-rename_of_one
returns-clause-rename_of_one c = renames_of_one_end_alike

pub returns-clause-empty_write : goal.returns-clause-empty_write
returns-clause-empty_write c = empty_writes_end_alike

pub returns-clause-open : goal.returns-clause-open
returns-clause-open c = opens_end_alike

pub returns-clause-fork : goal.returns-clause-fork
returns-clause-fork c = forks_end_alike
