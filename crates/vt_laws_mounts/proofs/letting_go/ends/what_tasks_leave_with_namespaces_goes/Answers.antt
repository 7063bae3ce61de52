use Rattle.vt_laws_mounts.proofs.letting_go.ends.TasksEnd.{enters_let_go, exits_let_go, leaving_namespaces_lets_go, unshares_let_go}
use Rattle.vt_laws_mounts.proofs.letting_go.ends.what_tasks_leave_with_namespaces_goes.Goals as goal

pub returns-clause-left : goal.returns-clause-left
returns-clause-left c = leaving_namespaces_lets_go

pub returns-clause-exit : goal.returns-clause-exit
returns-clause-exit c = exits_let_go

pub returns-clause-setns : goal.returns-clause-setns
returns-clause-setns c = enters_let_go

pub returns-clause-unshare : goal.returns-clause-unshare
returns-clause-unshare c = unshares_let_go
