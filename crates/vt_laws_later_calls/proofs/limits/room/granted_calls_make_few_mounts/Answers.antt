use Rattle.vt_laws_later_calls.proofs.limits.room.Made.{granted_calls_make_few, namespaces_have_tasks}
use Rattle.vt_laws_later_calls.proofs.limits.room.granted_calls_make_few_mounts.Goals as goal

pub returns-clause-granted : goal.returns-clause-granted
returns-clause-granted c = granted_calls_make_few

pub returns-clause-namespaces : goal.returns-clause-namespaces
returns-clause-namespaces c = namespaces_have_tasks
