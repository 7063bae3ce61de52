use Rattle.vt_laws_mounts.proofs.letting_go.ends.NamespacesEnd.{no_namespace_ends, one_namespace_ends}
use Rattle.vt_laws_mounts.proofs.letting_go.ends.a_namespace_ends_with_its_last_task.Goals as goal

pub returns-clause-one : goal.returns-clause-one
returns-clause-one c = one_namespace_ends

pub returns-clause-none : goal.returns-clause-none
returns-clause-none c = no_namespace_ends
