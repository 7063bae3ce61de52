use Rattle.vt_laws_members.proofs.namespaces.Pivoting.{pivots_end_alike}
use Rattle.vt_laws_members.proofs.namespaces.Unsharing.{unshares_end_alike}
use Rattle.vt_laws_members.proofs.namespaces.calls_of_theirs_that_change_namespaces_end_alike.Goals as goal

pub returns-clause-pivot : goal.returns-clause-pivot
returns-clause-pivot c = pivots_end_alike

pub returns-clause-unshare : goal.returns-clause-unshare
returns-clause-unshare c = unshares_end_alike
