use Rattle.vt_laws_mounts.proofs.namespaces.Pivoting.{numbered_mounts_can_pivot, pivot_keeps_mounts}
use Rattle.vt_laws_mounts.proofs.namespaces.PivotingCounts.{pivot_keeps_counts}
use Rattle.vt_laws_mounts.proofs.namespaces.pivoting_keeps_mounts.Goals as goal

pub returns-clause-mounts : goal.returns-clause-mounts
returns-clause-mounts c = pivot_keeps_mounts

pub returns-clause-counts : goal.returns-clause-counts
returns-clause-counts c = pivot_keeps_counts

pub returns-clause-numbered : goal.returns-clause-numbered
returns-clause-numbered c = numbered_mounts_can_pivot
