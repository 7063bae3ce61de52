use Rattle.vt_store.proofs.MountsCounted.{mounts_are_not_seen, mounts_leave_layers}
use Rattle.vt_store.proofs.laws.mounts_are_not_seen.Goals as goal

pub returns-clause-seen : goal.returns-clause-seen
returns-clause-seen c = mounts_are_not_seen

pub returns-clause-standing : goal.returns-clause-standing
returns-clause-standing c = mounts_leave_layers
