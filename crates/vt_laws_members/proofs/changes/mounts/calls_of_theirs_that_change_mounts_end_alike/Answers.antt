use Rattle.vt_laws_members.proofs.changes.mounts.Remounting.{remounts_end_alike}
use Rattle.vt_laws_members.proofs.changes.mounts.calls_of_theirs_that_change_mounts_end_alike.Goals as goal

pub returns : goal.returns
returns c = record { remount = remounts_end_alike }
