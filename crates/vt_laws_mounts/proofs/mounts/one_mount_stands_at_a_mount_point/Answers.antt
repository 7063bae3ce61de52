use Rattle.vt_laws_mounts.proofs.mounts.MountsPlaces.{stands_alone}
use Rattle.vt_laws_mounts.proofs.mounts.one_mount_stands_at_a_mount_point.Goals as goal

pub returns : goal.returns
returns c = stands_alone
