use Rattle.vt_laws_mounts.proofs.ends.UnmountingGoes.{umount_unmounts}
use Rattle.vt_laws_mounts.proofs.mounts.umount_unmounts_the_mount_of_its_path.Goals as goal

pub returns : goal.returns
returns c = umount_unmounts
