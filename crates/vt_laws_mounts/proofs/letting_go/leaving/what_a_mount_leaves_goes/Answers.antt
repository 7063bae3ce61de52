use Rattle.vt_laws_mounts.proofs.letting_go.leaving.Detached.{unmount_is_of_one}
use Rattle.vt_laws_mounts.proofs.letting_go.mounting.MountingMoved.{detaching_lets_go}
use Rattle.vt_laws_mounts.proofs.letting_go.leaving.what_a_mount_leaves_goes.Goals as goal

pub returns-clause-unmount : goal.returns-clause-unmount
returns-clause-unmount c = unmount_is_of_one

pub returns-clause-left : goal.returns-clause-left
returns-clause-left c = detaching_lets_go
