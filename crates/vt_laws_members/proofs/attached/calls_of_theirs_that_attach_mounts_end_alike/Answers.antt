use Rattle.vt_laws_members.proofs.attached.Binding.{binds_end_alike}
use Rattle.vt_laws_members.proofs.attached.Moving.{moves_end_alike}
use Rattle.vt_laws_members.proofs.attached.PlainMounting.{plain_mounts_end_alike}
use Rattle.vt_laws_members.proofs.attached.calls_of_theirs_that_attach_mounts_end_alike.Goals as goal

pub returns-clause-mount_plain : goal.returns-clause-mount_plain
returns-clause-mount_plain c = plain_mounts_end_alike

pub returns-clause-bind : goal.returns-clause-bind
returns-clause-bind c = binds_end_alike

pub returns-clause-move_mount : goal.returns-clause-move_mount
returns-clause-move_mount c = moves_end_alike
