use Rattle.vt_laws_mounts.proofs.attached.AttachedKept.{binds_keep_groups, moves_keep_groups, new_mounts_keep_groups}
use Rattle.vt_laws_mounts.proofs.attached.attaching_keeps_groups_living.Goals as goal

pub returns-clause-bind : goal.returns-clause-bind
returns-clause-bind c = binds_keep_groups

pub returns-clause-new_mount : goal.returns-clause-new_mount
returns-clause-new_mount c = new_mounts_keep_groups

pub returns-clause-moves : goal.returns-clause-moves
returns-clause-moves c = moves_keep_groups
