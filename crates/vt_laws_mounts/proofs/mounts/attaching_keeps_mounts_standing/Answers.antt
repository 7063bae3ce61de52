use Rattle.vt_laws_mounts.proofs.attached.BindsStand.{binds_keep_numbers, binds_keep_places, binds_keep_standing, moves_keep_numbers, new_mounts_keep_numbers, new_mounts_keep_places, new_mounts_keep_standing}
use Rattle.vt_laws_mounts.proofs.mounts.attaching_keeps_mounts_standing.Goals as goal

pub returns-clause-bind : goal.returns-clause-bind
returns-clause-bind c = binds_keep_standing

pub returns-clause-bind_numbers : goal.returns-clause-bind_numbers
returns-clause-bind_numbers c = binds_keep_numbers

pub returns-clause-new_mount : goal.returns-clause-new_mount
returns-clause-new_mount c = new_mounts_keep_standing

pub returns-clause-new_mount_numbers : goal.returns-clause-new_mount_numbers
returns-clause-new_mount_numbers c = new_mounts_keep_numbers

pub returns-clause-move_numbers : goal.returns-clause-move_numbers
returns-clause-move_numbers c = moves_keep_numbers

pub returns-clause-bind_places : goal.returns-clause-bind_places
returns-clause-bind_places c = binds_keep_places

pub returns-clause-new_mount_places : goal.returns-clause-new_mount_places
returns-clause-new_mount_places c = new_mounts_keep_places
