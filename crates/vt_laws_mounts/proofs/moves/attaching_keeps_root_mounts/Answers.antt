use Rattle.vt_laws_mounts.proofs.moves.MovingRoots.{binds_keep_root_mounts, binds_stay_in_namespaces, moves_keep_root_mounts, moves_stay_in_namespaces, new_mounts_keep_root_mounts, new_mounts_stay_in_namespaces}
use Rattle.vt_laws_mounts.proofs.moves.attaching_keeps_root_mounts.Goals as goal

pub returns-clause-bind : goal.returns-clause-bind
returns-clause-bind c = binds_keep_root_mounts

pub returns-clause-bind_namespaces : goal.returns-clause-bind_namespaces
returns-clause-bind_namespaces c = binds_stay_in_namespaces

pub returns-clause-new_mount : goal.returns-clause-new_mount
returns-clause-new_mount c = new_mounts_keep_root_mounts

pub returns-clause-new_mount_namespaces : goal.returns-clause-new_mount_namespaces
returns-clause-new_mount_namespaces c = new_mounts_stay_in_namespaces

pub returns-clause-moves : goal.returns-clause-moves
returns-clause-moves c = moves_keep_root_mounts

pub returns-clause-move_namespaces : goal.returns-clause-move_namespaces
returns-clause-move_namespaces c = moves_stay_in_namespaces
