use Rattle.vt_laws_mounts.proofs.mounts.MountsApart.{flags_keep_apart, inheritance_keeps_apart, settling_keeps_apart, types_keep_apart}
use Rattle.vt_laws_mounts.proofs.ends.UnmountingNamespaces.{ended_namespaces_leave_one_mount_a_place}
use Rattle.vt_laws_mounts.proofs.ends.UnmountingPlaces.{unmount_leaves_one_mount_a_place}
use Rattle.vt_laws_mounts.proofs.ends.UnmountingTrees.{trees_leave_one_mount_a_place}
use Rattle.vt_laws_mounts.proofs.mounts.mount_points_keep_one_mount.Goals as goal

pub returns-clause-unmount : goal.returns-clause-unmount
returns-clause-unmount c = unmount_leaves_one_mount_a_place

pub returns-clause-trees : goal.returns-clause-trees
returns-clause-trees c = trees_leave_one_mount_a_place

pub returns-clause-ended : goal.returns-clause-ended
returns-clause-ended c = ended_namespaces_leave_one_mount_a_place

pub returns-clause-inheritance : goal.returns-clause-inheritance
returns-clause-inheritance c = inheritance_keeps_apart

pub returns-clause-types : goal.returns-clause-types
returns-clause-types c = types_keep_apart

pub returns-clause-flags : goal.returns-clause-flags
returns-clause-flags c = flags_keep_apart

pub returns-clause-settling : goal.returns-clause-settling
returns-clause-settling c = settling_keeps_apart
