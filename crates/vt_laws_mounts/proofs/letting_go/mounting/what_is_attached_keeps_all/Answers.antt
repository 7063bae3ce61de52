use Rattle.vt_laws_mounts.proofs.letting_go.mounting.AttachedSwept.{binds_keep_all, copies_keep_all, new_filesystems_keep_all, new_mounts_of_trees_keep_all}
use Rattle.vt_laws_mounts.proofs.letting_go.mounting.what_is_attached_keeps_all.Goals as goal

pub returns-clause-copies : goal.returns-clause-copies
returns-clause-copies c = copies_keep_all

pub returns-clause-bind : goal.returns-clause-bind
returns-clause-bind c = binds_keep_all

pub returns-clause-filesystem : goal.returns-clause-filesystem
returns-clause-filesystem c = new_filesystems_keep_all

pub returns-clause-new_mount : goal.returns-clause-new_mount
returns-clause-new_mount c = new_mounts_of_trees_keep_all
