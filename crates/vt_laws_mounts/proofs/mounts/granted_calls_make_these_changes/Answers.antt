mod Calls
use Rattle.vt_laws_mounts.proofs.mounts.granted_calls_make_these_changes.Answers.Calls.{bind_binds, exit_ends, lazy_unmounts, mount_mounts, move_moves, overlay_mounts, pivot_pivots, remount_sets_flags, rename_of_one_object, rename_replaces, rmdir_takes_mounts, setns_enters, type_is_set, unshare_copies}
use Rattle.vt_laws_mounts.proofs.mounts.granted_calls_make_these_changes.Goals as goal

pub returns-clause-bind : goal.returns-clause-bind
returns-clause-bind c = bind_binds

pub returns-clause-moves : goal.returns-clause-moves
returns-clause-moves c = move_moves

pub returns-clause-mount : goal.returns-clause-mount
returns-clause-mount c = mount_mounts

pub returns-clause-overlay : goal.returns-clause-overlay
returns-clause-overlay c = overlay_mounts

pub returns-clause-lazy : goal.returns-clause-lazy
returns-clause-lazy c = lazy_unmounts

pub returns-clause-remount : goal.returns-clause-remount
returns-clause-remount c = remount_sets_flags

pub returns-clause-kind : goal.returns-clause-kind
returns-clause-kind c = type_is_set

pub returns-clause-pivot : goal.returns-clause-pivot
returns-clause-pivot c = pivot_pivots

pub returns-clause-rmdir : goal.returns-clause-rmdir
returns-clause-rmdir c = rmdir_takes_mounts

pub returns-clause-rename : goal.returns-clause-rename
returns-clause-rename c = rename_replaces

pub returns-clause-rename_of_one : goal.returns-clause-rename_of_one
returns-clause-rename_of_one c = rename_of_one_object

pub returns-clause-exit : goal.returns-clause-exit
returns-clause-exit c = exit_ends

pub returns-clause-unshare : goal.returns-clause-unshare
returns-clause-unshare c = unshare_copies

pub returns-clause-setns : goal.returns-clause-setns
returns-clause-setns c = setns_enters
