-- Every call of theirs ends in the part as in the world.
use Rattle.std.proofs.Common.{◌≡◌, refl, ℕ, nat_eq, List, Option, Some, Ok}
use Rattle.vt_spec.proofs.Common.{Allowed, Bind, Chdir, Chmod, Chown, Chroot, Close, Drop, Exec, Exit, Fork, ForkWords, Lazy, LinkTo, ListMounts, Ls, Lstat, MakeWhiteout, Mkdir, MountOverlay, MountPlain, MoveMount, Opaque, OpenFile, Permit, PivotRoot, Pread, Pwrite, Read, Readlink, Remount, Rename, Rmdir, SetType, Setns, Stat, SymlinkAt, Task, TaskName, ToFork, ToRemoveDirectory, ToRename, Umask, Umount, Unlink, Unshare, World, Write, filesystem_at, is_overlay, judge_in, task_called}
use Rattle.vt_laws_members.specs.Changes.Changes.{EndsAlike}
use Rattle.vt_laws_members.proofs.changes.letting_go.EnterLast.{setns_ends_alike}
use Rattle.vt_laws_members.proofs.changes.Common.{chdirs_end_alike, chroots_end_alike, closes_end_alike, drops_end_alike, exits_end_alike, looks_end_alike, renames_of_one_end_alike, umasks_end_alike, umounts_end_alike}
use Rattle.vt_laws_members.proofs.changes.mounts.Remounting.{remounts_end_alike}
use Rattle.vt_laws_members.proofs.changes.tasks.Forking.{forks_end_alike}
use Rattle.vt_laws_members.specs.OverlayNames.EachCalls.{AlwaysEndsAlike}
use Rattle.vt_laws_members.proofs.overlay_names.each_call.Permitted.{Forks, Removes, Renames, each_chmod_ends_alike, each_chown_ends_alike, each_link_ends_alike, each_mkdir_ends_alike, each_open_ends_alike, each_part_write_ends_alike, each_symlink_ends_alike, each_unlink_ends_alike, each_write_ends_alike, either, fit_ends}
use Rattle.vt_laws_members.proofs.overlay_names.names.HidingEnding.{all_opaques_end_alike, all_whiteouts_end_alike}
use Rattle.vt_laws_members.proofs.overlay_names.names.OverlayRemovals.{overlay_renames_end_alike, overlay_rmdirs_end_alike}
use Rattle.vt_laws_members.proofs.attached.Binding.{binds_end_alike}
use Rattle.vt_laws_members.proofs.attached.Moving.{moves_end_alike}
use Rattle.vt_laws_members.proofs.attached.PlainMounting.{plain_mounts_end_alike}
use Rattle.vt_laws_members.proofs.detached.lazily.Detaching.{lazy_umounts_detach_alike}
use Rattle.vt_laws_members.proofs.detached.removals.Removing.{removals_end_alike, replacements_end_alike}
use Rattle.vt_laws_members.proofs.namespaces.Pivoting.{pivots_end_alike}
use Rattle.vt_laws_members.proofs.namespaces.Unsharing.{unshares_end_alike}
use Rattle.vt_laws_members.proofs.new_overlays.Mounting.{overlay_mounts_end_alike}
use Rattle.vt_laws_members.proofs.types.Retyping.{types_end_alike}
use Rattle.vt_laws_members.specs.EachCall.EachCall.{EachCallEndsAlike}

each_fork : (world : World ℕ) (names : List TaskName) (name : TaskName) (words : Option ForkWords)
    → AlwaysEndsAlike world names name (Fork words)
each_fork world names name words it fresh serves = fit_ends it fresh refl of
  where
    of : (task : Task ℕ) → task_called world name ≡ Some task → (permit : Permit ℕ)
        → judge_in nat_eq fresh world task (Fork words) ≡ Ok permit → Forks permit
        → EndsAlike world names name (Fork words) fresh fresh
    of task called (ToFork credentials) judged any =
        forks_end_alike world names name words it task called fresh fresh credentials judged
    of task called permit judged none = absurd none

each_rmdir : (world : World ℕ) (names : List TaskName) (name : TaskName) (path : List ℕ)
    → AlwaysEndsAlike world names name (Rmdir path)
each_rmdir world names name path it fresh serves = fit_ends it fresh refl of
  where
    of : (task : Task ℕ) → task_called world name ≡ Some task → (permit : Permit ℕ)
        → judge_in nat_eq fresh world task (Rmdir path) ≡ Ok permit → Removes permit
        → EndsAlike world names name (Rmdir path) fresh fresh
    of task called (ToRemoveDirectory parent entry directory) judged any =
        either (is_overlay (filesystem_at nat_eq world parent))
        (removals_end_alike world names name path it task called fresh fresh parent entry directory judged)
        (overlay_rmdirs_end_alike world names name path it task called fresh serves parent entry directory judged)
    of task called permit judged none = absurd none

each_rename : (world : World ℕ) (names : List TaskName) (name : TaskName) (old new : List ℕ)
    → AlwaysEndsAlike world names name (Rename old new)
each_rename world names name old new it fresh serves = fit_ends it fresh refl of
  where
    of : (task : Task ℕ) → task_called world name ≡ Some task → (permit : Permit ℕ)
        → judge_in nat_eq fresh world task (Rename old new) ≡ Ok permit → Renames permit
        → EndsAlike world names name (Rename old new) fresh fresh
    of task called Allowed judged any =
        renames_of_one_end_alike world names name old new it task called fresh fresh judged
    of task called (ToRename from entry to entry_new object replaced) judged any =
        either (is_overlay (filesystem_at nat_eq world from))
        (replacements_end_alike world names name old new it task called fresh fresh from entry to entry_new object
        replaced judged)
        (overlay_renames_end_alike world names name old new it task called fresh serves from entry to entry_new
        object replaced judged)
    of task called permit judged none = absurd none

pub each_call_ends_alike : EachCallEndsAlike
each_call_ends_alike world names name (Ls path) it fresh serves =
    looks_end_alike world names name (Ls path) it refl fresh fresh
each_call_ends_alike world names name (Stat path) it fresh serves =
    looks_end_alike world names name (Stat path) it refl fresh fresh
each_call_ends_alike world names name (Lstat path) it fresh serves =
    looks_end_alike world names name (Lstat path) it refl fresh fresh
each_call_ends_alike world names name (Readlink path) it fresh serves =
    looks_end_alike world names name (Readlink path) it refl fresh fresh
each_call_ends_alike world names name (Read path) it fresh serves =
    looks_end_alike world names name (Read path) it refl fresh fresh
each_call_ends_alike world names name (Exec path) it fresh serves =
    looks_end_alike world names name (Exec path) it refl fresh fresh
each_call_ends_alike world names name (Pread descriptor offset size) it fresh serves =
    looks_end_alike world names name (Pread descriptor offset size) it refl fresh fresh
each_call_ends_alike world names name ListMounts it fresh serves =
    looks_end_alike world names name ListMounts it refl fresh fresh
each_call_ends_alike world names name (Write path bytes) it fresh serves =
    each_write_ends_alike world names name path bytes it fresh serves
each_call_ends_alike world names name (Mkdir path mode) it fresh serves =
    each_mkdir_ends_alike world names name path mode it fresh serves
each_call_ends_alike world names name (SymlinkAt text path) it fresh serves =
    each_symlink_ends_alike world names name text path it fresh serves
each_call_ends_alike world names name (MakeWhiteout path) it fresh serves =
    all_whiteouts_end_alike world names name path it fresh serves
each_call_ends_alike world names name (LinkTo old new) it fresh serves =
    each_link_ends_alike world names name old new it fresh serves
each_call_ends_alike world names name (Unlink path) it fresh serves =
    each_unlink_ends_alike world names name path it fresh serves
each_call_ends_alike world names name (Rmdir path) it fresh serves = each_rmdir world names name path it fresh serves
each_call_ends_alike world names name (Rename old new) it fresh serves =
    each_rename world names name old new it fresh serves
each_call_ends_alike world names name (Chmod path mode) it fresh serves =
    each_chmod_ends_alike world names name path mode it fresh serves
each_call_ends_alike world names name (Chown path uid gid) it fresh serves =
    each_chown_ends_alike world names name path uid gid it fresh serves
each_call_ends_alike world names name (Opaque path mark) it fresh serves =
    all_opaques_end_alike world names name path mark it fresh fresh
each_call_ends_alike world names name (OpenFile path access how) it fresh serves =
    each_open_ends_alike world names name path access how it fresh serves
each_call_ends_alike world names name (Pwrite descriptor offset bytes) it fresh serves =
    each_part_write_ends_alike world names name descriptor offset bytes it fresh serves
each_call_ends_alike world names name (Close descriptor) it fresh serves =
    closes_end_alike world names name descriptor it fresh fresh
each_call_ends_alike world names name (Chdir path) it fresh serves =
    chdirs_end_alike world names name path it fresh fresh
each_call_ends_alike world names name (Chroot path) it fresh serves =
    chroots_end_alike world names name path it fresh fresh
each_call_ends_alike world names name (Umask mode) it fresh serves =
    umasks_end_alike world names name mode it fresh fresh
each_call_ends_alike world names name (Drop which) it fresh serves =
    drops_end_alike world names name which it fresh fresh
each_call_ends_alike world names name (Fork words) it fresh serves = each_fork world names name words it fresh serves
each_call_ends_alike world names name Exit it fresh serves = exits_end_alike world names name it fresh fresh
each_call_ends_alike world names name Unshare it fresh serves = unshares_end_alike world names name it fresh serves
each_call_ends_alike world names name (Setns member) it fresh serves =
    setns_ends_alike world names name member it fresh fresh
each_call_ends_alike world names name (MountPlain path flags) it fresh serves =
    plain_mounts_end_alike world names name path flags it fresh serves
each_call_ends_alike world names name (MountOverlay path options flags) it fresh serves =
    overlay_mounts_end_alike world names name path options flags it fresh serves
each_call_ends_alike world names name (Bind source path recursive) it fresh serves =
    binds_end_alike world names name source path recursive it fresh serves
each_call_ends_alike world names name (MoveMount source path) it fresh serves =
    moves_end_alike world names name source path it fresh serves
each_call_ends_alike world names name (Umount path) it fresh serves =
    umounts_end_alike world names name path it fresh fresh
each_call_ends_alike world names name (Lazy path) it fresh serves =
    lazy_umounts_detach_alike world names name path it fresh fresh
each_call_ends_alike world names name (Remount path flags) it fresh serves =
    remounts_end_alike world names name path flags it fresh fresh
each_call_ends_alike world names name (SetType path word recursive) it fresh serves =
    types_end_alike world names name path word recursive it fresh serves
each_call_ends_alike world names name (PivotRoot new put) it fresh serves =
    pivots_end_alike world names name new put it fresh fresh
