-- Each call of theirs on files, granted or refused, ends in the part as in the world.
use Rattle.std.proofs.Common.{◌≡◌, refl, ℕ, nat_eq, Bool, true, false, List, [], ◌∷◌, Some, Ok}
use Rattle.vt_spec.proofs.Common.{Allowed, Call, Chmod, Chown, Fork, Fresh, LinkTo, Mkdir, OpenFile, Permit, Pwrite, Rename, Rmdir, Serves, SymlinkAt, Task, TaskName, ToChange, ToFork, ToMake, ToOpen, ToOpenNew, ToRemoveDirectory, ToRename, ToWritePart, Unlink, World, Write, filesystem_at, is_copied_up, is_overlay, judge_in, looks_of, only_looks, overfills, task_called, ⊤}
use Rattle.vt_laws_members.proofs.Common.{IsGranted, calls_are_granted, writes_part}
use Rattle.vt_laws_members.specs.Changes.Changes.{EndsAlike, IsCallOfTheirs, PlainChangeEndsAlike}
use Rattle.vt_laws_members.specs.Changes.NameChanges.{PlainMakingEndsAlike}
use Rattle.vt_laws_members.specs.Changes.OverlayEdits.{OverlayChangeEndsAlike}
use Rattle.vt_laws_members.proofs.changes.Common.{by_permit, chmods_end_alike, chowns_end_alike, empty_writes_end_alike, links_end_alike, mkdirs_end_alike, new_files_end_alike, overlay_chmods_end_alike, overlay_chowns_end_alike, overlay_part_writes_end_alike, overlay_writes_end_alike, symlinks_end_alike, unlinks_end_alike, writes_end_alike}
use Rattle.vt_laws_members.proofs.changes.files.PartWritten.{part_writes_end_alike}
use Rattle.vt_laws_members.proofs.changes.names.NewOpensEnding.{new_opens_end_alike}
use Rattle.vt_laws_members.proofs.changes.overlays.OverlayOpens.{overlay_opens_end_alike}
use Rattle.vt_laws_members.proofs.changes.tasks.Opening.{opens_end_alike}
use Rattle.vt_laws_members.specs.OverlayNames.EachCalls.{EachChmodEndsAlike, EachChownEndsAlike, EachLinkEndsAlike, EachMkdirEndsAlike, EachOpenEndsAlike, EachPartWriteEndsAlike, EachSymlinkEndsAlike, EachUnlinkEndsAlike, EachWriteEndsAlike}
use Rattle.vt_laws_members.specs.OverlayNames.OverlayNames.{OverlayMakingEndsAlike}
use Rattle.vt_laws_members.proofs.overlay_names.names.OverlayEnding.{overlay_links_end_alike, overlay_mkdirs_end_alike, overlay_new_files_end_alike, overlay_symlinks_end_alike, overlay_unlinks_end_alike}
use Rattle.vt_laws_members.proofs.overlay_names.names.OverlayNewOpens.{overlay_new_opens_end_alike}

-- what a call's permit can be
abbrev Makes : Permit ℕ → Type 0
Makes (ToMake directory entry node) = ⊤
Makes permit = ⊥

abbrev Changes : Permit ℕ → Type 0
Changes (ToChange location change) = ⊤
Changes permit = ⊥

abbrev Writes : Permit ℕ → Type 0
Writes (ToMake directory entry node) = ⊤
Writes (ToChange location change) = ⊤
Writes permit = ⊥

abbrev Opens : Permit ℕ → Type 0
Opens (ToOpen file access) = ⊤
Opens (ToOpenNew directory entry node access) = ⊤
Opens permit = ⊥

abbrev WritesPart : List ℕ → Permit ℕ → Type 0
WritesPart bytes (ToWritePart file offset written) = written ≡ bytes
WritesPart bytes permit = ⊥

abbrev pub Forks : Permit ℕ → Type 0
Forks (ToFork credentials) = ⊤
Forks permit = ⊥

abbrev pub Removes : Permit ℕ → Type 0
Removes (ToRemoveDirectory parent entry directory) = ⊤
Removes permit = ⊥

abbrev pub Renames : Permit ℕ → Type 0
Renames Allowed = ⊤
Renames (ToRename from entry to entry_new object replaced) = ⊤
Renames permit = ⊥

abbrev pub Fits : Call → Permit ℕ → Type 0
Fits (Write path bytes) permit = Writes permit
Fits (Mkdir path mode) permit = Makes permit
Fits (SymlinkAt text path) permit = Makes permit
Fits (LinkTo old new) permit = Changes permit
Fits (Unlink path) permit = Changes permit
Fits (Chmod path mode) permit = Changes permit
Fits (Chown path uid gid) permit = Changes permit
Fits (OpenFile path access how) permit = Opens permit
Fits (Pwrite descriptor offset bytes) permit = WritesPart bytes permit
Fits (Fork words) permit = Forks permit
Fits (Rmdir path) permit = Removes permit
Fits (Rename old new) permit = Renames permit
Fits call permit = ⊤

permits_fit_calls : (world : World ℕ) (fresh : Fresh ℕ) (task : Task ℕ) (asked : Call) (permit : Permit ℕ)
    → IsGranted nat_eq (looks_of nat_eq world) (overfills nat_eq fresh world task) task asked permit → Fits asked permit
permits_fit_calls world fresh task asked permit (writes_part number offset bytes descriptor found passed) = refl
permits_fit_calls world fresh task asked permit other_way = tt

-- on a plain filesystem, or through an overlay
pub either : {P : Type 0} (b : Bool) → ((b ≡ false) → P) → ((b ≡ true) → P) → P
either true plain merged = merged refl
either false plain merged = plain refl

module _ {world : World ℕ} {names : List TaskName} {name : TaskName} {call : Call}
    (it : IsCallOfTheirs world names name call) (fresh : Fresh ℕ) where
  -- by its permit
  pub fit_ends : only_looks call ≡ false → ((task : Task ℕ) → task_called world name ≡ Some task → (permit : Permit ℕ)
      → judge_in nat_eq fresh world task call ≡ Ok permit → Fits call permit
      → EndsAlike world names name call fresh fresh) → EndsAlike world names name call fresh fresh
  fit_ends looks ends = by_permit it fresh fresh looks (λ task called permit judged.
      ends task called permit judged (permits_fit_calls world fresh task call permit
      (calls_are_granted nat_eq (looks_of nat_eq world) (overfills nat_eq fresh world task) task call permit judged)))

  module _ (serves : Serves nat_eq world fresh) (task : Task ℕ) (called : task_called world name ≡ Some task) where
    making_ends : PlainMakingEndsAlike world names name call → OverlayMakingEndsAlike world names name call
        → (permit : Permit ℕ) → judge_in nat_eq fresh world task call ≡ Ok permit → Makes permit
        → EndsAlike world names name call fresh fresh
    making_ends plain merged (ToMake directory entry node) judged any =
        either (is_overlay (filesystem_at nat_eq world directory))
        (plain it task called fresh serves directory entry node judged)
        (merged it task called fresh serves directory entry node judged)
    making_ends plain merged permit judged none = absurd none

    change_ends : PlainChangeEndsAlike world names name call → OverlayChangeEndsAlike world names name call
        → (permit : Permit ℕ) → judge_in nat_eq fresh world task call ≡ Ok permit → Changes permit
        → EndsAlike world names name call fresh fresh
    change_ends plain merged (ToChange location change) judged any =
        either (is_overlay (filesystem_at nat_eq world location))
        (plain it task called fresh fresh location change judged)
        (merged it task called fresh serves location change judged)
    change_ends plain merged permit judged none = absurd none

pub each_mkdir_ends_alike : EachMkdirEndsAlike
each_mkdir_ends_alike world names name path mode it fresh serves =
    fit_ends it fresh refl (λ task called. making_ends it fresh serves task called
    (mkdirs_end_alike world names name path mode) (overlay_mkdirs_end_alike world names name path mode))

pub each_symlink_ends_alike : EachSymlinkEndsAlike
each_symlink_ends_alike world names name text path it fresh serves =
    fit_ends it fresh refl (λ task called. making_ends it fresh serves task called
    (symlinks_end_alike world names name text path) (overlay_symlinks_end_alike world names name text path))

pub each_link_ends_alike : EachLinkEndsAlike
each_link_ends_alike world names name old new it fresh serves =
    fit_ends it fresh refl (λ task called. change_ends it fresh serves task called
    (links_end_alike world names name old new) (overlay_links_end_alike world names name old new))

pub each_unlink_ends_alike : EachUnlinkEndsAlike
each_unlink_ends_alike world names name path it fresh serves =
    fit_ends it fresh refl (λ task called. change_ends it fresh serves task called
    (unlinks_end_alike world names name path) (overlay_unlinks_end_alike world names name path))

pub each_chmod_ends_alike : EachChmodEndsAlike
each_chmod_ends_alike world names name path mode it fresh serves =
    fit_ends it fresh refl (λ task called. change_ends it fresh serves task called
    (chmods_end_alike world names name path mode) (overlay_chmods_end_alike world names name path mode))

pub each_chown_ends_alike : EachChownEndsAlike
each_chown_ends_alike world names name path uid gid it fresh serves =
    fit_ends it fresh refl (λ task called. change_ends it fresh serves task called
    (chowns_end_alike world names name path uid gid) (overlay_chowns_end_alike world names name path uid gid))

pub each_write_ends_alike : EachWriteEndsAlike
each_write_ends_alike world names name path bytes it fresh serves =
    fit_ends it fresh refl of
  where
    of : (task : Task ℕ) → task_called world name ≡ Some task → (permit : Permit ℕ)
        → judge_in nat_eq fresh world task (Write path bytes) ≡ Ok permit → Writes permit
        → EndsAlike world names name (Write path bytes) fresh fresh
    of task called (ToMake directory entry node) judged any =
        making_ends it fresh serves task called (new_files_end_alike world names name path bytes)
        (overlay_new_files_end_alike world names name path bytes) (ToMake directory entry node) judged tt
    of task called (ToChange location change) judged any =
        change_ends it fresh serves task called (writes_end_alike world names name path bytes)
        (overlay_writes_end_alike world names name path bytes) (ToChange location change) judged tt
    of task called permit judged none = absurd none

pub each_open_ends_alike : EachOpenEndsAlike
each_open_ends_alike world names name path access how it fresh serves =
    fit_ends it fresh refl of
  where
    of : (task : Task ℕ) → task_called world name ≡ Some task → (permit : Permit ℕ)
        → judge_in nat_eq fresh world task (OpenFile path access how) ≡ Ok permit → Opens permit
        → EndsAlike world names name (OpenFile path access how) fresh fresh
    of task called (ToOpen file wanted) judged any = either (is_copied_up nat_eq world file wanted)
        (opens_end_alike world names name path access how it task called fresh fresh file wanted judged)
        (overlay_opens_end_alike world names name path access how it task called fresh serves file wanted judged)
    of task called (ToOpenNew directory entry node wanted) judged any =
        either (is_overlay (filesystem_at nat_eq world directory))
        (new_opens_end_alike world names name path access how it task called fresh serves directory entry node wanted
        judged)
        (overlay_new_opens_end_alike world names name path access how it task called fresh serves directory entry node
        wanted judged)
    of task called permit judged none = absurd none

pub each_part_write_ends_alike : EachPartWriteEndsAlike
each_part_write_ends_alike world names name descriptor offset [] it fresh serves =
    fit_ends it fresh refl of
  where
    of : (task : Task ℕ) → task_called world name ≡ Some task → (permit : Permit ℕ)
        → judge_in nat_eq fresh world task (Pwrite descriptor offset []) ≡ Ok permit → WritesPart [] permit
        → EndsAlike world names name (Pwrite descriptor offset []) fresh fresh
    of task called (ToWritePart file at written) judged same =
        empty_writes_end_alike world names name descriptor offset it task called fresh fresh file at (cc)
    of task called permit judged none = absurd none
each_part_write_ends_alike world names name descriptor offset (byte ∷ bytes) it fresh serves =
    fit_ends it fresh refl of
  where
    of : (task : Task ℕ) → task_called world name ≡ Some task → (permit : Permit ℕ)
        → judge_in nat_eq fresh world task (Pwrite descriptor offset (byte ∷ bytes)) ≡ Ok permit
        → WritesPart (byte ∷ bytes) permit
        → EndsAlike world names name (Pwrite descriptor offset (byte ∷ bytes)) fresh fresh
    of task called (ToWritePart file at written) judged same = either (is_overlay (filesystem_at nat_eq world file))
        (part_writes_end_alike world names name descriptor offset byte bytes it task called fresh fresh file at written
        judged)
        (overlay_part_writes_end_alike world names name descriptor offset byte bytes it task called fresh serves file at
        written judged)
    of task called permit judged none = absurd none
