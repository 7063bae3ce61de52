-- A permit that fits leaves each mount with a root and a place that are directories.
use Rattle.std.proofs.Common.{arith, ◌≡◌, refl, ℕ, nat_eq, Bool, true, false, List, [], ◌∷◌, Option, Some, None}
use Rattle.vt_laws_mounts.proofs.mounts.MountsLeft.{mounts-with_change}
use Rattle.vt_spec.proofs.Common.{Change, CopyUp, Fresh, IsWorld, Location, Make, Move, Permit, Remove, Serves, Task, ToBind, ToChange, ToClose, ToEnterNamespace, ToExit, ToFork, ToMake, ToMountOverlay, ToMountPlain, ToMove, ToOpen, ToOpenNew, ToPivot, ToRemoveDirectory, ToRename, ToSetCredentials, ToSetDirectory, ToSetFlags, ToSetRoot, ToSetType, ToSetUmask, ToUnmount, ToUnmountLazily, ToUnshare, ToWritePart, World, and_parts, apply, common_steps, evens, filesystems-taken_away, filesystems-without_replaced, going, is_copied_up, mount_at, mount_numbered, namespace_entered, odds, pwritten, unshared, with_change, with_copy, without_mounts_on, without_replaced, without_task}
use Rattle.vt_laws_worlds.specs.Worlds.Kept.{KeptByAllPermits, KeptByPermits, MountsShow}
use Rattle.vt_laws_worlds.specs.Worlds.Permits.{IsReachedDirectory, NamesWhatIsThere}
use Rattle.vt_laws_worlds.proofs.worlds.PermitsSeen.{are_new, change_seen_in, copy_seen, elsewhere, gone_on, makes_none, new_at, odds_are_new, permits_keep_what_is_seen, written_seen}
use Rattle.vt_laws_worlds.proofs.worlds.Roots.{own_there}
use Rattle.vt_laws_worlds.proofs.worlds.Seen.{KeepsWhatIsSeen, seen_alike}
use Rattle.vt_laws_worlds.proofs.worlds.SeenMerges.{change_keeps_seen}
use Rattle.vt_laws_worlds.proofs.worlds.Shows.{AllShow, IsPlace, all_show_after, ended_show, flags_show, lazy_show, mounts_show, own_shows, pivoted_show, retyped_show, taken_show, unshared_show, world_shows}
use Rattle.vt_laws_worlds.proofs.worlds.ShowsGrafts.{bound_show, mounted_show, moved_show}

module _ (world : World ℕ) (fresh : Fresh ℕ) (task : Task ℕ) (is : IsWorld nat_eq world)
    (serves : Serves nat_eq world fresh) where
  abbrev after : Permit ℕ → World ℕ
  after permit = (apply nat_eq fresh world task permit).world

  shows : AllShow world
  shows = world_shows world is

  reached_place : (location : Location ℕ) → IsReachedDirectory world task location → IsPlace world location
  reached_place location at = grind (arith, common_steps, and_parts)

  -- a change of a tree
  changing : (supply : Fresh ℕ) (middle : World ℕ) → AllShow middle → (location : Location ℕ) (change : Change ℕ)
      → KeepsWhatIsSeen middle (with_change nat_eq supply middle location change)
      → AllShow (with_change nat_eq supply middle location change)
  changing supply middle show location change seen =
      all_show_after middle _ seen (mounts-with_change middle supply location change) show

  copying : (b : Bool) (file : Location ℕ) → AllShow (with_copy nat_eq b fresh world file)
  copying true file = changing fresh world shows file (CopyUp file.node)
      (copy_seen fresh world (elsewhere world fresh task is serves) (are_new world fresh task is serves) true file)
  copying false file = shows

  writing : (file : Location ℕ) (offset : ℕ) (bytes : List ℕ) → AllShow (pwritten nat_eq fresh world file offset bytes)
  writing file offset [] = shows
  writing file offset (byte ∷ bytes) = changing fresh world shows file _
      (written_seen fresh world (elsewhere world fresh task is serves) (are_new world fresh task is serves) file offset
      (byte ∷ bytes))

  replacing : (replaced : Option (Location ℕ)) → AllShow (without_replaced nat_eq world replaced)
  replacing None = shows
  replacing (Some location) = taken_show world _ shows

  -- mounts and filesystems are as they were
  alike : (before later : World ℕ) → later.mounts ≡ before.mounts → later.filesystems ≡ before.filesystems
      → AllShow before → AllShow later
  alike before later mounts filesystems = all_show_after before later
      (seen_alike before later mounts filesystems) mounts

  pub permits_keep_all_shown : (permit : Permit ℕ) → NamesWhatIsThere world task permit → AllShow (after permit)
  permits_keep_all_shown (ToChange location change) fits = changing fresh world shows location change
      (change_keeps_seen fresh world (elsewhere world fresh task is serves)
      (are_new world fresh task is serves) location change (makes_none world location change fits.1))
  permits_keep_all_shown (ToMake directory name node) fits =
      changing (odds fresh) world shows directory (Make directory.node name (evens fresh 0) node)
      (change_keeps_seen (odds fresh) world (elsewhere world fresh task is serves)
      (odds_are_new world fresh task is serves) directory (Make directory.node name (evens fresh 0) node)
      (new_at world fresh task is serves directory))
  permits_keep_all_shown (ToRemoveDirectory parent name directory) fits =
      changing fresh (without_mounts_on nat_eq world directory)
      (taken_show world (gone_on world directory) shows) parent (Remove parent.node name directory.node)
      (change_seen_in fresh world (without_mounts_on nat_eq world directory) (elsewhere world fresh task is serves)
      (are_new world fresh task is serves) (filesystems-taken_away world (gone_on world directory)) parent
      (Remove parent.node name directory.node) tt)
  permits_keep_all_shown (ToRename from old to new object replaced) fits =
      changing fresh (without_replaced nat_eq world replaced) (replacing replaced) from
      (Move from.node old to.node new object.node)
      (change_seen_in fresh world (without_replaced nat_eq world replaced) (elsewhere world fresh task is serves)
      (are_new world fresh task is serves) (filesystems-without_replaced world replaced) from
      (Move from.node old to.node new object.node) tt)
  permits_keep_all_shown (ToOpen file access) fits =
      alike (with_copy nat_eq (is_copied_up nat_eq world file access) fresh world file) (after (ToOpen file access))
      refl refl (copying (is_copied_up nat_eq world file access) file)
  permits_keep_all_shown (ToOpenNew directory name node access) fits =
      alike (after (ToMake directory name node)) (after (ToOpenNew directory name node access)) refl refl
      (changing (odds fresh) world shows directory (Make directory.node name (evens fresh 0) node)
      (change_keeps_seen (odds fresh) world (elsewhere world fresh task is serves)
      (odds_are_new world fresh task is serves) directory (Make directory.node name (evens fresh 0) node)
      (new_at world fresh task is serves directory)))
  permits_keep_all_shown (ToWritePart file offset bytes) fits = writing file offset bytes
  permits_keep_all_shown (ToClose descriptor) fits = alike world (after (ToClose descriptor)) refl refl shows
  permits_keep_all_shown (ToSetDirectory directory) fits =
      alike world (after (ToSetDirectory directory)) refl refl shows
  permits_keep_all_shown (ToSetRoot root) fits = alike world (after (ToSetRoot root)) refl refl shows
  permits_keep_all_shown (ToSetUmask umask) fits = alike world (after (ToSetUmask umask)) refl refl shows
  permits_keep_all_shown (ToSetCredentials credentials) fits =
      alike world (after (ToSetCredentials credentials)) refl refl shows
  permits_keep_all_shown (ToFork credentials) fits = alike world (after (ToFork credentials)) refl refl shows
  permits_keep_all_shown ToExit fits =
      let left = without_task world task.name in
      ended_show left (alike world left refl refl shows)
  permits_keep_all_shown ToUnshare fits = ended_show (unshared nat_eq world fresh task)
      (unshared_show world fresh task is serves)
  permits_keep_all_shown (ToEnterNamespace namespace) fits =
      let entered = namespace_entered nat_eq world task namespace in
      ended_show entered (alike world entered refl refl shows)
  permits_keep_all_shown (ToMountPlain place flags) fits =
      mounted_show world is fresh serves place flags (reached_place place fits.directory)
  permits_keep_all_shown (ToMountOverlay place overlay flags) fits = absurd fits
  permits_keep_all_shown (ToBind source place recursive) fits =
      bound_show world is fresh source place recursive serves fits.0.directory (reached_place place fits.2.directory)
  permits_keep_all_shown (ToMove mount place) fits =
      moved_show world is fresh mount place serves (own_there world is mount task.namespace fits.own)
      (permits_keep_what_is_seen world fresh task is serves (ToMove mount place) fits)
      (reached_place place fits.destination.directory)
  permits_keep_all_shown (ToUnmount mount) fits =
      taken_show world (going nat_eq world (mount_numbered nat_eq world mount)) shows
  permits_keep_all_shown (ToUnmountLazily mount) fits = lazy_show world mount shows
  permits_keep_all_shown (ToSetFlags mount flags) fits =
      flags_show world mount flags shows (own_shows world is mount task.namespace fits)
  permits_keep_all_shown (ToSetType mount word recursive) fits = retyped_show world fresh mount word recursive shows
  permits_keep_all_shown (ToPivot new put) fits =
      pivoted_show world task.namespace (mount_at nat_eq world task.root) (mount_numbered nat_eq world new) put shows
      (own_shows world is task.root.mount task.namespace fits.own_root) (reached_place put fits.destination.directory)
  permits_keep_all_shown permit fits = shows

pub all_permits_keep_mounts_showing : KeptByAllPermits MountsShow
all_permits_keep_mounts_showing world fresh task permit is serves called fits =
    mounts_show _ (permits_keep_all_shown world fresh task is serves permit fits.names)

pub permits_keep_mounts_showing : KeptByPermits MountsShow
permits_keep_mounts_showing world fresh task permit is plain serves called fits =
    all_permits_keep_mounts_showing world fresh task permit is serves called fits
