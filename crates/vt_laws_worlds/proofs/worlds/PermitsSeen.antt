-- A permit that fits keeps what is seen.
use Rattle.std.proofs.Common.{arith, ◌≡◌, refl, sym, subst, ◌∙◌, ℕ, nat_eq, Bool, true, false, flat_map, List, [], ◌∷◌, Option, Some, None, map, All}
use Rattle.vt_spec.proofs.Common.{Change, CopyUp, Fresh, IsWorld, Location, Make, Mount, Move, Permit, Remove, Serves, Stands, Task, ToBind, ToChange, ToClose, ToEnterNamespace, ToExit, ToFork, ToMake, ToMountOverlay, ToMountPlain, ToMove, ToOpen, ToOpenNew, ToPivot, ToRemoveDirectory, ToRename, ToSetCredentials, ToSetDirectory, ToSetFlags, ToSetRoot, ToSetType, ToSetUmask, ToUnmount, ToUnmountLazily, ToUnshare, ToWritePart, World, among_from_all, apply, bind_tree, common_steps, evens, files_at, filesystems-taken_away, filesystems-without_replaced, going, is_copied_up, is_overlay, mount_at, mount_numbered, mount_tree, mounts_of, mounts_on, namespace_entered, namespaces_ended, odds, plain_filesystem, pwritten, taken_away, unshared, with_change, with_copy, without_mounts_on, without_replaced, without_task}
use Rattle.vt_laws_worlds.specs.Worlds.Kept.{IsPlain}
use Rattle.vt_laws_worlds.specs.Worlds.Permits.{NamesWhatIsThere, SetsBytesOfFiles}
use Rattle.vt_laws_worlds.proofs.worlds.Seen.{KeepsWhatIsSeen, same_seen, seen_alike, seen_on}
use Rattle.vt_laws_worlds.proofs.worlds.SeenMounts.{attached_seen, copied_seen, ended_seen, flags_seen, lazy_seen, mounted_seen, moved_seen, pivoted_seen, retyped_seen, taken_seen}
use Rattle.vt_laws_worlds.proofs.worlds.SeenMerges.{AreNewInodes, UppersAreElsewhere, change_keeps_seen, elsewhere_in, new_in, odds_new, served_new, uppers_elsewhere}
use Rattle.vt_laws_worlds.proofs.worlds.SeenTrees.{MakesNew, unused_inode}

-- what a permit sets or names makes nothing
pub makes_none : (world : World ℕ) (location : Location ℕ) (change : Change ℕ) → SetsBytesOfFiles world location change
    → MakesNew (files_at nat_eq world location) change
makes_none world location change sets = grind (arith, common_steps)

pub taken_plain : (world : World ℕ) (gone : List ℕ) → IsPlain world → IsPlain (taken_away nat_eq world gone)
taken_plain world gone plain = subst (All (λ filesystem. is_overlay filesystem ≡ false))
    (sym (filesystems-taken_away world gone)) plain

-- the mounts on a directory go
abbrev pub gone_on : World ℕ → Location ℕ → List ℕ
gone_on world location = map (λ (mount : Mount ℕ). mount.number)
    (flat_map (mount_tree nat_eq world.mounts) (mounts_on nat_eq world location))

pub point_removed_seen : (world : World ℕ) (location : Location ℕ)
    → KeepsWhatIsSeen world (without_mounts_on nat_eq world location)
point_removed_seen world location = taken_seen world _

pub replaced_seen : (world : World ℕ) (replaced : Option (Location ℕ))
    → KeepsWhatIsSeen world (without_replaced nat_eq world replaced)
replaced_seen world None = same_seen world
replaced_seen world (Some location) = point_removed_seen world location

pub replaced_plain : (world : World ℕ) (replaced : Option (Location ℕ)) → IsPlain world
    → IsPlain (without_replaced nat_eq world replaced)
replaced_plain world None plain = plain
replaced_plain world (Some location) plain = taken_plain world (gone_on world location) plain

pub namespaces_ended_seen : (world : World ℕ) → KeepsWhatIsSeen world (namespaces_ended nat_eq world)
namespaces_ended_seen world = ended_seen world _ _ refl refl

pub unshared_seen : (world : World ℕ) (fresh : Fresh ℕ) (task : Task ℕ)
    → KeepsWhatIsSeen world (unshared nat_eq world fresh task)
unshared_seen world fresh task =
    let copied = mounts_of nat_eq world task.namespace in
    copied_seen world _ _ refl refl

-- a change in a world with these filesystems
pub change_seen_in : (fresh : Fresh ℕ) (world middle : World ℕ) → UppersAreElsewhere world → AreNewInodes fresh world
    → middle.filesystems ≡ world.filesystems → (location : Location ℕ) (change : Change ℕ)
    → MakesNew (files_at nat_eq middle location) change
    → KeepsWhatIsSeen middle (with_change nat_eq fresh middle location change)
change_seen_in fresh world middle elsewhere are_new same location change =
    change_keeps_seen fresh middle (elsewhere_in middle world same elsewhere)
    (new_in fresh middle world same are_new) location change

module _ (fresh : Fresh ℕ) (world : World ℕ) (elsewhere : UppersAreElsewhere world)
    (are_new : AreNewInodes fresh world) where
  pub copy_seen : (b : Bool) (file : Location ℕ) → KeepsWhatIsSeen world (with_copy nat_eq b fresh world file)
  copy_seen true file = change_keeps_seen fresh world elsewhere are_new file (CopyUp file.node) tt
  copy_seen false file = same_seen world

  pub written_seen : (file : Location ℕ) (offset : ℕ) (bytes : List ℕ)
      → KeepsWhatIsSeen world (pwritten nat_eq fresh world file offset bytes)
  written_seen file offset [] = same_seen world
  written_seen file offset (byte ∷ bytes) = change_keeps_seen fresh world elsewhere are_new file _ tt

module _ (world : World ℕ) (fresh : Fresh ℕ) (task : Task ℕ) (is : IsWorld nat_eq world)
    (serves : Serves nat_eq world fresh) where
  abbrev after : Permit ℕ → World ℕ
  after permit = (apply nat_eq fresh world task permit).world

  pub elsewhere : UppersAreElsewhere world
  elsewhere = uppers_elsewhere world is.overlays

  pub are_new : AreNewInodes fresh world
  are_new = served_new world fresh serves is.files.numbers

  pub odds_are_new : AreNewInodes (odds fresh) world
  odds_are_new = odds_new world fresh are_new

  -- numbers of inodes that are made are new
  pub new_at : (location : Location ℕ) → (files_at nat_eq world location).tree.node (evens fresh 0) ≡ None
  new_at location = unused_inode world fresh serves is.files.numbers 0 (mount_at nat_eq world location).filesystem

  pub permits_keep_what_is_seen : (permit : Permit ℕ) → NamesWhatIsThere world task permit
      → KeepsWhatIsSeen world (after permit)
  permits_keep_what_is_seen (ToChange location change) names =
      change_keeps_seen fresh world elsewhere are_new location change (makes_none world location change names.1)
  permits_keep_what_is_seen (ToMake directory name node) names =
      change_keeps_seen (odds fresh) world elsewhere odds_are_new directory
      (Make directory.node name (evens fresh 0) node) (new_at directory)
  permits_keep_what_is_seen (ToRemoveDirectory parent name directory) names =
      let middle_one = without_mounts_on nat_eq world directory in
      seen_on world middle_one (after (ToRemoveDirectory parent name directory)) (point_removed_seen world directory)
      (change_seen_in fresh world middle_one elsewhere are_new
      (filesystems-taken_away world (gone_on world directory)) parent (Remove parent.node name directory.node) tt)
  permits_keep_what_is_seen (ToRename from old to new object replaced) names =
      let middle_one = without_replaced nat_eq world replaced in
      seen_on world middle_one (after (ToRename from old to new object replaced)) (replaced_seen world replaced)
      (change_seen_in fresh world middle_one elsewhere are_new (filesystems-without_replaced world replaced) from
      (Move from.node old to.node new object.node) tt)
  permits_keep_what_is_seen (ToOpen file access) names =
      let copied = with_copy nat_eq (is_copied_up nat_eq world file access) fresh world file in
      seen_on world copied (after (ToOpen file access))
      (copy_seen fresh world elsewhere are_new (is_copied_up nat_eq world file access) file)
      (seen_alike copied (after (ToOpen file access)) refl refl)
  permits_keep_what_is_seen (ToOpenNew directory name node access) names =
      seen_on world (after (ToMake directory name node)) (after (ToOpenNew directory name node access))
      (change_keeps_seen (odds fresh) world elsewhere odds_are_new directory
      (Make directory.node name (evens fresh 0) node) (new_at directory))
      (seen_alike (after (ToMake directory name node)) (after (ToOpenNew directory name node access)) refl refl)
  permits_keep_what_is_seen (ToWritePart file offset bytes) names =
      written_seen fresh world elsewhere are_new file offset bytes
  permits_keep_what_is_seen (ToClose descriptor) names = seen_alike world (after (ToClose descriptor)) refl refl
  permits_keep_what_is_seen (ToSetDirectory directory) names =
      seen_alike world (after (ToSetDirectory directory)) refl refl
  permits_keep_what_is_seen (ToSetRoot root) names = seen_alike world (after (ToSetRoot root)) refl refl
  permits_keep_what_is_seen (ToSetUmask umask) names = seen_alike world (after (ToSetUmask umask)) refl refl
  permits_keep_what_is_seen (ToSetCredentials credentials) names =
      seen_alike world (after (ToSetCredentials credentials)) refl refl
  permits_keep_what_is_seen (ToFork credentials) names = seen_alike world (after (ToFork credentials)) refl refl
  permits_keep_what_is_seen ToExit names =
      let left = without_task world task.name in
      seen_on world left (after ToExit) (seen_alike world left refl refl) (namespaces_ended_seen left)
  permits_keep_what_is_seen ToUnshare names =
      let copied = unshared nat_eq world fresh task in
      seen_on world copied (after ToUnshare) (unshared_seen world fresh task) (namespaces_ended_seen copied)
  permits_keep_what_is_seen (ToEnterNamespace namespace) names =
      let entered = namespace_entered nat_eq world task namespace in
      seen_on world entered (after (ToEnterNamespace namespace)) (seen_alike world entered refl refl)
      (namespaces_ended_seen entered)
  permits_keep_what_is_seen (ToMountPlain place flags) names =
      mounted_seen world (odds fresh) place (plain_filesystem nat_eq fresh) flags
  permits_keep_what_is_seen (ToMountOverlay place overlay flags) names = absurd names
  permits_keep_what_is_seen (ToBind source place recursive) names =
      attached_seen world fresh place (bind_tree nat_eq world source recursive)
  permits_keep_what_is_seen (ToMove mount place) names = moved_seen world fresh mount place is.mounts.one_number
      (λ one m. among_from_all (λ (x : Mount ℕ). Stands nat_eq world x.number) world.mounts is.mounts.standing one m)
      (names.own ∙ sym names.destination.own)
  permits_keep_what_is_seen (ToUnmount mount) names =
      taken_seen world (going nat_eq world (mount_numbered nat_eq world mount))
  permits_keep_what_is_seen (ToUnmountLazily mount) names = lazy_seen world mount
  permits_keep_what_is_seen (ToSetFlags mount flags) names = flags_seen world mount flags
  permits_keep_what_is_seen (ToSetType mount word recursive) names = retyped_seen world fresh mount word recursive
  permits_keep_what_is_seen (ToPivot new put) names =
      pivoted_seen (mount_at nat_eq world task.root) (mount_numbered nat_eq world new) put world task.namespace
  permits_keep_what_is_seen permit names = same_seen world
