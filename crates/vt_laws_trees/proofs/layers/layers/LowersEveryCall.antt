-- In a filesystem that no overlay writes to, calls that change no mount leave each locked inode as it was.
use Rattle.std.proofs.Common.{◌≡◌, ◌≢◌, sym, true≢false, ℕ, nat_eq, true, List, [], ◌∷◌, ap, eqb-true, ne_eqb, refl, ◌∙◌, Bool, false}
use Rattle.vt_spec.proofs.Common.{Access, Call, Change, CopyUp, Fresh, Location, Node, Permit, Place, SetBytes, Task, ToOpen, World, apply, call_outcome, evens, file_mode, filesystems-without_replaced, is_among, is_copied_up, is_locked, is_locked_at, linking, looks_of, make_permit, making, mount_at, moving, new_file, not-false, object_there, odds, or_false_left, or_false_right, or_from, or_parts, overfills, pwritten, removing, shown-without_replaced, with_change, with_copy, without_mounts_on, without_replaced}
use Rattle.vt_laws_trees.specs.Layers.Layers.Untouched.{HasNoUpperLayer, changes_no_mount, inodes_changed}
use Rattle.vt_laws_trees.proofs.layers.layers.LowersCalls.{Stays, stays_itself, change_stays, stays_where_same, unlocked_differs}
use Rattle.vt_laws_rules.proofs.given.CallsGranted.{call_holds}
use Rattle.vt_laws_rules.proofs.given.Ways.{IsGranted}
use Rattle.vt_laws_rules.proofs.given.Ways.IsGranted.{changes_mark, changes_mode, changes_owner, creates, creates_exclusively, makes_directory, makes_hard_link, makes_symlink, makes_whiteout, mounts_overlayfs, mounts_tmpfs, opens, opens_existing, overwrites_file, removes_directory, renames, unlinks, writes_new_file, writes_part}
use Rattle.vt_laws_trees.proofs.layers.layers.LowersMounts.{same_filesystems_without, same_mounted_without}
use Rattle.vt_laws_trees.proofs.trees.ChangesByOthers.{files_stay}

module _ {world : World ℕ} {filesystem : ℕ} (inode : ℕ) (own : HasNoUpperLayer world filesystem)
    (locked : is_locked nat_eq world filesystem inode ≡ true) (task : Task ℕ) (fresh : Fresh ℕ)
    (new : (k : ℕ) → inode ≢ fresh k) where
  abbrev Kept : World ℕ → Type 0
  Kept = Stays world filesystem inode

  kept : Kept world
  kept = stays_itself world filesystem inode

  differs : (location : Location ℕ) → is_locked_at nat_eq world location ≡ false
      → filesystem ≡ (mount_at nat_eq world location).filesystem → nat_eq inode location.node ≡ false
  differs = unlocked_differs world filesystem inode locked

  -- a change of one inode that is not locked
  one_stays : (location : Location ℕ) (change : Change ℕ) → inodes_changed change ≡ location.node ∷ []
      → is_locked_at nat_eq world location ≡ false → Kept (with_change nat_eq fresh world location change)
  one_stays location change is unlocked = change_stays world filesystem inode own fresh world
      refl location change (λ at. ap (is_among nat_eq inode) is ∙ or_from _ false (differs location unlocked at) refl)

  -- a new object in a directory that is not locked
  new_stays : (place : Place ℕ) (node : Node ℕ) → is_locked_at nat_eq world place.parent ≡ false
      → Kept (apply nat_eq fresh world task (make_permit place node)).world
  new_stays place node unlocked =
      change_stays world filesystem inode own (odds fresh) world refl place.parent (making place (evens fresh 0) node)
      (λ at. or_from (nat_eq inode (fresh 0)) _ (ne_eqb inode (fresh 0) (new 0))
      (or_from (nat_eq inode place.parent.node) false (differs place.parent unlocked at) refl))

  opened_stays : (file : Location ℕ) (access : Access) → Kept (apply nat_eq fresh world task (ToOpen file access)).world
  opened_stays file access = by (is_copied_up nat_eq world file access)
    where
      by : (b : Bool) → Kept (with_copy nat_eq b fresh world file)
      by true = change_stays world filesystem inode own fresh world refl file (CopyUp file.node) (λ at. refl)
      by false = kept

  written_stays : (file : Location ℕ) (offset : ℕ) (bytes : List ℕ) → is_locked_at nat_eq world file ≡ false
      → Kept (pwritten nat_eq fresh world file offset bytes)
  written_stays file offset [] unlocked = kept
  written_stays file offset (byte ∷ bytes) unlocked = one_stays file _ refl unlocked

  granted_stays : (call : Call) (permit : Permit ℕ) → changes_no_mount call ≡ true
      → IsGranted nat_eq (looks_of nat_eq world) (overfills nat_eq fresh world task) task call permit
      → Kept (apply nat_eq fresh world task permit).world
  granted_stays call permit c (overwrites_file path bytes place file end named there passed) =
      one_stays file (SetBytes file.node bytes) refl passed.1.1.1.1.1.0
  granted_stays call permit c (writes_new_file path bytes place end named missing fits passed) =
      new_stays place (new_file task file_mode bytes) passed.1.1.0
  granted_stays call permit c (makes_directory path mode place end passed) = new_stays place _ passed.1.1.1.1.0
  granted_stays call permit c (makes_symlink text path place fits end passed) = new_stays place _ passed.1.1.1.1.0
  granted_stays call permit c (makes_whiteout path place end passed) = new_stays place _ passed.1.1.1.1.0
  granted_stays call permit c (makes_hard_link old name from place from_end end named passed) =
      one_stays place.parent (linking from.location place) refl
      (or_false_right (is_locked_at nat_eq world from.location) _ passed.1.1.1.1.0)
  granted_stays call permit c (unlinks path place end named passed) =
      one_stays place.parent (removing place (object_there place)) refl (or_false_right _ _ passed.1.1.1.0)
  granted_stays call permit c (removes_directory path place end word passed) = change_stays world filesystem inode own
      fresh (without_mounts_on nat_eq world (object_there place)) (same_filesystems_without world (object_there place))
      place.parent (removing place (object_there place)) (λ at. or_from _ false (differs place.parent
      (or_false_right _ _ passed.1.1.1.1.0) (at ∙ same_mounted_without world (object_there place) place.parent)) refl)
  granted_stays call permit c (renames old name from to names two passed) =
      let of_from = or_parts (is_locked_at nat_eq world from.parent) _ passed.1.1.1.1.1.1.0 in
      change_stays world filesystem inode own fresh (without_replaced nat_eq world to.object)
      (filesystems-without_replaced world to.object) from.parent (moving from to (object_there from))
      (λ at. let there = at ∙ shown-without_replaced world to.object from.parent in
      or_from (nat_eq inode from.parent.node) _ (differs from.parent of_from.0 there)
      (or_from (nat_eq inode to.parent.node) false (differs to.parent (or_false_left _ _ of_from.1)
      (there ∙ ap (λ m. (mount_at nat_eq world (record { mount = m; node = from.parent.node })).filesystem)
      (eqb-true from.parent.mount to.parent.mount (not-false _ passed.1.1.1.1.1.1.1.1.0)))) refl))
  granted_stays call permit c (changes_mode path mode here end passed) = one_stays here.location _ refl passed.1.1.0
  granted_stays call permit c (changes_owner path uid gid here end passed) = one_stays here.location _ refl passed.1.1.0
  granted_stays call permit c (changes_mark path mark here admin end passed) = one_stays _ _ refl passed.1.1.0
  granted_stays call permit c (opens path access here room end passed) = opened_stays here.location access
  granted_stays call permit c (opens_existing path access mode place file room end named there passed) =
      opened_stays file access
  granted_stays call permit c (creates path access mode place room end named missing passed) =
      new_stays place (new_file task mode []) passed.1.1.0
  granted_stays call permit c (creates_exclusively path access mode place room end named passed) =
      new_stays place (new_file task mode []) passed.1.1.0
  granted_stays call permit c (writes_part number offset bytes descriptor found passed) =
      written_stays descriptor.location offset bytes passed.1.0
  granted_stays call permit c (mounts_tmpfs path flags here admin end passed) = absurd (true≢false (sym c))
  granted_stays call permit c (mounts_overlayfs path words flags here layers admin end walked layered passed) =
      absurd (true≢false (sym c))
  granted_stays call permit c granted =
      stays_where_same world filesystem inode (apply nat_eq fresh world task permit).world
      (files_stay fresh world task permit refl)

pub locked_inodes_stay : (fresh : Fresh ℕ) (world : World ℕ) (task : Task ℕ) (call : Call) (filesystem inode : ℕ)
    → changes_no_mount call ≡ true → HasNoUpperLayer world filesystem
    → is_locked nat_eq world filesystem inode ≡ true → ((k : ℕ) → inode ≢ fresh k)
    → Stays world filesystem inode (call_outcome nat_eq fresh world task call).world
locked_inodes_stay fresh world task call filesystem inode c own locked new =
    call_holds (Stays world filesystem inode) fresh world task call (stays_itself world filesystem inode)
    (λ permit granted. granted_stays inode own locked task fresh new call permit c granted)
