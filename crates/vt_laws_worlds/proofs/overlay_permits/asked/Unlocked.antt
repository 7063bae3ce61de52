-- What each way in which a call is granted asks for spares what is locked.
use Rattle.std.proofs.Common.{arith, List, Some, [], eqb-true, false, nat_eq, refl, true, true≢false, ℕ, ◌||◌, ◌≡◌, option_to_list, ◌≢◌}
use Rattle.vt_spec.proofs.Common.{Access, Call, Fresh, Location, Looks, Node, Permit, Place, Task, ToOpen, World, common_steps, entry_at, file_mode, files_at, has_no_upper, is_locked, is_locked_at, is_special, list_any, looks_of, make_permit, mount_at, name_of, new_file, object_there, or_false_left, or_false_right, or_parts, overfills, removing, special_word}
use Rattle.vt_laws_trees.specs.Calls.Inodes.{written_if_some}
use Rattle.vt_laws_rules.proofs.given.Ways.{calls_are_granted}
use Rattle.vt_laws_rules.proofs.given.Ways.{IsGranted}
use Rattle.vt_spec.specs.Machine.Judging.{directory_made, symlink_made, whiteout_made}
use Rattle.vt_laws_rules.proofs.given.Ways.IsGranted.{changes_mark, changes_mode, changes_owner, creates, creates_exclusively, makes_directory, makes_hard_link, makes_symlink, makes_whiteout, opens, opens_existing, overwrites_file, removes_directory, renames, unlinks, writes_new_file, writes_part}
use Rattle.vt_laws_worlds.specs.OverlayPermits.Asked.{change_asked}
use Rattle.vt_laws_worlds.specs.OverlayPermits.Unlocked.{PermitsSpareWhatIsLocked, SparesLocked, SparesLockedIf}
use Rattle.vt_laws_worlds.proofs.permits.sees.SeesNames.{old_mount}
use Rattle.vt_laws_trees.proofs.trees.TreesWalked.{IsNewPlace, IsOldPlace, not-false, place_named}
use Rattle.vt_laws_trees.proofs.trees.PlacesReached.{old_is, old_leaf_is, rename_new_is}

module _ (world : World ℕ) (task : Task ℕ) (fresh : Fresh ℕ) where
  abbrev looks : Looks ℕ
  looks = looks_of nat_eq world

  abbrev Spares : Permit ℕ → Type 0
  Spares permit = SparesLockedIf world (change_asked fresh world permit)

  -- what is locked is not what is not
  differs : (location : Location ℕ) → is_locked_at nat_eq world location ≡ false → (number : ℕ)
      → (mount_at nat_eq world location).filesystem ≡ number
      → (inode : ℕ) → is_locked nat_eq world number inode ≡ true → inode ≢ location.node
  differs location unlocked number at inode locked same = true≢false (cc)

  -- a new inode in a directory that is not locked
  made_spared : (place : Place ℕ) (node : Node ℕ) → is_locked_at nat_eq world place.parent ≡ false
      → has_no_upper looks place.parent ≡ false → Spares (make_permit place node)
  made_spared place node unlocked layer =
      record { spares = λ inode locked. differs _ unlocked _ refl inode locked; layer = layer }

  -- open(2) of a file that exists
  opened_spared : (file : Location ℕ) (access : Access) → Spares (ToOpen file access)
  opened_spared file access = grind (arith, common_steps)

  -- The object of an old place is in the filesystem of its directory
  in_it : (place : Place ℕ) → is_special place.last ≡ false → IsOldPlace world task place
      → (mount_at nat_eq world (object_there place)).filesystem ≡ (mount_at nat_eq world place.parent).filesystem
  in_it place plain is = cc (old_mount world task place plain is)

  -- unlink(2) and rmdir(2)
  removed_spared : (place : Place ℕ) → is_special place.last ≡ false → IsOldPlace world task place
      → (is_locked_at nat_eq world (object_there place) || is_locked_at nat_eq world place.parent) ≡ false
      → SparesLocked world place.parent (removing place (object_there place))
  removed_spared place named is unlocked = grind (arith, common_steps, or_parts, differs, in_it)

  -- what has the new name is not locked
  not_replaced : (to : Place ℕ) → is_special to.last ≡ false → IsNewPlace world task to
      → list_any (is_locked_at nat_eq world) (option_to_list to.object) ≡ false
      → (inode : ℕ) → is_locked nat_eq world (mount_at nat_eq world to.parent).filesystem inode ≡ true
      → entry_at (files_at nat_eq world to.parent).tree to.parent.node (name_of to.last) ≢ Some inode
  not_replaced to named is unlocked inode locked e = grind (arith, common_steps, true≢false, or_false_left, place_named)

  written_spared : (file : Location ℕ) (offset : ℕ) (bytes : List ℕ) → is_locked_at nat_eq world file ≡ false
      → SparesLockedIf world (written_if_some world file offset bytes)
  written_spared file offset bytes unlocked = grind (arith, common_steps, differs)

  granted_spares : (call : Call) (permit : Permit ℕ)
      → IsGranted nat_eq looks (overfills nat_eq fresh world task) task call permit → Spares permit
  granted_spares call permit (overwrites_file path bytes place file end named there passed) =
      record { spares = λ inode locked. differs file passed.1.1.1.1.1.0 _ refl inode locked; layer = tt }
  granted_spares call permit (writes_new_file path bytes place end named missing fits passed) =
      made_spared place (new_file task file_mode bytes) passed.1.1.0 passed.1.0
  granted_spares call permit (makes_directory path mode place end passed) =
      made_spared place (directory_made task place mode) passed.1.1.1.1.0 passed.1.1.1.0
  granted_spares call permit (makes_symlink text path place fits end passed) =
      made_spared place (symlink_made task text) passed.1.1.1.1.0 passed.1.1.1.0
  granted_spares call permit (makes_whiteout path place end passed) =
      made_spared place (whiteout_made task) passed.1.1.1.1.0 passed.1.1.1.0
  granted_spares call permit (makes_hard_link old new from place from_end end named passed) = record {
    spares = λ inode locked. differs place.parent (or_false_right (is_locked_at nat_eq world from.location)
        (is_locked_at nat_eq world place.parent) passed.1.1.1.1.0) _ refl inode locked;
    layer = tt;
  }
  granted_spares call permit (unlinks path place end named passed) =
      removed_spared place named.0 (old_leaf_is world task path place end) passed.1.1.1.0
  granted_spares call permit (removes_directory path place end word passed) = removed_spared place
      (special_word _ word.0 word.1.0 word.1.1.0) (old_is world task path place end) passed.1.1.1.1.0
  granted_spares call permit (renames old new from to names two passed) =
      let is = old_leaf_is world task old from names.from_end in
      let to_is = rename_new_is world task new _ to names.to_end in
      let one_mount = eqb-true from.parent.mount to.parent.mount
      (not-false (nat_eq from.parent.mount to.parent.mount) passed.1.1.1.1.1.1.1.1.0) in
      let at_to : (mount_at nat_eq world to.parent).filesystem ≡ (mount_at nat_eq world from.parent).filesystem = cc in
      let locked_from = is_locked_at nat_eq world from.parent in
      let locked_to = is_locked_at nat_eq world to.parent in
      let locked_old = is_locked_at nat_eq world (object_there from) in
      let others = list_any (is_locked_at nat_eq world) (option_to_list to.object) in
      let of_from = or_parts _ _ passed.1.1.1.1.1.1.0 in
      let of_to = or_parts _ _ of_from.1 in
      let of_old = or_parts _ others of_to.1 in
      record {
        spares = λ inode locked. (
          differs _ of_from.0 _ refl inode locked,
          differs _ of_to.0 _ at_to inode locked,
          differs _ of_old.0 _ (in_it from names.from_named.0 is) inode locked,
          λ e. not_replaced to names.to_named.0 to_is.0 of_old.1 inode (cc) (cc),
        );
        layer = tt;
      }
  granted_spares call permit (changes_mode path mode here end passed) =
      record { spares = λ inode locked. differs _ passed.1.1.0 _ refl inode locked; layer = tt }
  granted_spares call permit (changes_owner path uid gid here end passed) =
      record { spares = λ inode locked. differs _ passed.1.1.0 _ refl inode locked; layer = tt }
  granted_spares call permit (changes_mark path mark here admin end passed) =
      record { spares = λ inode locked. differs _ passed.1.1.0 _ refl inode locked; layer = tt }
  granted_spares call permit (opens path access here room end passed) = opened_spared here.location access
  granted_spares call permit (opens_existing path access mode place file room end named there passed) =
      opened_spared file access
  granted_spares call permit (creates path access mode place room end named missing passed) =
      made_spared place (new_file task mode []) passed.1.1.0 passed.1.0
  granted_spares call permit (creates_exclusively path access mode place room end named passed) =
      made_spared place (new_file task mode []) passed.1.1.0 passed.1.0
  granted_spares call permit (writes_part number offset bytes descriptor found passed) =
      written_spared _ offset bytes passed.1.0
  granted_spares call permit granted = tt

pub permits_spare_what_is_locked : PermitsSpareWhatIsLocked
permits_spare_what_is_locked world fresh task call permit whole serves called judged =
    granted_spares world task fresh call permit (calls_are_granted nat_eq _ _ task call permit judged)
