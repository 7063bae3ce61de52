-- A call of theirs that removes a directory, or that renames, ends in the part as in the world, if no mount of another
-- namespace of theirs is on what goes.
use Rattle.std.proofs.Common.{arith, ◌≡◌, refl, sym, subst, ◌∙◌, ℕ, nat_eq, eqb-true, true, false, List, Option, Some, None, Ok, IfOk, option_map, option_to_list}
use Rattle.vt_spec.proofs.Common.{Call, Done, Fresh, Location, Looks, Move, Permit, Place, Remove, Rename, Rmdir, Serves, Task, TaskName, ToRemoveDirectory, ToRename, World, common_steps, entry_at, files_at, filesystem_at, holds_of, is_among, is_directory_there, is_locked_at, is_mount_point_anywhere, is_mount_point_in, is_overlay, judge_in, list_any, looks_of, name_of, none_is_some, object_there, only_looks, or_parts, overfills, part_of, same_Some, special_word, task_called, used_filesystems, judging}
use Rattle.vt_laws_members.proofs.judging.Common.{IsMember, JudgesAlike, PlaceAt, caller_in, judges, leads_alike, old_agrees, rename_new_agrees}
use Rattle.vt_laws_members.proofs.Common.{IsGranted, all_permits_fit, calls_are_granted, name_found, removes_directory, renames}
use Rattle.vt_laws_trees.proofs.trees.PlacesReached.{old_is, rename_new_is}
use Rattle.vt_laws_trees.proofs.trees.TreesWalked.{not-false, place_named}
use Rattle.vt_laws_worlds.proofs.permits.sees.SeesNames.{old_mount}
use Rattle.vt_laws_members.specs.Judging.{is_theirs}
use Rattle.vt_laws_members.specs.Changes.Changes.{EndsAlike, IsCallOfTheirs, grown}
use Rattle.vt_laws_members.proofs.changes.names.NamesEnding.{naming_ends, unused_numbers, unused_serve}
use Rattle.vt_laws_members.proofs.changes.names.GrantedNames.{NamingCall, naming_of}
use Rattle.vt_laws_worlds.specs.Worlds.Permits.{IsReached, NamesWhatIsThere}
use Rattle.vt_laws_trees.specs.Trees.Calls.{mounts_overlay}

-- What goes is on the mount of the directory, which is theirs, not locked, and no mount of the caller's namespace is on
-- it.
pub record IsFree (world : World ℕ) (names : List TaskName) (task : Task ℕ) (object parent : Location ℕ) : Type 0 where
  pub on : is_theirs world names object.mount ≡ true
  pub unlocked : is_locked_at nat_eq world object ≡ false
  pub bare : is_mount_point_in nat_eq (looks_of nat_eq world) task.namespace object ≡ false
  pub beside : object.mount ≡ parent.mount

-- What is removed or replaced is on a mount of theirs, and not locked.
module _ {world : World ℕ} {names : List TaskName} {task : Task ℕ} (member : IsMember world names task)
    (fresh : Fresh ℕ) where
  abbrev one : Looks ℕ
  one = looks_of nat_eq world

  abbrev other_looks : Looks ℕ
  other_looks = looks_of nat_eq (part_of nat_eq world names)

  abbrev On : ℕ → Type 0
  On number = is_theirs world names number ≡ true

  judged_alike : JudgesAlike one other_looks task (is_theirs world names)
      (λ number. is_among nat_eq number (used_filesystems nat_eq world names))
  judged_alike = judges member

  abbrev IsPlaced : Place ℕ → Type 0
  IsPlaced = PlaceAt (leads_alike judged_alike)

  object_on : (place : Place ℕ) → IsPlaced place → On (object_there place).mount
  object_on place at = grind (arith, common_steps)

  pub removed_free : (asked : Call) (permit : Permit ℕ)
      → IsGranted nat_eq one (overfills nat_eq fresh world task) task asked permit
      → (parent : Location ℕ) (entry : List ℕ) (directory : Location ℕ)
      → permit ≡ ToRemoveDirectory parent entry directory → IsFree world names task directory parent
  removed_free asked permit (removes_directory path place walk word passed) parent entry directory e =
      let same : object_there place ≡ directory = cc in
      let above : place.parent ≡ parent = cc in
      rw (← above) (subst (λ object. IsFree world names task object place.parent) same (record {
        on = object_on place (subst (λ r. IfOk r IsPlaced) walk (old_agrees (leads_alike judged_alike) path).1);
        unlocked = (or_parts (is_locked_at nat_eq world (object_there place)) (is_locked_at nat_eq world place.parent)
            passed.1.1.1.1.0).0;
        bare = passed.1.1.1.1.1.0;
        beside = old_mount world task place
            (special_word place.last word.0 word.1.0 word.1.1.0) (old_is world task path place walk);
      }))
  removed_free asked permit other_way parent entry directory e = absurd cc

  on_mount : (mount : ℕ) (replaced : Location ℕ) (o : Option ℕ)
      → option_map (λ n. record { mount = mount; node = n }) o ≡ Some replaced → replaced.mount ≡ mount
  on_mount mount replaced None f = none_is_some replaced f
  on_mount mount replaced (Some n) f = cc (same_Some (record { mount = mount; node = n }) replaced f)

  pub replaced_free : (asked : Call) (permit : Permit ℕ)
      → IsGranted nat_eq one (overfills nat_eq fresh world task) task asked permit
      → (from : Location ℕ) (old : List ℕ) (to : Location ℕ) (new : List ℕ) (object replaced : Location ℕ)
      → permit ≡ ToRename from old to new object (Some replaced) → IsFree world names task replaced from
  replaced_free asked permit (renames path other from_place to_place both two passed) from old to new object replaced
      e =
      let same : to_place.object ≡ Some replaced = cc in
      let source : from_place.parent ≡ from = cc in
      let to_is = rename_new_is world task other (is_directory_there nat_eq one from_place) to_place both.to_end in
      let together = eqb-true from_place.parent.mount to_place.parent.mount
      (not-false (nat_eq from_place.parent.mount to_place.parent.mount) passed.1.1.1.1.1.1.1.1.0) in
      subst (IsFree world names task replaced) source (record {
        on = (subst (λ r. IfOk r IsPlaced) both.to_end
            (rename_new_agrees (leads_alike judged_alike) other
            (is_directory_there nat_eq one from_place)).1).1 replaced same;
        unlocked = (or_parts (is_locked_at nat_eq world replaced) false
            (subst (λ o. list_any one.is_locked (option_to_list o) ≡ false) same
            (or_parts (is_locked_at nat_eq world (object_there from_place)) _
            (or_parts (is_locked_at nat_eq world to_place.parent) _
            (or_parts (is_locked_at nat_eq world from_place.parent) _ passed.1.1.1.1.1.1.0).1).1).1)).0;
        bare = subst (λ o. holds_of (is_mount_point_in nat_eq one task.namespace) o ≡ false) same
            (or_parts (is_mount_point_anywhere one (object_there from_place)) _ passed.1.1.1.1.1.1.1.0).1;
        beside = on_mount to_place.parent.mount replaced
            (entry_at (files_at nat_eq world to_place.parent).tree to_place.parent.node (name_of to_place.last))
            (sym (place_named world to_place.parent to_place.last to_place.object both.to_named.0 to_is.0.0).1 ∙ same)
            ∙ sym together;
      })
  replaced_free asked permit other_way from old to new object replaced e = absurd cc

-- A granted call by which a directory goes, with the mounts on it
pub record RemovingCall (world : World ℕ) (names : List TaskName) (name : TaskName) (call : Call) : Type 0 where
  pub naming : NamingCall world names name call
  pub open naming use *
  pub looks : only_looks call ≡ false
  pub stays : grown names name call (Ok Done) ≡ names
  pub gone : Location ℕ
  pub reached : IsReached world task location
  pub free : IsFree world names task gone location

-- its directory is one that the caller reaches
pub reached_from : {world : World ℕ} {names : List TaskName} {name : TaskName} {call : Call}
    (it : IsCallOfTheirs world names name call) (task : Task ℕ) → task_called world name ≡ Some task
    → (permit : Permit ℕ) → mounts_overlay call ≡ false
    → judge_in nat_eq (unused_numbers world) world task call ≡ Ok permit → NamesWhatIsThere world task permit
reached_from {world} {names} {name} {call} it task found permit files judged = (all_permits_fit world (unused_numbers
    world) task call permit it.is (unused_serve world) (cc (name_found world name task found)) files judged).names

-- these calls make nothing that is numbered
pub rmdir_takes_no_numbers : (fresh other : Fresh ℕ) (world : World ℕ) (task : Task ℕ) (path : List ℕ)
    → judge_in nat_eq fresh world task (Rmdir path) ≡ judge_in nat_eq other world task (Rmdir path)
unfolding judging
rmdir_takes_no_numbers fresh other world task path = refl

pub rename_takes_no_numbers : (fresh other : Fresh ℕ) (world : World ℕ) (task : Task ℕ) (old new : List ℕ)
    → judge_in nat_eq fresh world task (Rename old new) ≡ judge_in nat_eq other world task (Rename old new)
unfolding judging
rename_takes_no_numbers fresh other world task old new = refl

module _ {world : World ℕ} {names : List TaskName} {name : TaskName} (task : Task ℕ)
    (found : task_called world name ≡ Some task) (fresh : Fresh ℕ) (serves : Serves nat_eq world fresh) where
  abbrev pub removing_directory : {path : List ℕ} (it : IsCallOfTheirs world names name (Rmdir path))
      (parent : Location ℕ) (entry : List ℕ) (directory : Location ℕ)
      → judge_in nat_eq fresh world task (Rmdir path) ≡ Ok (ToRemoveDirectory parent entry directory)
      → RemovingCall world names name (Rmdir path)
  removing_directory {path} it parent entry directory judged = record {
    naming = naming_of it task found fresh serves (ToRemoveDirectory parent entry directory) judged parent
        (Remove parent.node entry directory.node) refl tt;
    looks = refl;
    stays = refl;
    gone = directory;
    reached = (reached_from it task found (ToRemoveDirectory parent entry directory) refl
        (rmdir_takes_no_numbers (unused_numbers world) fresh world task path ∙ judged)).0.reached;
    free = removed_free (caller_in it found) fresh (Rmdir path)
        (ToRemoveDirectory parent entry directory) (calls_are_granted nat_eq (looks_of nat_eq world)
        (overfills nat_eq fresh world task) task (Rmdir path)
        (ToRemoveDirectory parent entry directory) judged) parent entry directory refl;
  }

  abbrev pub replacing : {first second : List ℕ} (it : IsCallOfTheirs world names name (Rename first second))
      (from : Location ℕ) (old : List ℕ) (to : Location ℕ) (new : List ℕ) (object gone : Location ℕ)
      → judge_in nat_eq fresh world task (Rename first second) ≡ Ok (ToRename from old to new object (Some gone))
      → RemovingCall world names name (Rename first second)
  replacing {first} {second} it from old to new object gone judged = record {
    naming = naming_of it task found fresh serves (ToRename from old to new object (Some gone)) judged from
        (Move from.node old to.node new object.node) refl tt;
    looks = refl;
    stays = refl;
    gone = gone;
    reached = (reached_from it task found (ToRename from old to new object (Some gone)) refl
        (rename_takes_no_numbers (unused_numbers world) fresh world task first second ∙ judged)).0.reached;
    free = replaced_free (caller_in it found) fresh (Rename first second)
        (ToRename from old to new object (Some gone))
        (calls_are_granted nat_eq (looks_of nat_eq world) (overfills nat_eq fresh world task) task
        (Rename first second) (ToRename from old to new object (Some gone)) judged) from old to new object gone refl;
  }

-- a rename that replaces nothing
pub renames_end_alike : (world : World ℕ) (names : List TaskName) (name : TaskName) (first second : List ℕ)
    → IsCallOfTheirs world names name (Rename first second) → (task : Task ℕ) → task_called world name ≡ Some task
    → (fresh other : Fresh ℕ) (from : Location ℕ) (old : List ℕ) (to : Location ℕ) (new : List ℕ) (object : Location ℕ)
    → judge_in nat_eq fresh world task (Rename first second) ≡ Ok (ToRename from old to new object None)
    → is_overlay (filesystem_at nat_eq world from) ≡ false
    → EndsAlike world names name (Rename first second) fresh other
renames_end_alike world names name first second it task found fresh other from old to new object judged plain =
    naming_ends (naming_of it task found (unused_numbers world) (unused_serve world)
    (ToRename from old to new object None)
    (rename_takes_no_numbers (unused_numbers world) fresh world task first second ∙ judged) from (Move from.node old to.node new object.node) refl tt) refl refl
    plain fresh other judged fresh other refl refl
