-- Directories that others remove, and files and directories that they rename: rmdir(2), rename(2). Mounts on what goes
-- are of others, in whatever namespace.
use Rattle.std.proofs.Common.{inl, inr, arith, ◌≡◌, refl, sym, ap, subst, ◌∙◌, ⊎_elim, ℕ, nat_eq, true, false, true≢false, List, [], Option, Some, None, Ok, flat_map, length, map, ◌&&◌, eqb-true, option_map}
use Rattle.vt_spec.proofs.Common.{Among, Call, Change, Filesystem, Fresh, Location, Mount, Move, Permit, Stands, Task, TaskName, ToRemoveDirectory, ToRename, World, among-append_left, among-filter, among-from_filter, among-from_flat_map, among-from_map, among-map, among_from_all, among_numbers, and_parts, any_among, any_from_among, apply, changed_at, common_steps, entry_at, false_from_ne_true, files_at, filesystem_at, filesystem_numbered, filesystems_changed, found_or_none, holds_of, is_among, is_directory_there, is_going, is_own_mount, is_own_namespace, is_point, judge_in, list_any, looks_of, mount_at, mount_numbered, mount_tree, mounts_on, name_of, none_is_some, object_there, overfills, own_mounts, points_of, same_Some, settled, special_word, used_filesystems, with_change, without_mounts_on}
use Rattle.vt_laws_sealed.proofs.Common.{cases_Option, IsGranted, calls_are_granted, change_asked, found_itself, namespace_below, not-false, number_of_filesystem, place_named, placed_inside, removes_directory, renames, the_rest_stays}
use Rattle.vt_laws_sealed.proofs.outsiders.OthersCalls.{IsOthersCall, apart_from}
use Rattle.vt_laws_trees.proofs.trees.PlacesReached.{old_is, rename_new_is}
use Rattle.vt_laws_trees.proofs.layers.layers.LowersMounts.{same_filesystems_without, same_mounted_without}
use Rattle.vt_laws_worlds.proofs.permits.sees.SeesNames.{old_mount}
use Rattle.vt_laws_sealed.specs.Part.Seals.{IsApart}
use Rattle.vt_laws_sealed.proofs.part.part.PartOfPart.{used_directly_used}
use Rattle.vt_laws_sealed.proofs.outsiders.ChangedWorlds.{others_rest}
use Rattle.vt_laws_sealed.proofs.outsiders.ChangingFiles.{change_leaves, change_alone}
use Rattle.vt_laws_sealed.proofs.outsiders.FilesOfCalls.{changed_is_unused, upper_is_unused}
use Rattle.vt_laws_sealed.proofs.outsiders.OtherMounts.{standing_apart, tree_in}
use Rattle.vt_laws_sealed.proofs.outsiders.Staying.{LeavesApart}
use Rattle.vt_laws_sealed.proofs.outsiders.TakingAway.{namespaces_taken_away, taken_leaves_apart}

-- what a change at a location changes depends on filesystems alone
changed_at_same : (a b : World ℕ) (location : Location ℕ) → a.filesystems ≡ b.filesystems
    → (mount_at nat_eq a location).filesystem ≡ (mount_at nat_eq b location).filesystem
    → changed_at nat_eq a location ≡ changed_at nat_eq b location
changed_at_same a b location same mounted = grind (arith, common_steps)

-- Mounts on a directory in a filesystem that the set does not use
module _ {world : World ℕ} {names : List TaskName} (apart : IsApart world names) (directory : Location ℕ)
    (unused : (n : ℕ) → list_any (λ (point : ℕ × ℕ). nat_eq n point.0) (points_of nat_eq world directory) ≡ true
    → is_among nat_eq n (used_filesystems nat_eq world names) ≡ false) where
  abbrev IsOfOthersAt : Mount ℕ → Type 0
  IsOfOthersAt mount = (n : ℕ) × (mount.namespace ≡ Some n) × (is_own_namespace nat_eq world names n ≡ false)

  itself : (mount : Mount ℕ) → Among mount world.mounts → mount_numbered nat_eq world mount.number ≡ mount
  itself mount m = found_itself world.mounts apart.is.mounts.one_number mount m

  -- the mount that such a mount stands on shows a filesystem that is not theirs
  parent_not_own : (mount : Mount ℕ) → Among mount world.mounts → (point : Location ℕ) → mount.mount_point ≡ Some point
      → is_among nat_eq (mount_at nat_eq world point).filesystem (used_filesystems nat_eq world names) ≡ false
      → IsOfOthersAt mount
  parent_not_own mount m point stands not_theirs = elim (cases_Option mount.namespace) [
    | inl e ↦ absurd (placed_inside world apart.is.mounts mount m point stands e)
    | inr its ↦ (
      its.0,
      its.1,
      false_from_ne_true (is_own_namespace nat_eq world names its.0) (λ own.
          let placed : (mount_at nat_eq world point).namespace ≡ Some its.0 =
          sym (namespace_below world mount.number point
          (among_from_all (λ (x : Mount ℕ). Stands nat_eq world x.number) world.mounts apart.is.mounts.standing mount
          m) (ap (λ (x : Mount ℕ). x.mount_point) (itself mount m) ∙ stands))
          ∙ ap (λ (x : Mount ℕ). x.namespace) (itself mount m) ∙ its.1 in
          let parent : Among (mount_at nat_eq world point) (own_mounts nat_eq world names) =
          among-filter (is_own_mount nat_eq world names) world.mounts (mount_at nat_eq world point) (⊎_elim (λ k. k)
          (λ none. none_is_some its.0 (cc (placed)))
          (found_or_none world.mounts point.mount))
          (cc (placed)) in
          true≢false (sym (used_directly_used world names (mount_at nat_eq world point).filesystem
          (among-append_left (map (λ (x : Mount ℕ). x.filesystem) (own_mounts nat_eq world names)) _
          (mount_at nat_eq world point).filesystem
          (among-map (λ (x : Mount ℕ). x.filesystem) (own_mounts nat_eq world names) (mount_at nat_eq world point)
          parent))) ∙ not_theirs)),
    )
  ]

  mount_on_other : (mount : Mount ℕ) → Among mount (mounts_on nat_eq world directory) → IsOfOthersAt mount
  mount_on_other mount m =
      let from = among-from_filter (λ (x : Mount ℕ). list_any (λ (point : ℕ × ℕ).
      is_point nat_eq world point.0 point.1 x) (points_of nat_eq world directory)) world.mounts mount m in
      let at = any_among (λ (point : ℕ × ℕ). is_point nat_eq world point.0 point.1 mount)
      (points_of nat_eq world directory) from.1 in
      by from.0 at.0 at.1 mount.mount_point refl at.2
    where
      by : Among mount world.mounts → (at : ℕ × ℕ) → Among at (points_of nat_eq world directory)
          → (o : Option (Location ℕ)) → mount.mount_point ≡ o → holds_of (λ (point : Location ℕ). nat_eq point.node at.1
          && nat_eq (mount_at nat_eq world point).filesystem at.0) o ≡ true → IsOfOthersAt mount
      by k at among None e h = cc
      by k at among (Some point) e h = parent_not_own mount k point e (unused (mount_at nat_eq world point).filesystem
          (any_from_among (λ (p : ℕ × ℕ). nat_eq (mount_at nat_eq world point).filesystem p.0)
          (points_of nat_eq world directory) at among
          (and_parts (nat_eq point.node at.1) (nat_eq (mount_at nat_eq world point).filesystem at.0) h).1))

  abbrev gone : List ℕ
  gone = map (λ (mount : Mount ℕ). mount.number)
      (flat_map (mount_tree nat_eq world.mounts) (mounts_on nat_eq world directory))

  others_go : (k : ℕ) → is_going nat_eq gone k ≡ true
      → (n : ℕ) × ((mount_numbered nat_eq world k).namespace ≡ Some n) × (is_own_namespace nat_eq world names n ≡ false)
  others_go k h =
      let from = among-from_map (λ (mount : Mount ℕ). mount.number)
      (flat_map (mount_tree nat_eq world.mounts) (mounts_on nat_eq world directory)) k (among_numbers gone k h) in
      let top = among-from_flat_map (mount_tree nat_eq world.mounts) (mounts_on nat_eq world directory) from.0 from.1 in
      let other = mount_on_other top.0 top.1 in
      let top_there = (among-from_filter (λ (x : Mount ℕ). list_any (λ (point : ℕ × ℕ).
      is_point nat_eq world point.0 point.1 x) (points_of nat_eq world directory)) world.mounts top.0 top.1).0 in
      let is_in = tree_in apart other.0 (length world.mounts) top.0 (top_there, other.1) from.0 top.2 in (
        other.0,
        cc (from.2, itself from.0 is_in.0, is_in.1),
        other.2,
      )

  pub unmounting_leaves_apart : LeavesApart world (without_mounts_on nat_eq world directory) names []
  unmounting_leaves_apart =
      let so_far = standing_apart world names apart in
      subst (λ w. LeavesApart world w names []) (namespaces_taken_away world gone)
      (taken_leaves_apart so_far (others_rest world names so_far) gone others_go)

module _ {world : World ℕ} {fresh : Fresh ℕ} {names : List TaskName} {name : TaskName} {call : Call}
    {task : Task ℕ} (outsider : IsOthersCall world fresh names name call task) where
  set_apart : IsApart world names
  set_apart = apart_from outsider.it

  -- what is removed or replaced is in the filesystem of its directory
  abbrev InOneFilesystem : Location ℕ → Location ℕ → Type 0
  InOneFilesystem a b = (mount_at nat_eq world a).filesystem ≡ (mount_at nat_eq world b).filesystem

  one_mount : (a b : Location ℕ) → a.mount ≡ b.mount → InOneFilesystem a b
  one_mount a b e = ap (λ n. (mount_numbered nat_eq world n).filesystem) e

  removed_in : (asked : Call) (permit : Permit ℕ)
      → IsGranted nat_eq (looks_of nat_eq world) (overfills nat_eq fresh world task) task asked permit
      → (parent : Location ℕ) (entry : List ℕ) (directory : Location ℕ)
      → permit ≡ ToRemoveDirectory parent entry directory → InOneFilesystem directory parent
  removed_in asked permit (removes_directory path place walk word passed) parent entry directory e =
      let same_directory : object_there place ≡ directory = cc in
      let same_parent : place.parent ≡ parent = cc in
      one_mount directory parent (ap (λ (l : Location ℕ). l.mount) (sym same_directory)
      ∙ old_mount world task place (special_word place.last word.0 word.1.0 word.1.1.0)
      (old_is world task path place walk) ∙ ap (λ (l : Location ℕ). l.mount) same_parent)
  removed_in asked permit granted parent entry directory e = absurd cc

  replaced_in : (asked : Call) (permit : Permit ℕ)
      → IsGranted nat_eq (looks_of nat_eq world) (overfills nat_eq fresh world task) task asked permit
      → (from : Location ℕ) (old : List ℕ) (to : Location ℕ) (new : List ℕ) (object replaced : Location ℕ)
      → permit ≡ ToRename from old to new object (Some replaced) → InOneFilesystem replaced from
  replaced_in asked permit (renames path other from_place to_place both two passed) from old to new object replaced e =
      let same_from : from_place.parent ≡ from = cc in
      let same_object : to_place.object ≡ Some replaced = cc in
      let to_is = rename_new_is world task other (is_directory_there nat_eq (looks_of nat_eq world) from_place)
      to_place both.to_end in
      let together = eqb-true from_place.parent.mount to_place.parent.mount
      (not-false (nat_eq from_place.parent.mount to_place.parent.mount) passed.1.1.1.1.1.1.1.1.0) in
      one_mount replaced from (on_mount (entry_at (files_at nat_eq world to_place.parent).tree
      to_place.parent.node (name_of to_place.last))
      (sym (place_named world to_place.parent to_place.last to_place.object both.to_named.0 to_is.0.0).1 ∙ same_object)
      ∙ sym together ∙ ap (λ (l : Location ℕ). l.mount) same_from)
    where
      on_mount : (o : Option ℕ) → option_map (λ n. record { mount = to_place.parent.mount; node = n }) o ≡ Some replaced
          → replaced.mount ≡ to_place.parent.mount
      on_mount None f = none_is_some replaced f
      on_mount (Some n) f = ap (λ (l : Location ℕ). l.mount)
          (sym (same_Some (record { mount = to_place.parent.mount; node = n }) replaced f))
  replaced_in asked permit granted from old to new object replaced e = absurd cc

  -- So mounts on it are of others.
  module _ {permit : Permit ℕ} (judged : judge_in nat_eq fresh world task call ≡ Ok permit) {location : Location ℕ}
      {change : Change ℕ} (asks : change_asked fresh world permit ≡ Some (location, change)) (directory : Location ℕ)
      (at : InOneFilesystem directory location) where
    abbrev there : Filesystem ℕ
    there = filesystem_at nat_eq world location

    same_there : filesystem_at nat_eq world directory ≡ there
    same_there = ap (filesystem_numbered nat_eq world) at

    points_unused : (n : ℕ) → list_any (λ (point : ℕ × ℕ). nat_eq n point.0) (points_of nat_eq world directory) ≡ true
        → is_among nat_eq n (used_filesystems nat_eq world names) ≡ false
    points_unused n h = search (
      arith,
      common_steps,
      any_among,
      eqb-true,
      number_of_filesystem,
      changed_is_unused,
      upper_is_unused,
      same_there,
    )

    mounts_leave : LeavesApart world (without_mounts_on nat_eq world directory) names []
    mounts_leave = unmounting_leaves_apart set_apart directory points_unused

    -- and then the change is made
    pub removal_leaves : (apply nat_eq fresh world task permit).world
        ≡ with_change nat_eq fresh (without_mounts_on nat_eq world directory) location change
        → filesystems_changed nat_eq world permit
        ≡ changed_at nat_eq (without_mounts_on nat_eq world directory) location
        → LeavesApart world (settled nat_eq (apply nat_eq fresh world task permit).world) names
        (filesystems_changed nat_eq world permit)
    removal_leaves left raised =
        change_leaves outsider permit judged location change asks (without_mounts_on nat_eq world directory)
        (same_filesystems_without world directory) (left ∙ the_rest_stays fresh
        (without_mounts_on nat_eq world directory) location change ∙ ap (λ (w : World ℕ).
        record (without_mounts_on nat_eq world directory) { filesystems = w.filesystems }) (sym left))
        (raised ∙ changed_at_same (without_mounts_on nat_eq world directory) world location
        (same_filesystems_without world directory) (same_mounted_without world directory location)) mounts_leave

  pub directory_removal_leaves : (parent : Location ℕ) (entry : List ℕ) (directory : Location ℕ)
      → judge_in nat_eq fresh world task call ≡ Ok (ToRemoveDirectory parent entry directory) → LeavesApart world
      (settled nat_eq (apply nat_eq fresh world task (ToRemoveDirectory parent entry directory)).world) names
      (filesystems_changed nat_eq world (ToRemoveDirectory parent entry directory))
  directory_removal_leaves parent entry directory judged =
      removal_leaves judged
      refl directory (removed_in call (ToRemoveDirectory parent entry directory)
      (calls_are_granted nat_eq (looks_of nat_eq world) (overfills nat_eq fresh world task) task call
      (ToRemoveDirectory parent entry directory) judged) parent entry directory refl) refl refl

  pub renaming_leaves : (from : Location ℕ) (old : List ℕ) (to : Location ℕ) (new : List ℕ) (object : Location ℕ)
      (replaced : Option (Location ℕ))
      → judge_in nat_eq fresh world task call ≡ Ok (ToRename from old to new object replaced) → LeavesApart world
      (settled nat_eq (apply nat_eq fresh world task (ToRename from old to new object replaced)).world) names
      (filesystems_changed nat_eq world (ToRename from old to new object replaced))
  renaming_leaves from old to new object None judged =
      change_alone outsider (ToRename from old to new object None) judged from
      (Move from.node old to.node new object.node) refl (the_rest_stays fresh world from
      (Move from.node old to.node new object.node)) refl
  renaming_leaves from old to new object (Some replaced) judged =
      removal_leaves judged refl replaced (replaced_in call
      (ToRename from old to new object (Some replaced)) (calls_are_granted nat_eq (looks_of nat_eq world)
      (overfills nat_eq fresh world task) task call (ToRename from old to new object (Some replaced)) judged) from old
      to new object replaced refl) refl refl
