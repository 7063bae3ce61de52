-- What a granted call makes of the mounts.
use Rattle.std.proofs.Common.{arith, ◌≡◌, refl, sym, ap, ◌∙◌, false, Bool, List, Ok, Some, nat_eq, ℕ, true≢false, true}
use Rattle.vt_spec.proofs.Common.{Bind, Call, Done, Exit, Fresh, Here, LayerLocations, Lazy, Looks, Mount, MountFlags, MountOverlay, MountPlain, MoveMount, OverlayWords, Permit, PivotRoot, Place, Remount, Rename, Rmdir, SetType, Setns, Task, TaskName, ToBind, ToEnterNamespace, ToMountOverlay, ToMountPlain, ToMove, ToPivot, ToSetFlags, ToSetType, ToUnmountLazily, TypeWord, Unshare, World, apply, bound_at, common_steps, destination_walk, directory_walk, is_directory_there, is_one_object, layers_walked, lazily_unmounted, looks_of, mount_at, mounted, moved_to, moving, namespace_entered, namespaces_ended, object_there, odds, old_leaf_walk, old_walk, overfills, overlay_at, overlay_mounted, pivoted, plain_filesystem, removing, rename_new_walk, same_ok, source_walk, task_called, unshared, walk_end, with_flags, with_type, without_mounts_on, without_replaced, without_task}
use Rattle.vt_laws_mounts.specs.Mounts.Granted.{BindBinds, ExitEnds, LazyUnmounts, MountMounts, MoveMoves, OverlayMounts, PivotPivots, RemountSetsFlags, RmdirTakesMounts, SetnsEnters, TypeIsSet, UnshareCopies, RenameOfOneObject, RenameReplaces}
use Rattle.vt_laws_mounts.proofs.mounts.MountsLeft.{mounts-with_change}
use Rattle.vt_laws_rules.proofs.given.Ways.{AreNames, IsGranted}
use Rattle.vt_laws_rules.proofs.given.Ways.IsGranted.{binds, changes_flags, changes_type, enters_namespace, exits, keeps_names, mounts_overlayfs, mounts_tmpfs, moves_mount, pivots_root, removes_directory, renames, unmounts_lazily, unshares}
use Rattle.vt_laws_mounts.proofs.mounts.MountsGranted.{leaves_mounts, one_end}

module _ (fresh : Fresh ℕ) (world : World ℕ) (task : Task ℕ) where
  abbrev looks : Looks ℕ
  looks = looks_of nat_eq world

  -- what a permit by which a call is granted makes of the mounts
  abbrev Makes : Call → List (Mount ℕ) → Permit ℕ → Type 0
  Makes call mounts permit = IsGranted nat_eq looks (overfills nat_eq fresh world task) task call permit
      → (apply nat_eq fresh world task permit).world.mounts ≡ mounts

  abbrev mounts_by : Permit ℕ → List (Mount ℕ)
  mounts_by permit = (apply nat_eq fresh world task permit).world.mounts

  bind_made : (source path : List ℕ) (recursive : Bool) (from here : Here ℕ)
      → walk_end (source_walk nat_eq looks task source) ≡ Ok from
      → walk_end (destination_walk nat_eq looks task path) ≡ Ok here
      → (permit : Permit ℕ) → Makes (Bind source path recursive)
      (bound_at nat_eq fresh world from.location here.location recursive).mounts permit
  bind_made source path recursive from here e f permit (binds _ _ _ one two admin start end passed) =
      let first = one_end _ one from start e in
      let second = one_end _ two here end f in
      λ i. mounts_by (ToBind (first i).location (second i).location recursive)

  move_made : (source path : List ℕ) (from here : Here ℕ) → walk_end (source_walk nat_eq looks task source) ≡ Ok from
      → walk_end (destination_walk nat_eq looks task path) ≡ Ok here
      → (permit : Permit ℕ) → Makes (MoveMount source path)
      (moved_to nat_eq fresh world from.location.mount here.location).mounts permit
  move_made source path from here e f permit (moves_mount _ _ one two admin start end passed) =
      let first = one_end _ one from start e in
      let second = one_end _ two here end f in
      λ i. mounts_by (ToMove (first i).location.mount (second i).location)

  mount_made : (path : List ℕ) (flags : MountFlags) (here : Here ℕ)
      → walk_end (destination_walk nat_eq looks task path) ≡ Ok here
      → (permit : Permit ℕ) → Makes (MountPlain path flags)
      (mounted nat_eq (odds fresh) world here.location (plain_filesystem nat_eq fresh) flags).mounts permit
  mount_made path flags here e permit (mounts_tmpfs _ _ one admin end passed) =
      ap (λ (here : Here ℕ). mounts_by (ToMountPlain here.location flags)) (one_end _ one here end e)

  overlay_made : (path : List ℕ) (words : OverlayWords) (flags : MountFlags) (here : Here ℕ) (places : LayerLocations ℕ)
      → walk_end (destination_walk nat_eq looks task path) ≡ Ok here → layers_walked nat_eq looks task words ≡ Ok places
      → (permit : Permit ℕ) → Makes (MountOverlay path (Some words) flags)
      (overlay_mounted nat_eq fresh world task here.location places flags).mounts permit
  overlay_made path words flags here places e f permit
      (mounts_overlayfs _ _ _ one layers admin end walked layered passed) =
      let first = one_end _ one here end e in
      let second = same_ok layers places (sym walked ∙ f) in
      λ i. mounts_by (ToMountOverlay (first i).location (overlay_at looks task (second i)) flags)

  lazy_made : (path : List ℕ) (here : Here ℕ) → walk_end (directory_walk nat_eq looks task path) ≡ Ok here
      → (permit : Permit ℕ) → Makes (Lazy path) (lazily_unmounted nat_eq world here.location.mount).mounts permit
  lazy_made path here e permit (unmounts_lazily _ one admin end passed) =
      ap (λ (here : Here ℕ). mounts_by (ToUnmountLazily here.location.mount)) (one_end _ one here end e)

  remount_made : (path : List ℕ) (flags : MountFlags) (here : Here ℕ)
      → walk_end (directory_walk nat_eq looks task path) ≡ Ok here → (permit : Permit ℕ) → Makes (Remount path flags)
      (with_flags nat_eq world here.location.mount flags).mounts permit
  remount_made path flags here e permit (changes_flags _ _ one admin end passed) =
      ap (λ (here : Here ℕ). mounts_by (ToSetFlags here.location.mount flags)) (one_end _ one here end e)

  type_made : (path : List ℕ) (word : TypeWord) (recursive : Bool) (here : Here ℕ)
      → walk_end (directory_walk nat_eq looks task path) ≡ Ok here
      → (permit : Permit ℕ) → Makes (SetType path word recursive)
      (with_type nat_eq fresh world here.location.mount word recursive).mounts permit
  type_made path word recursive here e permit (changes_type _ _ _ one admin end passed) =
      ap (λ (here : Here ℕ). mounts_by (ToSetType here.location.mount word recursive)) (one_end _ one here end e)

  pivot_made : (new put : List ℕ) (root here : Here ℕ) → walk_end (source_walk nat_eq looks task new) ≡ Ok root
      → walk_end (destination_walk nat_eq looks task put) ≡ Ok here → (permit : Permit ℕ) → Makes (PivotRoot new put)
      (pivoted nat_eq world task.namespace (mount_at nat_eq world task.root)
      (mount_at nat_eq world root.location) here.location).mounts permit
  pivot_made new put root here e f permit (pivots_root _ _ one two admin start end passed) =
      let first = one_end _ one root start e in
      let second = one_end _ two here end f in
      λ i. mounts_by (ToPivot (first i).location.mount (second i).location)

  rmdir_made : (path : List ℕ) (place : Place ℕ) → walk_end (old_walk nat_eq looks task path) ≡ Ok place
      → (permit : Permit ℕ) → Makes (Rmdir path) (without_mounts_on nat_eq world (object_there place)).mounts permit
  rmdir_made path place e permit (removes_directory _ one end word passed) =
      mounts-with_change (without_mounts_on nat_eq world (object_there one)) fresh one.parent
      (removing one (object_there one))
      ∙ ap (λ (place : Place ℕ). (without_mounts_on nat_eq world (object_there place)).mounts)
      (one_end (old_walk nat_eq looks task path) one place end e)

  exit_made : (permit : Permit ℕ) → Makes Exit (namespaces_ended nat_eq (without_task world task.name)).mounts permit
  exit_made permit exits = refl

  unshare_made : (permit : Permit ℕ)
      → Makes Unshare (namespaces_ended nat_eq (unshared nat_eq world fresh task)).mounts permit
  unshare_made permit (unshares passed) = refl

  setns_made : (target : TaskName) (other : Task ℕ) → task_called world target ≡ Some other → (permit : Permit ℕ)
      → Makes (Setns target)
      (namespaces_ended nat_eq (namespace_entered nat_eq world task other.namespace)).mounts permit
  setns_made target other e permit (enters_namespace _ namespace found passed) =
      ap (λ namespace. mounts_by (ToEnterNamespace namespace)) (same_ok _ _ (cc))

  -- the names of a rename are at the ends of its walks
  same_names : (old new : List ℕ) (from to one two : Place ℕ) → walk_end (old_leaf_walk nat_eq looks task old) ≡ Ok from
      → walk_end (rename_new_walk nat_eq looks task new (is_directory_there nat_eq looks from)) ≡ Ok to
      → AreNames nat_eq looks task old new one two → (one ≡ from) × (two ≡ to)
  same_names old new from to one two e f names = grind (arith, common_steps, one_end)

  rename_made : (old new : List ℕ) (from to : Place ℕ) → walk_end (old_leaf_walk nat_eq looks task old) ≡ Ok from
      → walk_end (rename_new_walk nat_eq looks task new (is_directory_there nat_eq looks from)) ≡ Ok to
      → is_one_object nat_eq looks (object_there from) to.object ≡ false
      → (permit : Permit ℕ) → Makes (Rename old new) (without_replaced nat_eq world to.object).mounts permit
  rename_made old new from to e f differ permit (renames _ _ one two names another passed) =
      mounts-with_change (without_replaced nat_eq world two.object) fresh one.parent (moving one two (object_there one))
      ∙ ap (λ (to : Place ℕ). (without_replaced nat_eq world to.object).mounts)
      (same_names old new from to one two e f names).1
  rename_made old new from to e f differ permit (keeps_names _ _ one two names same passed) =
      let ends = same_names old new from to one two e f names in
      absurd (true≢false (sym same
      ∙ (λ i. is_one_object nat_eq looks (object_there (ends.0 i)) (ends.1 i).object) ∙ differ))

  one_object_made : (old new : List ℕ) (from to : Place ℕ) → walk_end (old_leaf_walk nat_eq looks task old) ≡ Ok from
      → walk_end (rename_new_walk nat_eq looks task new (is_directory_there nat_eq looks from)) ≡ Ok to
      → is_one_object nat_eq looks (object_there from) to.object ≡ true
      → (permit : Permit ℕ) → Makes (Rename old new) world.mounts permit
  one_object_made old new from to e f same permit (keeps_names _ _ one two names as_one passed) = refl
  one_object_made old new from to e f same permit (renames _ _ one two names another passed) =
      grind (arith, common_steps, same_names, true≢false)

pub bind_binds : BindBinds
bind_binds fresh world name task source path recursive from here e f =
    leaves_mounts fresh world name task _ _ Done refl (bind_made fresh world task source path _ from here e f)

pub move_moves : MoveMoves
move_moves fresh world name task source path from here e f =
    leaves_mounts fresh world name task _ _ Done refl (move_made fresh world task source path from here e f)

pub mount_mounts : MountMounts
mount_mounts fresh world name task path flags here e =
    leaves_mounts fresh world name task _ _ Done refl (mount_made fresh world task path flags here e)

pub overlay_mounts : OverlayMounts
overlay_mounts fresh world name task path words flags here places e f =
    leaves_mounts fresh world name task _ _ Done refl (overlay_made fresh world task path words flags here places e f)

pub lazy_unmounts : LazyUnmounts
lazy_unmounts fresh world name task path here e =
    leaves_mounts fresh world name task _ _ Done refl (lazy_made fresh world task path here e)

pub remount_sets_flags : RemountSetsFlags
remount_sets_flags fresh world name task path flags here e =
    leaves_mounts fresh world name task _ _ Done refl (remount_made fresh world task path flags here e)

pub type_is_set : TypeIsSet
type_is_set fresh world name task path word recursive here e =
    leaves_mounts fresh world name task _ _ Done refl (type_made fresh world task path word _ here e)

pub pivot_pivots : PivotPivots
pivot_pivots fresh world name task new put root here e f =
    leaves_mounts fresh world name task _ _ Done refl (pivot_made fresh world task new put root here e f)

pub rmdir_takes_mounts : RmdirTakesMounts
rmdir_takes_mounts fresh world name task path place e =
    leaves_mounts fresh world name task _ _ Done refl (rmdir_made fresh world task path place e)

pub exit_ends : ExitEnds
exit_ends fresh world name task = leaves_mounts fresh world name task Exit _ Done refl (exit_made fresh world task)

pub unshare_copies : UnshareCopies
unshare_copies fresh world name task = leaves_mounts fresh world name task _ _ Done refl (unshare_made fresh world task)

pub setns_enters : SetnsEnters
setns_enters fresh world name target task other e =
    leaves_mounts fresh world name task _ _ Done refl (setns_made fresh world task target other e)

pub rename_replaces : RenameReplaces
rename_replaces fresh world name task old new from to e f differ =
    leaves_mounts fresh world name task _ _ Done refl (rename_made fresh world task old new from to e f differ)

pub rename_of_one_object : RenameOfOneObject
rename_of_one_object fresh world name task old new from to e f same =
    leaves_mounts fresh world name task _ _ Done refl (one_object_made fresh world task old new from to e f same)
