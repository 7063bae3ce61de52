-- Only the first numbers of a supply are taken.
use Rattle.std.proofs.Common.{◌≡◌, refl, sym, ap, subst, ◌∙◌, true≢false, ℕ, zero, suc, ◌+◌, ◌*◌, ◌<◌, nat_eq, Bool, true, false, cond, List, [], ◌∷◌, length, map, filter, Option, Some, None, find, arith, unwrap_or, ◌==◌}
use Rattle.vt_spec.proofs.Common.{Change, CopyUp, Fresh, IsWorld, Location, Make, Mount, MountFlags, Move, Namespace, Node, Overlay, Permit, Private, Propagation, Remove, SetBytes, Shared, Slave, Task, ToBind, ToChange, ToMake, ToMountOverlay, ToMountPlain, ToMove, ToOpen, ToOpenNew, ToPrivate, ToRemoveDirectory, ToRename, ToSetType, ToShared, ToSlave, ToUnbindable, ToUnshare, ToWritePart, Unbindable, World, among-from_map, among_from_list_all, among_numbers, and_parts, apply, attach, bind_tree, bytes_in, common_steps, filesystems-taken_away, group_of, has_one_root, index_of, is_copied_up, is_listed, is_root_mount, list_all, mount_in, mount_numbered, mount_tree, mounts_of, named_mounts, namespaces_ended, new_mount, new_plain, no_mount, node_at, numbers_by, odds, opened, overwritten, plain_filesystem, pwritten, retyped, task_called, tree_from, with_change, with_copy, with_new_filesystem, with_new_inode, without_mounts_on, without_replaced}
use Rattle.vt_laws_trees.proofs.runs.answered.PlainStays.{plain_numbered, same_plain}
use Rattle.vt_laws_worlds.proofs.permits.taken.TakenAttached.{copied_same, index_bound, moved_same}
use Rattle.vt_laws_worlds.specs.Permits.Named.{permit_named}
use Rattle.vt_laws_worlds.proofs.permits.taken.TakenTypes.{retyped_same}
use Rattle.vt_laws_worlds.specs.Permits.Taken.{IsUngrouped, OnlyTheFirstAreTaken, is_ungrouped, numbers_taken}
use Rattle.vt_spec.specs.Machine.Namespaces.{unshared_by}
use Rattle.vt_laws_worlds.specs.Worlds.Kept.{IsPlain}
use Rattle.vt_laws_trees.proofs.trees.TreesTasks.{called_there}

-- the permit is not for the mount of an overlay
abbrev pub IsNoOverlay : Permit ℕ → Type 0
IsNoOverlay permit =
    (place : Location ℕ) (overlay : Overlay ℕ) (flags : MountFlags) → permit ≡ ToMountOverlay place overlay flags → ⊥

-- a mount that is in no group
no_group : (kind : Propagation ℕ) → is_ungrouped kind ≡ true → group_of kind ≡ None
no_group (Shared group) e = cc
no_group (Slave master) e = cc
no_group Private e = refl
no_group Unbindable e = refl

pub found_ungrouped : (mounts : List (Mount ℕ))
    → list_all (λ (mount : Mount ℕ). is_ungrouped mount.propagation) mounts ≡ true
    → (number : ℕ) → group_of (mount_in nat_eq mounts number).propagation ≡ None
found_ungrouped [] all number = refl
found_ungrouped (mount ∷ rest) all number = by _
    (found_ungrouped rest (and_parts (is_ungrouped mount.propagation) _ all).1 number)
  where
    by : (b : Bool) → group_of (mount_in nat_eq rest number).propagation ≡ None
        → group_of (unwrap_or (cond b (Some mount) (find (λ (m : Mount ℕ). nat_eq number m.number) rest))
        (no_mount number)).propagation ≡ None
    by true later = no_group _ (and_parts (is_ungrouped mount.propagation) _ all).0
    by false later = later

-- in a plain world a change takes no number
change_same : (world : World ℕ) → IsPlain world → (fresh again : Fresh ℕ) (location : Location ℕ) (change : Change ℕ)
    → with_change nat_eq fresh world location change ≡ with_change nat_eq again world location change
change_same world plain fresh again location change = grind (arith, common_steps, plain_numbered)

pub nonempty : (list : List (Mount ℕ)) → (length (filter (is_root_mount nat_eq) list) == 1) ≡ true → 0 < length list
nonempty [] e = cc
nonempty (mount ∷ rest) e = omega arith

pub tree_some : (depth : ℕ) (mounts : List (Mount ℕ)) (mount : Mount ℕ)
    → 0 < length (tree_from nat_eq depth mounts mount)
tree_some zero mounts mount = omega arith
tree_some (suc depth) mounts mount = omega arith

pub numbers_same : (mounts : List (Mount ℕ)) → 0 < length mounts → (one other : Fresh ℕ)
    → ((k : ℕ) → k < length mounts → one k ≡ other k) → numbers_by nat_eq one mounts ≡ numbers_by nat_eq other mounts
numbers_same mounts some one other same =
    λ i number. same (index_of nat_eq mounts number) (index_bound mounts number some) i

-- a bind has at least one mount
pub bind_some : (world : World ℕ) (source : Location ℕ) (recursive : Bool)
    → 0 < length (bind_tree nat_eq world source recursive)
bind_some world source false = omega arith
bind_some world source true = omega arith

module _ (world : World ℕ) (whole : IsWorld nat_eq world) (plain : IsPlain world) (ungrouped : IsUngrouped world)
    (task : Task ℕ) (called : task_called world task.name ≡ Some task) where
  alone : (number : ℕ) → group_of (mount_numbered nat_eq world number).propagation ≡ None
  alone = found_ungrouped _ ungrouped

  named_some : (mount : ℕ) (recursive : Bool) → 0 < length (named_mounts nat_eq world mount recursive)
  named_some mount false = omega arith
  named_some mount true = tree_some (length world.mounts) world.mounts (mount_numbered nat_eq world mount)

  -- the task's namespace has a root mount
  own_some : 0 < length (mounts_of nat_eq world task.namespace)
  own_some =
      let listed : is_listed nat_eq world task.namespace ≡ true =
      among_from_list_all (λ (t : Task ℕ). is_listed nat_eq world t.namespace) world.tasks
      whole.namespaces.tasks_listed task (called_there world.tasks task.name task called) in
      let found = among-from_map (λ (namespace : Namespace ℕ). namespace.number) world.namespaces task.namespace
      (among_numbers (map (λ (namespace : Namespace ℕ). namespace.number) world.namespaces) task.namespace listed) in
      subst (λ number. 0 < length (mounts_of nat_eq world number)) (sym found.2)
      (nonempty (mounts_of nat_eq world found.0.number)
      (among_from_list_all (has_one_root nat_eq world) world.namespaces whole.namespaces.root_mounts found.0 found.1))

  module _ (fresh again : Fresh ℕ) where
    inode_same : (directory : Location ℕ) (name : List ℕ) (node : Node ℕ) → fresh 0 ≡ again 0
        → with_new_inode nat_eq fresh world directory name node ≡ with_new_inode nat_eq again world directory name node
    inode_same directory name node same =
        change_same world plain (odds fresh) (odds again) directory (Make directory.node name (fresh 0) node)
        ∙ (λ i. with_change nat_eq (odds again) world directory (Make directory.node name (same i) node))

    copy_same : (copies : Bool) (file : Location ℕ)
        → with_copy nat_eq copies fresh world file ≡ with_copy nat_eq copies again world file
    copy_same true file = change_same world plain fresh again file (CopyUp file.node)
    copy_same false file = refl

    written_same : (file : Location ℕ) (offset : ℕ) (bytes : List ℕ)
        → pwritten nat_eq fresh world file offset bytes ≡ pwritten nat_eq again world file offset bytes
    written_same file offset [] = refl
    written_same file offset (byte ∷ bytes) = change_same world plain fresh again file
        (SetBytes file.node (overwritten offset (byte ∷ bytes) (bytes_in (node_at nat_eq world file))))

    taken_same : (gone : Location ℕ) (location : Location ℕ) (change : Change ℕ)
        → with_change nat_eq fresh (without_mounts_on nat_eq world gone) location change
        ≡ with_change nat_eq again (without_mounts_on nat_eq world gone) location change
    taken_same gone location change = change_same (without_mounts_on nat_eq world gone)
        (same_plain world (without_mounts_on nat_eq world gone)
        (filesystems-taken_away world _) plain) fresh again location change

    replaced_same : (replaced : Option (Location ℕ)) (location : Location ℕ) (change : Change ℕ)
        → with_change nat_eq fresh (without_replaced nat_eq world replaced) location change
        ≡ with_change nat_eq again (without_replaced nat_eq world replaced) location change
    replaced_same None location change = change_same world plain fresh again location change
    replaced_same (Some gone) location change = taken_same gone location change

    mounted_same : (place : Location ℕ) (flags : MountFlags) → ((k : ℕ) → k < 3 → fresh k ≡ again k)
        → (apply nat_eq fresh world task (ToMountPlain place flags)).world
        ≡ (apply nat_eq again world task (ToMountPlain place flags)).world
    mounted_same place flags same = copied_same (with_new_filesystem world (plain_filesystem nat_eq fresh)) place
        (new_mount (fresh 0) (fresh 2) flags ∷ []) (alone place.mount) (odds fresh) (odds again) (omega arith) (λ k low.
        let first : k ≡ 0 = omega arith in
        subst (λ j. odds fresh (2 * j) ≡ odds again (2 * j)) (sym first) (same 1 (omega arith))) ∙ (λ i. attach nat_eq
        (with_new_filesystem world (new_plain nat_eq (same 0 (omega arith) i) (same 2 (omega arith) i))) (odds again)
        place false (new_mount (same 0 (omega arith) i) (same 2 (omega arith) i) flags ∷ []))

    pub applied_same : (permit : Permit ℕ) → IsNoOverlay permit
        → ((k : ℕ) → k < numbers_taken world task permit → fresh k ≡ again k)
        → (apply nat_eq fresh world task permit).world ≡ (apply nat_eq again world task permit).world
    applied_same (ToChange location change) is same = change_same world plain fresh again location change
    applied_same (ToMake directory name node) is same = inode_same directory name node (same 0 (omega arith))
    applied_same (ToRemoveDirectory parent name directory) is same =
        taken_same directory parent (Remove parent.node name directory.node)
    applied_same (ToRename from old to new object replaced) is same =
        replaced_same replaced from (Move from.node old to.node new object.node)
    applied_same (ToOpen file access) is same =
        λ i. (opened (copy_same (is_copied_up nat_eq world file access) file i) task file access).world
    applied_same (ToOpenNew directory name node access) is same = λ i.
        (opened (inode_same directory name node (same 0 (omega arith)) i) task
        (record { mount = directory.mount; node = same 0 (omega arith) i }) access).world
    applied_same (ToWritePart file offset bytes) is same = written_same file offset bytes
    applied_same ToUnshare is same =
        let own = mounts_of nat_eq world task.namespace in
        let some = own_some in
        λ i. namespaces_ended nat_eq (unshared_by nat_eq world
        (numbers_same own some (odds fresh) (odds again) (λ k low. same (2 * k + 1) (omega arith)) i)
        (same 0 (omega arith) i) task)
    applied_same (ToMountPlain place flags) is same = mounted_same place flags same
    applied_same (ToMountOverlay place overlay flags) is same = absurd (is place overlay flags refl)
    applied_same (ToBind source place recursive) is same =
        copied_same world place (bind_tree nat_eq world source recursive) (alone place.mount) fresh again
        (bind_some world source recursive) (λ k low. same (2 * k) (omega arith))
    applied_same (ToMove mount place) is same =
        moved_same world place (mount_tree nat_eq world.mounts (mount_numbered nat_eq world mount)) (alone place.mount)
        fresh again
    applied_same (ToSetType mount ToSlave recursive) is same =
        retyped_same world whole ungrouped ToSlave refl mount recursive _ _
    applied_same (ToSetType mount ToPrivate recursive) is same =
        retyped_same world whole ungrouped ToPrivate refl mount recursive _ _
    applied_same (ToSetType mount ToUnbindable recursive) is same =
        retyped_same world whole ungrouped ToUnbindable refl mount recursive _ _
    applied_same (ToSetType mount ToShared recursive) is same =
        ap (λ group. retyped nat_eq world group ToShared (named_mounts nat_eq world mount recursive))
        (numbers_same (named_mounts nat_eq world mount recursive) (named_some mount recursive) fresh again same)
    applied_same permit is same = refl

pub only_the_first_are_taken : OnlyTheFirstAreTaken
only_the_first_are_taken named world task permit fresh again whole plain ungrouped called is same = cc
    (applied_same world whole plain ungrouped task called fresh again permit
    (λ place overlay flags e. true≢false (sym is ∙ ap (permit_named named) e)) same)
