-- A permit is applied alike in two worlds that are alike.
use Rattle.std.proofs.Common.{◌≡◌, refl, subst, ◌∙◌, ℕ, nat_eq, Bool, true, false, ◌&&◌, List, [], ◌∷◌, take, drop, Ok, ap, Option}
use Rattle.vt_spec.proofs.Common.{Access, Allowed, Bytes, Child, CopyUp, Done, Fresh, Location, Make, MountList, Move, Names, Opened, Outcome, Permit, Remove, SetBytes, Task, ToBind, ToChange, ToClose, ToEnterNamespace, ToExit, ToFork, ToList, ToListMounts, ToMake, ToMountOverlay, ToMountPlain, ToMove, ToOpen, ToOpenNew, ToPivot, ToRead, ToReadPart, ToRemoveDirectory, ToRename, ToSetCredentials, ToSetDirectory, ToSetFlags, ToSetRoot, ToSetType, ToSetUmask, ToStat, ToUnmount, ToUnmountLazily, ToUnshare, ToWritePart, Told, World, apply, attach, bytes_in, child_name, child_of, evens, filesystems-taken_away, filesystems-without_replaced, free_number, granted, is_copied_up, lies_only_in_lowers, mount_at, mount_in, mount_lines, mount_numbered, mount_tree, mounted, names_in, node_at, odds, opened, opens_for_writing, overlay_filesystem, overlay_or, overwritten, pivoted, plain_filesystem, pwritten, stat_line, with_change, with_copy, with_descriptor, without_descriptor, without_task, Answer, Change, Node, Overlay, MountFlags, moved_to, namespaces_ended, with_new_inode, with_task}
use Rattle.vt_laws_trees.proofs.runs.answered.AlikeAttached.{attach_alike, bind_alike, mounted_alike, overlay_made_alike}
use Rattle.vt_laws_trees.proofs.runs.answered.AlikeChanges.{CopiesAlike, change_alike, copies_stay, here_alike, node_same, with_task_alike}
use Rattle.vt_laws_trees.proofs.runs.answered.AlikeListed.{listed_alike}
use Rattle.vt_laws_trees.proofs.runs.answered.AlikeMounts.{flags_alike, lazily_alike, type_alike, unmounted_alike, without_mounts_on_alike, without_replaced_alike}
use Rattle.vt_laws_trees.proofs.runs.answered.AlikeNamespaces.{ended_alike, entered_alike, pivoted_alike, unshared_alike, with_child_alike, without_task_alike}
use Rattle.vt_laws_trees.proofs.runs.answered.AlikeWorlds.{Alike, SameTask}

-- one answer, and worlds that are alike
pub record OutcomesAlike (one other : Outcome ℕ) : Type 0 where
  pub answer : one.answer ≡ other.answer
  pub worlds : Alike one.world other.world

done : {world left : World ℕ} → Alike world left → OutcomesAlike (granted Done world) (granted Done left)
done worlds = record { answer = refl; worlds = worlds }

-- `one` and `other` are alike, and their overlays copy alike; `task` of `one` is alike `again` of `other`
module _ (fresh : Fresh ℕ) {one other : World ℕ} (same : Alike one other) (copies : CopiesAlike one other)
    (task again : Task ℕ) (alike : SameTask task again) where
  -- a permit that asks and changes nothing
  told : {answer told_again : Answer} → answer ≡ told_again
      → OutcomesAlike (granted answer one) (granted told_again other)
  told is = record { answer = ap Ok is; worlds = same }

  -- Files

  changes_alike : (numbers : Fresh ℕ) (location : Location ℕ) (change : Change ℕ)
      → Alike (with_change nat_eq numbers one location change) (with_change nat_eq numbers other location change)
  changes_alike numbers location change = change_alike one other same copies numbers location change

  -- a change at which some mounts go first, which leaves the filesystems what they were
  changes_after : (numbers : Fresh ℕ) (location : Location ℕ) (change : Change ℕ) {first second : World ℕ}
      → Alike first second → first.filesystems ≡ one.filesystems → second.filesystems ≡ other.filesystems
      → Alike (with_change nat_eq numbers first location change) (with_change nat_eq numbers second location change)
  changes_after numbers location change {first = first} {second = second} worlds left right =
      change_alike first second worlds (copies_stay one other first second left right copies) numbers location change

  makes_alike : (directory : Location ℕ) (name : List ℕ) (node : Node ℕ)
      → Alike (with_new_inode nat_eq fresh one directory name node)
      (with_new_inode nat_eq fresh other directory name node)
  makes_alike directory name node = changes_alike (odds fresh) directory (Make directory.node name (evens fresh 0) node)

  -- the mounts on a directory go with it
  removes_alike : (parent : Location ℕ) (name : List ℕ) (directory : Location ℕ)
      → OutcomesAlike (apply nat_eq fresh one task (ToRemoveDirectory parent name directory))
      (apply nat_eq fresh other again (ToRemoveDirectory parent name directory))
  removes_alike parent name directory = done (changes_after fresh parent (Remove parent.node name directory.node)
      (without_mounts_on_alike directory one other same) (filesystems-taken_away one _)
      (filesystems-taken_away other _))

  -- and those on what a rename replaces
  renames_alike : (from : Location ℕ) (old : List ℕ) (to : Location ℕ) (new : List ℕ) (object : Location ℕ)
      (replaced : Option (Location ℕ))
      → OutcomesAlike (apply nat_eq fresh one task (ToRename from old to new object replaced))
      (apply nat_eq fresh other again (ToRename from old to new object replaced))
  renames_alike from old to new object replaced =
      done (changes_after fresh from (Move from.node old to.node new object.node)
      (without_replaced_alike replaced one other same) (filesystems-without_replaced one replaced)
      (filesystems-without_replaced other replaced))

  -- the bytes written over are those of one node
  writes_alike : (offset : ℕ) (file : Location ℕ) (bytes : List ℕ)
      → Alike (pwritten nat_eq fresh one file offset bytes) (pwritten nat_eq fresh other file offset bytes)
  writes_alike offset file [] = same
  writes_alike offset file (byte ∷ bytes) =
      subst (λ node. Alike (pwritten nat_eq fresh one file offset (byte ∷ bytes))
      (with_change nat_eq fresh other file (written node))) (node_same one other same file)
      (changes_alike fresh file (written (node_at nat_eq one file)))
    where
      written : Option (Node ℕ) → Change ℕ
      written node = SetBytes file.node (overwritten offset (byte ∷ bytes) (bytes_in node))

  -- Descriptors

  opened_alike : {world left : World ℕ} → Alike world left → (file : Location ℕ) (access : Access)
      → OutcomesAlike (opened world task file access) (opened left again file access)
  opened_alike worlds file access = record {
    answer = λ i. Ok (Opened (free_number (alike i)));
    worlds = with_task_alike _ _ worlds _ _ (λ i. with_descriptor (alike i) file access);
  }

  -- both copy the file up first, or neither
  copied_same : (file : Location ℕ) (access : Access)
      → is_copied_up nat_eq one file access ≡ is_copied_up nat_eq other file access
  copied_same file access = ap (λ overlay. opens_for_writing access
      && overlay_or false (λ overlay. lies_only_in_lowers overlay file.node) overlay)
      (here_alike one other same file).overlay

  copies_alike : (copied : Bool) (file : Location ℕ)
      → Alike (with_copy nat_eq copied fresh one file) (with_copy nat_eq copied fresh other file)
  copies_alike true file = changes_alike fresh file (CopyUp file.node)
  copies_alike false file = same

  opens_alike : (file : Location ℕ) (access : Access) → OutcomesAlike (apply nat_eq fresh one task (ToOpen file access))
      (apply nat_eq fresh other again (ToOpen file access))
  opens_alike file access = subst (λ copied. OutcomesAlike (apply nat_eq fresh one task (ToOpen file access))
      (opened (with_copy nat_eq copied fresh other file) again file access)) (copied_same file access)
      (opened_alike (copies_alike (is_copied_up nat_eq one file access) file) file access)

  -- Tasks

  tasks_alike : (first second : Task ℕ) → SameTask first second → Alike (with_task one first) (with_task other second)
  tasks_alike first second is = with_task_alike one other same first second is

  -- a task that leaves a namespace may end it
  leaves_alike : {first second : World ℕ} → Alike first second
      → OutcomesAlike (granted Done (namespaces_ended nat_eq first)) (granted Done (namespaces_ended nat_eq second))
  leaves_alike worlds = done (ended_alike _ _ worlds)

  exits_alike : Alike (without_task one task.name) (without_task other again.name)
  exits_alike = subst (λ name. Alike (without_task one task.name) (without_task other name)) (λ i. (alike i).name)
      (without_task_alike task.name one other same)

  -- Mounts

  -- a new overlay has one filesystem
  mounts_overlay_alike : (place : Location ℕ) (overlay : Overlay ℕ) (flags : MountFlags)
      → Alike (mounted nat_eq (odds fresh) one place (overlay_filesystem nat_eq (evens fresh) one overlay) flags)
      (mounted nat_eq (odds fresh) other place (overlay_filesystem nat_eq (evens fresh) other overlay) flags)
  mounts_overlay_alike place overlay flags =
      let first = overlay_filesystem nat_eq (evens fresh) one overlay in
      subst (λ made. Alike (mounted nat_eq (odds fresh) one place first flags)
      (mounted nat_eq (odds fresh) other place made flags)) (overlay_made_alike (evens fresh) overlay one other same)
      (mounted_alike (odds fresh) place first flags one other same)

  -- a mount that moves takes one tree of mounts along
  moves_mount_alike : (mount : ℕ) (place : Location ℕ)
      → Alike (moved_to nat_eq fresh one mount place) (moved_to nat_eq fresh other mount place)
  moves_mount_alike mount place =
      subst (λ tree. Alike (moved_to nat_eq fresh one mount place) (attach nat_eq other fresh place true tree))
      (ap (λ mounts. mount_tree nat_eq mounts (mount_in nat_eq mounts mount)) same.mounts)
      (attach_alike fresh place true (mount_tree nat_eq one.mounts (mount_numbered nat_eq one mount)) one other same)

  -- a pivot finds one mount at the root, and one new mount
  pivots_alike : (new : ℕ) (put : Location ℕ)
      → OutcomesAlike (apply nat_eq fresh one task (ToPivot new put)) (apply nat_eq fresh other again (ToPivot new put))
  pivots_alike new put = done (subst (Alike (apply nat_eq fresh one task (ToPivot new put)).world)
      (λ i. pivoted nat_eq other (alike i).namespace (mount_in nat_eq (same.mounts i) (alike i).root.mount)
      (mount_in nat_eq (same.mounts i) new) put)
      (pivoted_alike task.namespace (mount_at nat_eq one task.root) (mount_numbered nat_eq one new) put one other same))

  lists_mounts_alike : mount_lines nat_eq one task.namespace ≡ mount_lines nat_eq other again.namespace
  lists_mounts_alike = listed_alike task.namespace one other same ∙ ap (λ t. mount_lines nat_eq other t.namespace) alike

  -- Each permit

  pub apply_alike : (permit : Permit ℕ)
      → OutcomesAlike (apply nat_eq fresh one task permit) (apply nat_eq fresh other again permit)
  apply_alike Allowed = done same
  apply_alike (ToList directory) = told (ap (λ node. Names (names_in node)) (node_same one other same directory))
  apply_alike (ToStat object) = told (ap (λ node. Told (stat_line node)) (node_same one other same object))
  apply_alike (ToRead file) = told (ap (λ node. Bytes (bytes_in node)) (node_same one other same file))
  apply_alike (ToReadPart file offset size) =
      told (ap (λ node. Bytes (take size (drop offset (bytes_in node)))) (node_same one other same file))
  apply_alike (ToChange location change) = done (changes_alike fresh location change)
  apply_alike (ToMake directory name node) = done (makes_alike directory name node)
  apply_alike (ToRemoveDirectory parent name directory) = removes_alike parent name directory
  apply_alike (ToRename from old to new object replaced) = renames_alike from old to new object replaced
  apply_alike (ToOpen file access) = opens_alike file access
  apply_alike (ToOpenNew directory name node access) =
      opened_alike (makes_alike directory name node) (record { mount = directory.mount; node = evens fresh 0 }) access
  apply_alike (ToWritePart file offset bytes) = done (writes_alike offset file bytes)
  apply_alike (ToClose descriptor) = done (tasks_alike _ _ (λ i. without_descriptor (alike i) descriptor))
  apply_alike (ToSetDirectory directory) = done (tasks_alike _ _ (λ i. record (alike i) { directory = directory }))
  apply_alike (ToSetRoot root) = done (tasks_alike _ _ (λ i. record (alike i) { root = root }))
  apply_alike (ToSetUmask umask) = done (tasks_alike _ _ (λ i. record (alike i) { umask = umask }))
  apply_alike (ToSetCredentials credentials) =
      done (tasks_alike _ _ (λ i. record (alike i) { credentials = credentials }))
  apply_alike (ToFork credentials) = record {
    answer = λ i. Ok (Child (child_name (alike i)));
    worlds = with_child_alike one other same task again _ _ alike (λ i. child_of (alike i) credentials);
  }
  apply_alike ToExit = leaves_alike exits_alike
  apply_alike ToUnshare = leaves_alike (unshared_alike fresh task again alike one other same)
  apply_alike (ToEnterNamespace namespace) = leaves_alike (entered_alike namespace task again alike one other same)
  apply_alike (ToMountPlain place flags) =
      done (mounted_alike (odds fresh) place (plain_filesystem nat_eq fresh) flags one other same)
  apply_alike (ToMountOverlay place overlay flags) = done (mounts_overlay_alike place overlay flags)
  apply_alike (ToBind source place recursive) = done (bind_alike fresh source place recursive one other same)
  apply_alike (ToMove mount place) = done (moves_mount_alike mount place)
  apply_alike (ToUnmount mount) = done (unmounted_alike mount one other same)
  apply_alike (ToUnmountLazily mount) = done (lazily_alike mount one other same)
  apply_alike (ToSetFlags mount flags) = done (flags_alike mount flags one other same)
  apply_alike (ToSetType mount word recursive) = done (type_alike fresh mount word recursive one other same)
  apply_alike (ToPivot new put) = pivots_alike new put
  apply_alike ToListMounts = told (ap MountList lists_mounts_alike)
