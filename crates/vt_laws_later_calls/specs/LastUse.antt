-- Each thing goes with its last use: close(2), umount(2) with MNT_DETACH, path_resolution(7), mount_namespaces(7). In
-- each statement all is in use in the world before, and one use is taken away; the sweep of things of that kind takes
-- that thing if the use was its last, and nothing else.
use Rattle.std.specs.Prelude.{Bool, Contains, List, None, Some, [], false, if◌then◌else◌, is_some, map, nat_eq, nat_lt, true, ℕ, ◌&&◌, ◌+◌, ◌++◌, ◌||◌, ◌∷◌, ◌≡◌}
use Rattle.std.specs.List.{list_any}
use Rattle.vt_spec.specs.Lists.{Fresh, any_pair}
use Rattle.vt_spec.specs.Machine.Apply.{apply}
use Rattle.vt_spec.specs.Machine.Invariants.{IsWorld, MountInvariants, NamespaceInvariants}
use Rattle.vt_spec.specs.Machine.Mounts.{Location, Mount, source_of}
use Rattle.vt_spec.specs.Machine.Mounts.Propagation.{Shared}
use Rattle.vt_spec.specs.Machine.Namespaces.{namespaces_ended}
use Rattle.vt_spec.specs.Machine.Permits.Permit.{ToClose, ToExit}
use Rattle.vt_spec.specs.Machine.Receives.{regrouped}
use Rattle.vt_spec.specs.Machine.Settled.{has_layer_on, is_mounted, settled, without_dead_filesystems, without_dead_groups, without_dead_inodes, without_dead_mounts}
use Rattle.vt_spec.specs.Machine.World.{Descriptor, Filesystem, Layer, Overlay, Task, World, all_locations, filesystem_at, filesystem_numbered, is_overlay, layers_of, mount_at, upper_object, with_mounts, without_task}
use Rattle.vt_spec.specs.Machine.World.Real.{Upper}
use Rattle.vt_laws_mounts.specs.LettingGo.Counts.{inode_uses, member_count, mount_uses, mounts_showing, times}
use Rattle.vt_laws_mounts.specs.LettingGo.Ends.{without_namespace}
use Rattle.vt_laws_mounts.specs.LettingGo.Groups.{hand_on}
use Rattle.vt_laws_mounts.specs.LettingGo.InUse.{AllInUse, HasTrees, UppersArePlain}
use Rattle.vt_laws_mounts.specs.LettingGo.Leaving.{with_tasks}
use Rattle.vt_laws_mounts.specs.LettingGo.Mounting.{inode_at}
use Rattle.vt_laws_mounts.specs.LettingGo.OneByOne.{Inode, IsPlain, let_go_filesystems, without_filesystem, without_inode_at, without_master, without_mount}
use Rattle.vt_laws_mounts.specs.LettingGo.Overlays.{RealsAreThere, let_go_plain, uppers_of, without_inode_of}
use Rattle.vt_laws_mounts.specs.Counts.Using.{Exchanges, is_inode}

-- Tasks leave one location: its mount goes, unless it is in a namespace or another location is on it.
abbrev pub MountGoesWithItsLastUse : Type 0
MountGoesWithItsLastUse =
    (world : World ℕ) (tasks : List (Task ℕ)) (front back : List (Location ℕ)) (location : Location ℕ)
    → AllInUse world → any_pair (λ (a b : Mount ℕ). nat_eq a.number b.number) world.mounts ≡ false
    → all_locations world ≡ front ++ (location ∷ back) → all_locations (with_tasks world tasks) ≡ front ++ back
    → without_dead_mounts nat_eq (with_tasks world tasks)
    ≡ (if is_some (mount_at nat_eq world location).namespace || nat_lt 1 (mount_uses world location.mount)
    then with_tasks world tasks else without_mount (with_tasks world tasks) location.mount)

-- One mount goes: the filesystem that it shows goes, unless another mount shows it.
abbrev pub FilesystemGoesWithItsLastUse : Type 0
FilesystemGoesWithItsLastUse =
    (world after : World ℕ) (front back : List (Mount ℕ)) (mount : Mount ℕ) → AllInUse world → IsPlain world
    → after.filesystems ≡ world.filesystems
    → world.mounts ≡ front ++ (mount ∷ back) → after.mounts ≡ front ++ back
    → without_dead_filesystems nat_eq after
    ≡ (if nat_lt 1 (mounts_showing world mount.filesystem) then after else without_filesystem after mount.filesystem)

-- a mounted overlay has a layer in the filesystem
abbrev pub is_layered : World ℕ → ℕ → Bool
is_layered world number =
    list_any (λ merged. has_layer_on nat_eq number merged && is_mounted nat_eq world merged.number) world.filesystems

-- In a world with overlays, where the mount shows a plain filesystem: that goes, unless another mount shows it, or a
-- mounted overlay has a layer in it.
abbrev pub FilesystemBesideOverlaysGoesWithItsLastUse : Type 0
FilesystemBesideOverlaysGoesWithItsLastUse =
    (world after : World ℕ) (front back : List (Mount ℕ)) (mount : Mount ℕ) → AllInUse world
    → any_pair (λ (a b : Filesystem ℕ). nat_eq a.number b.number) world.filesystems ≡ false
    → is_overlay (filesystem_numbered nat_eq world mount.filesystem) ≡ false
    → after.filesystems ≡ world.filesystems
    → world.mounts ≡ front ++ (mount ∷ back) → after.mounts ≡ front ++ back
    → without_dead_filesystems nat_eq after
    ≡ (if nat_lt 1 (mounts_showing world mount.filesystem) || is_layered world mount.filesystem then after
    else without_filesystem after mount.filesystem)

-- Where it shows an overlay in which no other has a layer: that goes, unless another mount shows it; then the
-- filesystems of its layers are looked at.
abbrev pub OverlayGoesWithItsLastUse : Type 0
OverlayGoesWithItsLastUse =
    (world after : World ℕ) (front back : List (Mount ℕ)) (mount : Mount ℕ) (overlay : Overlay ℕ) → AllInUse world
    → any_pair (λ (a b : Filesystem ℕ). nat_eq a.number b.number) world.filesystems ≡ false
    → (filesystem_numbered nat_eq world mount.filesystem).overlay ≡ Some overlay
    → list_any (has_layer_on nat_eq mount.filesystem) world.filesystems ≡ false
    → after.filesystems ≡ world.filesystems
    → world.mounts ≡ front ++ (mount ∷ back) → after.mounts ≡ front ++ back
    → without_dead_filesystems nat_eq after
    ≡ (if nat_lt 1 (mounts_showing world mount.filesystem) then after
    else let_go_filesystems (without_filesystem after mount.filesystem)
    (map (λ layer. layer.filesystem) (layers_of overlay)))

-- how many tasks are in a namespace
abbrev pub task_count : World ℕ → ℕ → ℕ
task_count world namespace = times (λ task. nat_eq namespace task.namespace) world.tasks

-- One task ends: its namespace ends with its mounts, unless another task is in it.
abbrev pub NamespaceEndsWithItsLastTask : Type 0
NamespaceEndsWithItsLastTask =
    (world : World ℕ) (front back : List (Task ℕ)) (task : Task ℕ)
    → MountInvariants nat_eq world → NamespaceInvariants nat_eq world → world.tasks ≡ front ++ (task ∷ back)
    → namespaces_ended nat_eq (with_tasks world (front ++ back))
    ≡ (if nat_lt 1 (task_count world task.namespace) then with_tasks world (front ++ back)
    else without_namespace (with_tasks world (front ++ back)) task.namespace)

-- So at the end of a task, before the sweep: _exit(2).
abbrev pub ExitEndsItsNamespace : Type 0
ExitEndsItsNamespace =
    (fresh : Fresh ℕ) (world : World ℕ) (task : Task ℕ) → IsWorld nat_eq world → Contains world.tasks task
    → (apply nat_eq fresh world task ToExit).world
    ≡ (if nat_lt 1 (task_count world task.namespace) then without_task world task.name
    else without_namespace (without_task world task.name) task.namespace)

-- One mount leaves its group and gets no master: the group hands its slaves on, unless it has another member.
abbrev pub GroupIsHandedOnWithItsLastMember : Type 0
GroupIsHandedOnWithItsLastMember =
    (world : World ℕ) (front back : List (Mount ℕ)) (old new : Mount ℕ) (group : ℕ)
    → AllInUse world → MountInvariants nat_eq world → world.mounts ≡ front ++ (old ∷ back)
    → old.propagation ≡ Shared group → source_of new.propagation ≡ None
    → regrouped nat_eq (with_mounts world (front ++ (new ∷ back)))
    ≡ (if nat_lt 1 (member_count world group) then with_mounts world (front ++ (new ∷ back))
    else hand_on (with_mounts world (front ++ (new ∷ back))) group)

-- In the sweep, the group loses its master, unless it has another member.
abbrev pub GroupGoesWithItsLastMember : Type 0
GroupGoesWithItsLastMember =
    (world : World ℕ) (front back : List (Mount ℕ)) (old new : Mount ℕ) (group : ℕ)
    → AllInUse world → world.mounts ≡ front ++ (old ∷ back)
    → old.propagation ≡ Shared group → source_of new.propagation ≡ None
    → without_dead_groups nat_eq (with_mounts world (front ++ (new ∷ back)))
    ≡ (if nat_lt 1 (member_count world group) then with_mounts world (front ++ (new ∷ back))
    else without_master (with_mounts world (front ++ (new ∷ back))) group)

-- From one world to the next this inode has one use less, and every other inode as many; each filesystem has the same
-- inodes.
pub record LosesOneUse (inode : Inode) (world after : World ℕ) : Type 0 where
  pub numbers : (filesystem : ℕ)
      → (filesystem_numbered nat_eq after filesystem).files.numbers
      ≡ (filesystem_numbered nat_eq world filesystem).files.numbers
  pub uses : (filesystem number : ℕ)
      → inode_uses world (filesystem_numbered nat_eq world filesystem) number
      ≡ inode_uses after (filesystem_numbered nat_eq after filesystem) number
      + (if is_inode filesystem number inode then 1 else 0)

-- So it is where a location, a root of a mount or a mount point is taken away, which are exchanges of that one use.
abbrev pub ExchangeOfOneLosesOneUse : Type 0
ExchangeOfOneLosesOneUse =
    (world after : World ℕ) (inode : Inode)
    → ((filesystem : ℕ) → Exchanges [] (inode ∷ []) filesystem world after) → LosesOneUse inode world after

-- One use of an inode is taken away, in a world of plain filesystems: the inode goes, unless it has another use.
abbrev pub InodeGoesWithItsLastUse : Type 0
InodeGoesWithItsLastUse =
    (world after : World ℕ) (inode : Inode) → AllInUse world → LosesOneUse inode world after
    → IsPlain after → HasTrees after
    → any_pair (λ (a b : Filesystem ℕ). nat_eq a.number b.number) after.filesystems ≡ false
    → without_dead_inodes nat_eq after
    ≡ (if nat_lt 1 (inode_uses world (filesystem_numbered nat_eq world inode.0) inode.1) then after
    else without_inode_at after inode)

-- So it is of an inode of a plain tree in a world with overlays.
abbrev pub InodeBesideOverlaysGoesWithItsLastUse : Type 0
InodeBesideOverlaysGoesWithItsLastUse =
    (world after : World ℕ) (inode : Inode) → AllInUse world → LosesOneUse inode world after
    → is_overlay (filesystem_numbered nat_eq after inode.0) ≡ false
    → HasTrees after → UppersArePlain after → RealsAreThere after
    → any_pair (λ (a b : Filesystem ℕ). nat_eq a.number b.number) after.filesystems ≡ false
    → without_dead_inodes nat_eq after
    ≡ (if nat_lt 1 (inode_uses world (filesystem_numbered nat_eq world inode.0) inode.1) then after
    else without_inode_at after inode)

-- a filesystem without the inode, if it has that number; the inode of an overlay has no real object then
abbrev pub without_inode_of_any : Inode → Filesystem ℕ → Filesystem ℕ
without_inode_of_any inode filesystem =
    if nat_eq filesystem.number inode.0 then without_inode_of inode.1 filesystem else filesystem

-- the world without an inode of an overlay
abbrev pub without_merged_inode : World ℕ → Inode → World ℕ
without_merged_inode world inode = record world { filesystems = map (without_inode_of_any inode) world.filesystems }

-- An inode of an overlay goes, unless it has another use; then the upper inode that was its real object, if it had one,
-- is looked at.
abbrev pub InodeOfOverlayGoesWithItsLastUse : Type 0
InodeOfOverlayGoesWithItsLastUse =
    (world after : World ℕ) (inode : Inode) → AllInUse world → LosesOneUse inode world after
    → is_overlay (filesystem_numbered nat_eq after inode.0) ≡ true
    → HasTrees after → UppersArePlain after → RealsAreThere after
    → any_pair (λ (a b : Filesystem ℕ). nat_eq a.number b.number) after.filesystems ≡ false
    → without_dead_inodes nat_eq after
    ≡ (if nat_lt 1 (inode_uses world (filesystem_numbered nat_eq world inode.0) inode.1) then after
    else let_go_plain (without_merged_inode after inode) (uppers_of after (inode ∷ [])))

-- Where its real object was no upper inode, nothing else goes.
abbrev pub InodeOverLowersGoesAlone : Type 0
InodeOverLowersGoesAlone =
    (world after : World ℕ) (inode : Inode) (overlay : Overlay ℕ) → AllInUse world → LosesOneUse inode world after
    → (filesystem_numbered nat_eq after inode.0).overlay ≡ Some overlay → upper_object (overlay.real inode.1) ≡ None
    → HasTrees after → UppersArePlain after → RealsAreThere after
    → any_pair (λ (a b : Filesystem ℕ). nat_eq a.number b.number) after.filesystems ≡ false
    → without_dead_inodes nat_eq after
    ≡ (if nat_lt 1 (inode_uses world (filesystem_numbered nat_eq world inode.0) inode.1) then after
    else without_merged_inode after inode)

-- Where it was an upper inode, that goes with it, unless it has another use. The number of the inode of the overlay
-- stands once beside the tree.
abbrev pub UpperInodeGoesWithItsLastUse : Type 0
UpperInodeGoesWithItsLastUse =
    (world after : World ℕ) (inode : Inode) (overlay : Overlay ℕ) (layer : Layer ℕ) (object : ℕ)
    → AllInUse world → LosesOneUse inode world after
    → (filesystem_numbered nat_eq after inode.0).overlay ≡ Some overlay → overlay.upper ≡ Some layer
    → overlay.real inode.1 ≡ Some (Upper object)
    → times (nat_eq inode.1) (filesystem_numbered nat_eq after inode.0).files.numbers ≡ 1
    → HasTrees after → UppersArePlain after → RealsAreThere after
    → any_pair (λ (a b : Filesystem ℕ). nat_eq a.number b.number) after.filesystems ≡ false
    → without_dead_inodes nat_eq after
    ≡ (if nat_lt 1 (inode_uses world (filesystem_numbered nat_eq world inode.0) inode.1) then after
    else if nat_lt 1 (inode_uses world (filesystem_numbered nat_eq world layer.filesystem) object)
    then without_merged_inode after inode
    else without_inode_at (without_merged_inode after inode) (layer.filesystem, object))

-- The whole sweep, where tasks leave one location in a plain tree, and its mount stays: the inode there goes, unless it
-- has another use, and nothing else.
abbrev pub LocationTakesItsInode : Type 0
LocationTakesItsInode =
    (world : World ℕ) (tasks : List (Task ℕ)) (front back : List (Location ℕ)) (location : Location ℕ)
    → IsWorld nat_eq world → is_overlay (filesystem_at nat_eq world location) ≡ false
    → all_locations world ≡ front ++ (location ∷ back) → all_locations (with_tasks world tasks) ≡ front ++ back
    → (is_some (mount_at nat_eq world location).namespace || nat_lt 1 (mount_uses world location.mount)) ≡ true
    → settled nat_eq (with_tasks world tasks)
    ≡ (if nat_lt 1 (inode_uses world (filesystem_at nat_eq world location) location.node) then with_tasks world tasks
    else without_inode_at (with_tasks world tasks) (inode_at world location))

-- So with the file of a descriptor that is closed: close(2), unlink(2) on a file that is still open.
abbrev pub CloseTakesItsInode : Type 0
CloseTakesItsInode =
    (fresh : Fresh ℕ) (world : World ℕ) (task : Task ℕ) (descriptor : Descriptor ℕ)
    → IsWorld nat_eq world → Contains world.tasks task → Contains task.descriptors descriptor
    → is_overlay (filesystem_at nat_eq world descriptor.location) ≡ false
    → (is_some (mount_at nat_eq world descriptor.location).namespace
    || nat_lt 1 (mount_uses world descriptor.location.mount)) ≡ true
    → settled nat_eq (apply nat_eq fresh world task (ToClose descriptor.number)).world
    ≡ (if nat_lt 1 (inode_uses world (filesystem_at nat_eq world descriptor.location) descriptor.location.node)
    then (apply nat_eq fresh world task (ToClose descriptor.number)).world
    else without_inode_at (apply nat_eq fresh world task (ToClose descriptor.number)).world
    (inode_at world descriptor.location))

-- The whole sweep, where tasks leave the last location on a mount in no namespace, and no other mount shows its
-- filesystem: the mount and the filesystem go, and nothing else.
abbrev pub LocationTakesItsFilesystem : Type 0
LocationTakesItsFilesystem =
    (world : World ℕ) (tasks : List (Task ℕ)) (front back : List (Location ℕ)) (location : Location ℕ)
    → IsWorld nat_eq world → IsPlain world
    → all_locations world ≡ front ++ (location ∷ back) → all_locations (with_tasks world tasks) ≡ front ++ back
    → (is_some (mount_at nat_eq world location).namespace || nat_lt 1 (mount_uses world location.mount)) ≡ false
    → nat_lt 1 (mounts_showing world (mount_at nat_eq world location).filesystem) ≡ false
    → settled nat_eq (with_tasks world tasks)
    ≡ without_filesystem (without_mount (with_tasks world tasks) location.mount)
    (mount_at nat_eq world location).filesystem

-- So with the last descriptor on a mount that was unmounted lazily: umount(2) with MNT_DETACH.
abbrev pub CloseTakesItsFilesystem : Type 0
CloseTakesItsFilesystem =
    (fresh : Fresh ℕ) (world : World ℕ) (task : Task ℕ) (descriptor : Descriptor ℕ)
    → IsWorld nat_eq world → IsPlain world → Contains world.tasks task → Contains task.descriptors descriptor
    → (is_some (mount_at nat_eq world descriptor.location).namespace
    || nat_lt 1 (mount_uses world descriptor.location.mount)) ≡ false
    → nat_lt 1 (mounts_showing world (mount_at nat_eq world descriptor.location).filesystem) ≡ false
    → settled nat_eq (apply nat_eq fresh world task (ToClose descriptor.number)).world
    ≡ without_filesystem
    (without_mount (apply nat_eq fresh world task (ToClose descriptor.number)).world descriptor.location.mount)
    (mount_at nat_eq world descriptor.location).filesystem
