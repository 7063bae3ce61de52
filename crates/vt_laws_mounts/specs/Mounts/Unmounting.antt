-- An unmount takes just the mounts that propagation names: umount(2), and the kernel's document sharedsubtree, "Unmount
-- semantics". Groups that lose their last member: mount_namespaces(7), and the profile.
use Rattle.std.specs.Prelude.{Bool, Contains, List, None, Ok, Some, false, find, map, true, ℕ, nat_eq, ◌↔◌, ◌≡◌}
use Rattle.std.specs.List.{list_all}
use Rattle.vt_spec.specs.Language.Calls.Call.{Umount}
use Rattle.vt_spec.specs.Machine.Detach.{going, is_going, may_go, unmounted}
use Rattle.vt_spec.specs.Lists.{Fresh}
use Rattle.vt_spec.specs.Machine.Looks.{looks_of}
use Rattle.vt_spec.specs.Machine.Mounts.{Location, Mount, Propagation, child_at, detached, is_shared}
use Rattle.vt_spec.specs.Machine.Mounts.Propagation.{Private, Shared, Slave, Unbindable}
use Rattle.vt_spec.specs.Language.Answers.Answer.{Done}
use Rattle.vt_spec.specs.Machine.Policy.{policy}
use Rattle.vt_spec.specs.Machine.Receives.{Receives, groups_up, has_members, slave_of_heir}
use Rattle.vt_spec.specs.Machine.Walking.{Here, directory_walk, walk_end}
use Rattle.vt_spec.specs.Machine.World.{Task, World, mount_at, mount_numbered, task_called}
use Rattle.vt_spec.specs.Language.Calls.{TaskName}
use Rattle.vt_spec.specs.Machine.Invariants.{stands_in_its_namespace}
use Rattle.vt_laws_mounts.specs.Mounts.FileCalls.{HasLiving}
use Rattle.vt_laws_mounts.specs.Mounts.Receivers.{GroupsLive}

-- What goes when a mount is unmounted. If the mount that it stands on is shared: what stands at the same inode of each
-- mount that receives from that group, if nothing stands on it, or one mount alone that covers its root. Else the mount
-- itself.
pub data Goes (world : World ℕ) (mount : Mount ℕ) : ℕ → Type 0 where
  from_nowhere : mount.mount_point ≡ None → Goes world mount mount.number
  alone : (point : Location ℕ) → mount.mount_point ≡ Some point
      → is_shared (mount_at nat_eq world point).propagation ≡ false
      → Goes world mount mount.number
  at_receiver : (point : Location ℕ) (group : ℕ) (receiver child : Mount ℕ)
      → mount.mount_point ≡ Some point → (mount_at nat_eq world point).propagation ≡ Shared group
      → Contains world.mounts receiver → Receives world group receiver
      → child_at nat_eq world.mounts (record { mount = receiver.number; node = point.node }) ≡ Some child
      → may_go nat_eq world child ≡ true
      → Goes world mount child.number

-- a mount with this number goes when the other is unmounted
abbrev pub goes_with : World ℕ → ℕ → ℕ → Bool
goes_with world unmounted_one number =
    is_going nat_eq (going nat_eq world (mount_numbered nat_eq world unmounted_one)) number

-- the mount with a number after another is unmounted
abbrev pub mount_left : World ℕ → ℕ → ℕ → Mount ℕ
mount_left world unmounted_one number = mount_numbered nat_eq (unmounted nat_eq world unmounted_one) number

abbrev pub WhatGoesIsNamed : Type 0
WhatGoesIsNamed =
    (world : World ℕ) (one number : ℕ) → GroupsLive world
    → (goes_with world one number ≡ true) ↔ Goes world (mount_numbered nat_eq world one) number

-- An unmount keeps the mounts in their order. What went stays listed, outside every namespace, until nothing uses it.
abbrev pub UnmountKeepsTheOrder : Type 0
UnmountKeepsTheOrder =
    (world : World ℕ) (one : ℕ)
    → map (λ mount. mount.number) (unmounted nat_eq world one).mounts ≡ map (λ mount. mount.number) world.mounts

-- What goes loses its namespace, its mount point and its group, and nothing else.
abbrev pub WhatGoesIsDetached : Type 0
WhatGoesIsDetached =
    (world : World ℕ) (one number : ℕ) → goes_with world one number ≡ true
    → mount_left world one number ≡ detached (mount_numbered nat_eq world number)

-- All of a mount but its mount point and its type
pub record KeepsAllButMountPointAndType (before later : Mount ℕ) : Type 0 where
  pub number : later.number ≡ before.number
  pub namespace : later.namespace ≡ before.namespace
  pub filesystem : later.filesystem ≡ before.filesystem
  pub root : later.root ≡ before.root
  pub flags : later.flags ≡ before.flags

-- What does not go keeps its number, namespace, filesystem, root and flags.
abbrev pub WhatStaysKeeps : Type 0
WhatStaysKeeps =
    (world : World ℕ) (one number : ℕ) → goes_with world one number ≡ false
    → KeepsAllButMountPointAndType (mount_numbered nat_eq world number) (mount_left world one number)

-- The mount point that is left of one when mounts go: it stays if its mount stays; else it is that of its mount.
pub data FallsTo (world : World ℕ) (gone : List ℕ) : Location ℕ → Location ℕ → Type 0 where
  rests : (point : Location ℕ) → is_going nat_eq gone point.mount ≡ false → FallsTo world gone point point
  falls : (point below rest : Location ℕ) → is_going nat_eq gone point.mount ≡ true
      → (mount_at nat_eq world point).mount_point ≡ Some below
      → FallsTo world gone below rest → FallsTo world gone point rest

-- What stood on mounts that stay keeps its mount point, and a root mount stays one.
abbrev pub WhatStaysKeepsItsMountPoint : Type 0
WhatStaysKeepsItsMountPoint =
    (world : World ℕ) (one number : ℕ) (point : Location ℕ)
    → goes_with world one number ≡ false → (mount_numbered nat_eq world number).mount_point ≡ Some point
    → goes_with world one point.mount ≡ false
    → (mount_left world one number).mount_point ≡ Some point

abbrev pub RootMountsStay : Type 0
RootMountsStay =
    (world : World ℕ) (one number : ℕ) → (mount_numbered nat_eq world number).mount_point ≡ None
    → (mount_left world one number).mount_point ≡ None

-- chains of parents come to an end
abbrev pub ChainsEnd : World ℕ → Type 0
ChainsEnd world = list_all (stands_in_its_namespace nat_eq world) world.mounts ≡ true

-- What covered mounts that go takes the first mount point along their parents that is left.
abbrev pub WhatCoveredFalls : Type 0
WhatCoveredFalls =
    (world : World ℕ) (one number : ℕ) (point rest : Location ℕ) → ChainsEnd world
    → goes_with world one number ≡ false → (mount_numbered nat_eq world number).mount_point ≡ Some point
    → FallsTo world (going nat_eq world (mount_numbered nat_eq world one)) point rest
    → (mount_left world one number).mount_point ≡ Some rest

-- a slave whose master group has a member, or no slave
abbrev pub has_its_master : World ℕ → Propagation ℕ → Bool
has_its_master world (Shared group) = true
has_its_master world (Slave master) = has_members nat_eq world.mounts master
has_its_master world Private = true
has_its_master world Unbindable = true

-- What stays keeps its type, unless it is a slave of a group that lost its last member.
abbrev pub WhatStaysKeepsItsType : Type 0
WhatStaysKeepsItsType =
    (world : World ℕ) (one number : ℕ) → goes_with world one number ≡ false
    → has_its_master (unmounted nat_eq world one) (mount_numbered nat_eq world number).propagation ≡ true
    → (mount_left world one number).propagation ≡ (mount_numbered nat_eq world number).propagation

-- A slave gets the nearest group up the masters that has a member left, and is private where there is none.
abbrev pub SlavesAreInherited : Type 0
SlavesAreInherited =
    (world : World ℕ) (one number master : ℕ) → goes_with world one number ≡ false
    → (mount_numbered nat_eq world number).propagation ≡ Slave master
    → (mount_left world one number).propagation
    ≡ slave_of_heir (find (has_members nat_eq (unmounted nat_eq world one).mounts) (groups_up world master))

-- A group keeps its master, unless that lost its last member.
abbrev pub GroupsKeepTheirMasters : Type 0
GroupsKeepTheirMasters =
    (world : World ℕ) (one group master : ℕ) → world.master group ≡ Some master
    → has_members nat_eq (unmounted nat_eq world one).mounts master ≡ true
    → (unmounted nat_eq world one).master group ≡ Some master

-- Files, namespaces and tasks are as they were.
pub record KeepsAllButMounts (before later : World ℕ) : Type 0 where
  pub filesystems : later.filesystems ≡ before.filesystems
  pub namespaces : later.namespaces ≡ before.namespaces
  pub tasks : later.tasks ≡ before.tasks
  pub change : later.change ≡ before.change

abbrev pub UnmountIsOfMounts : Type 0
UnmountIsOfMounts = (world : World ℕ) (one : ℕ) → KeepsAllButMounts world (unmounted nat_eq world one)

-- The call, where it is granted, unmounts the mount that the path leads to; then the mounts are gone that nothing uses.
abbrev pub UmountUnmounts : Type 0
UmountUnmounts =
    (fresh : Fresh ℕ) (world : World ℕ) (name : TaskName) (task : Task ℕ) (path : List ℕ) (here : Here ℕ)
    → task_called world name ≡ Some task → walk_end (directory_walk nat_eq (looks_of nat_eq world) task path) ≡ Ok here
    → (policy nat_eq fresh world name (Umount path)).answer ≡ Ok Done
    → HasLiving (policy nat_eq fresh world name (Umount path)).world (unmounted nat_eq world here.location.mount).mounts
