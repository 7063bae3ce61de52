-- Mounts that end with something else, without propagation: those on a removed directory with all their descendants,
-- and those of a namespace that ends: mount_namespaces(7). And lazy unmounts: umount(2) with MNT_DETACH.
use Rattle.std.specs.Prelude.{List, Some, false, true, ℕ, nat_eq, ◌≡◌, ◌⊎◌}
use Rattle.vt_spec.specs.Machine.Detach.{has_child, is_going, lazily_unmounted, taken_away}
use Rattle.vt_spec.specs.Machine.Mounts.{Location, detached}
use Rattle.vt_spec.specs.Machine.World.{World, mount_numbered}
use Rattle.vt_laws_mounts.specs.Mounts.MountPoints.{OneMountAMountPoint}
use Rattle.vt_laws_mounts.specs.Mounts.Unmounting.{KeepsAllButMounts, KeepsAllButMountPointAndType, goes_with, has_its_master}

-- What is taken away loses its namespace, its mount point and its group, and nothing else.
abbrev pub TakenAreDetached : Type 0
TakenAreDetached =
    (world : World ℕ) (gone : List ℕ) (number : ℕ) → is_going nat_eq gone number ≡ true
    → mount_numbered nat_eq (taken_away nat_eq world gone) number ≡ detached (mount_numbered nat_eq world number)

-- Each other mount keeps its number, namespace, filesystem, root and flags,
abbrev pub OthersAreKept : Type 0
OthersAreKept =
    (world : World ℕ) (gone : List ℕ) (number : ℕ) → is_going nat_eq gone number ≡ false
    → KeepsAllButMountPointAndType (mount_numbered nat_eq world number)
    (mount_numbered nat_eq (taken_away nat_eq world gone) number)

-- its mount point, where that is on a mount that stays,
abbrev pub OthersKeepTheirMountPoints : Type 0
OthersKeepTheirMountPoints =
    (world : World ℕ) (gone : List ℕ) (number : ℕ) (point : Location ℕ) → is_going nat_eq gone number ≡ false
    → (mount_numbered nat_eq world number).mount_point ≡ Some point → is_going nat_eq gone point.mount ≡ false
    → (mount_numbered nat_eq (taken_away nat_eq world gone) number).mount_point ≡ Some point

-- and its type, unless it is a slave of a group that lost its last member.
abbrev pub OthersKeepTheirTypes : Type 0
OthersKeepTheirTypes =
    (world : World ℕ) (gone : List ℕ) (number : ℕ) → is_going nat_eq gone number ≡ false
    → has_its_master (taken_away nat_eq world gone) (mount_numbered nat_eq world number).propagation ≡ true
    → (mount_numbered nat_eq (taken_away nat_eq world gone) number).propagation
    ≡ (mount_numbered nat_eq world number).propagation

-- A lazy unmount detaches a mount, or leaves it all but its mount point and its type.
abbrev pub LazyDetachesOrKeeps : Type 0
LazyDetachesOrKeeps =
    (world : World ℕ) (one number : ℕ)
    → (mount_numbered nat_eq (lazily_unmounted nat_eq world one) number ≡ detached (mount_numbered nat_eq world number))
    ⊎ KeepsAllButMountPointAndType (mount_numbered nat_eq world number)
    (mount_numbered nat_eq (lazily_unmounted nat_eq world one) number)

-- Files, namespaces and tasks are as they were.
abbrev pub LazyIsOfMounts : Type 0
LazyIsOfMounts = (world : World ℕ) (one : ℕ) → KeepsAllButMounts world (lazily_unmounted nat_eq world one)

-- A mount that has a mount point, and no child, goes itself when it is unmounted.
abbrev pub TheMountItselfGoes : Type 0
TheMountItselfGoes =
    (world : World ℕ) (one : ℕ) (point : Location ℕ) → OneMountAMountPoint world.mounts
    → (mount_numbered nat_eq world one).mount_point ≡ Some point
    → has_child nat_eq world one ≡ false → goes_with world one one ≡ true
