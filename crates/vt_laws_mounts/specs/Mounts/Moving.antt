-- Mounts after a move stand, no two with one mount point, and after an attachment each namespace has as many root
-- mounts as before. mount_namespaces(7), sharedsubtree, "Move semantics".
use Rattle.std.specs.Prelude.{All, Bool, Contains, None, Some, false, filter, is_some, length, true, ℕ, nat_eq, ◌≡◌}
use Rattle.std.specs.List.{list_any}
use Rattle.vt_spec.specs.Lists.{Fresh}
use Rattle.vt_spec.specs.Machine.Mounts.{Location, Mount, child_at}
use Rattle.vt_spec.specs.Language.Calls.{MountFlags}
use Rattle.vt_spec.specs.Machine.Attach.{bound_at, moved_to, moved_tree}
use Rattle.vt_spec.specs.Machine.NewMounts.{mounted}
use Rattle.vt_spec.specs.Machine.Run.{Serves}
use Rattle.vt_spec.specs.Machine.World.{Filesystem, World, mount_at, mounts_of}
use Rattle.vt_spec.specs.Machine.Invariants.{MountInvariants, is_root_mount}
use Rattle.vt_laws_mounts.specs.Mounts.Invariants.{OneMountEachMountPoint, OneNumberEach}
use Rattle.vt_laws_mounts.specs.Mounts.Standing.{AllStand}

-- Root mounts

-- a namespace has as many root mounts after as before
abbrev pub KeepsRootMounts : World ℕ → World ℕ → Type 0
KeepsRootMounts before later =
    (namespace : ℕ)
    → length (filter (is_root_mount nat_eq) (mounts_of nat_eq later namespace))
    ≡ length (filter (is_root_mount nat_eq) (mounts_of nat_eq before namespace))

-- no mount comes to a namespace in which there was none
abbrev pub StaysInNamespaces : World ℕ → World ℕ → Type 0
StaysInNamespaces before later =
    All (λ mount. (namespace : ℕ) → mount.namespace ≡ Some namespace
    → (old : Mount ℕ) × Contains before.mounts old × (old.namespace ≡ Some namespace)) later.mounts

-- What is attached has a mount point: so a bind makes no root mount,
abbrev pub BindsKeepRootMounts : Type 0
BindsKeepRootMounts =
    (world : World ℕ) (fresh : Fresh ℕ) (source destination : Location ℕ) (recursive : Bool)
    → KeepsRootMounts world (bound_at nat_eq fresh world source destination recursive)

abbrev pub BindsStayInNamespaces : Type 0
BindsStayInNamespaces =
    (world : World ℕ) (fresh : Fresh ℕ) (source destination : Location ℕ) (recursive : Bool)
    → StaysInNamespaces world (bound_at nat_eq fresh world source destination recursive)

-- nor does a new mount,
abbrev pub NewMountsKeepRootMounts : Type 0
NewMountsKeepRootMounts =
    (world : World ℕ) (fresh : Fresh ℕ) (destination : Location ℕ) (filesystem : Filesystem ℕ) (flags : MountFlags)
    → KeepsRootMounts world (mounted nat_eq fresh world destination filesystem flags)

abbrev pub NewMountsStayInNamespaces : Type 0
NewMountsStayInNamespaces =
    (world : World ℕ) (fresh : Fresh ℕ) (destination : Location ℕ) (filesystem : Filesystem ℕ) (flags : MountFlags)
    → StaysInNamespaces world (mounted nat_eq fresh world destination filesystem flags)

-- and a move of a mount that has a mount point takes none away.
abbrev pub MovesKeepRootMounts : Type 0
MovesKeepRootMounts =
    (world : World ℕ) (fresh : Fresh ℕ) (source destination : Location ℕ) → OneNumberEach world
    → is_some (mount_at nat_eq world source).mount_point ≡ true
    → KeepsRootMounts world (moved_to nat_eq fresh world source.mount destination)

abbrev pub MovesStayInNamespaces : Type 0
MovesStayInNamespaces =
    (world : World ℕ) (fresh : Fresh ℕ) (source destination : Location ℕ)
    → StaysInNamespaces world (moved_to nat_eq fresh world source.mount destination)

-- Where mounts stand after a move

-- the location is on this mount
abbrev pub is_mount_of : Location ℕ → Mount ℕ → Bool
is_mount_of destination other = nat_eq other.number destination.mount

-- A mount that has a mount point moves to a location in its namespace that is on no mount of the tree that moves:
-- mount(2) with MS_MOVE
pub record CanMove (world : World ℕ) (source destination : Location ℕ) : Type 0 where
  pub placed : is_some (mount_at nat_eq world source).mount_point ≡ true
  pub one_namespace : (mount_at nat_eq world destination).namespace ≡ (mount_at nat_eq world source).namespace
  pub outside : list_any (is_mount_of destination) (moved_tree nat_eq world source.mount) ≡ false

-- Then each mount stands after the move, the copies at all receivers included, and what they push up,
abbrev pub MovesKeepStanding : Type 0
MovesKeepStanding =
    (world : World ℕ) (fresh : Fresh ℕ) (source destination : Location ℕ) → Serves nat_eq world fresh
    → MountInvariants nat_eq world → CanMove world source destination
    → AllStand (moved_to nat_eq fresh world source.mount destination)

-- no two have one mount point, where none has the destination.
abbrev pub MovesKeepMountPoints : Type 0
MovesKeepMountPoints =
    (world : World ℕ) (fresh : Fresh ℕ) (source destination : Location ℕ) → Serves nat_eq world fresh
    → MountInvariants nat_eq world → CanMove world source destination → child_at nat_eq world.mounts destination ≡ None
    → OneMountEachMountPoint (moved_to nat_eq fresh world source.mount destination)
