-- Where mounts stand: each on one that stands, down to the root mount of its namespace. mount_namespaces(7).
use Rattle.std.specs.Prelude.{All, Bool, None, true, ℕ, nat_eq, ◌↔◌, ◌≡◌}
use Rattle.vt_spec.specs.Machine.Attach.{bind_tree, bound_at, moved_to}
use Rattle.vt_spec.specs.Lists.{Fresh}
use Rattle.vt_spec.specs.Machine.Mounts.{Location, child_at, mount_tree}
use Rattle.vt_spec.specs.Language.Calls.{MountFlags}
use Rattle.vt_spec.specs.Machine.NewMounts.{mounted, with_new_filesystem}
use Rattle.vt_spec.specs.Machine.Run.{Serves}
use Rattle.vt_spec.specs.Machine.World.{Filesystem, World, mount_numbered}
use Rattle.vt_spec.specs.Machine.Invariants.{Stands}
use Rattle.vt_laws_mounts.specs.Mounts.Attaching.{OneNumberAMount, is_mount}
use Rattle.vt_laws_mounts.specs.Mounts.Invariants.{NowhereOrAttached, OneMountEachMountPoint, OneNumberEach}
use Rattle.vt_laws_mounts.specs.Mounts.Unmounting.{ChainsEnd}

-- each mount stands
abbrev pub AllStand : World ℕ → Type 0
AllStand world = All (λ mount. Stands nat_eq world mount.number) world.mounts

-- That is what the test of it computes.
abbrev pub StandingIsComputed : Type 0
StandingIsComputed = (world : World ℕ) → OneNumberEach world → AllStand world ↔ ChainsEnd world

-- A mount and its descendants are each once in their tree,
abbrev pub TreesHaveEachOnce : Type 0
TreesHaveEachOnce =
    (world : World ℕ) (number : ℕ) → OneNumberEach world → AllStand world
    → OneNumberAMount (mount_tree nat_eq world.mounts (mount_numbered nat_eq world number))

-- and so are those that a bind takes.
abbrev pub BindsTakeEachOnce : Type 0
BindsTakeEachOnce =
    (world : World ℕ) (source : Location ℕ) (recursive : Bool) → OneNumberEach world → AllStand world
    → OneNumberAMount (bind_tree nat_eq world source recursive)

-- Mounts keep standing, each with a number of its own, where those that are handed in are not in use: through a bind,
abbrev pub BindsKeepStanding : Type 0
BindsKeepStanding =
    (world : World ℕ) (fresh : Fresh ℕ) (source destination : Location ℕ) (recursive : Bool) → Serves nat_eq world fresh
    → OneNumberEach world → NowhereOrAttached world → AllStand world → is_mount world destination.mount ≡ true
    → AllStand (bound_at nat_eq fresh world source destination recursive)

abbrev pub BindsKeepNumbers : Type 0
BindsKeepNumbers =
    (world : World ℕ) (fresh : Fresh ℕ) (source destination : Location ℕ) (recursive : Bool) → Serves nat_eq world fresh
    → OneNumberEach world → AllStand world → OneNumberEach (bound_at nat_eq fresh world source destination recursive)

-- through a new mount,
abbrev pub NewMountsKeepStanding : Type 0
NewMountsKeepStanding =
    (world : World ℕ) (fresh : Fresh ℕ) (destination : Location ℕ) (filesystem : Filesystem ℕ) (flags : MountFlags)
    → Serves nat_eq (with_new_filesystem world filesystem) fresh → OneNumberEach world → NowhereOrAttached world
    → AllStand world → is_mount world destination.mount ≡ true
    → AllStand (mounted nat_eq fresh world destination filesystem flags)

abbrev pub NewMountsKeepNumbers : Type 0
NewMountsKeepNumbers =
    (world : World ℕ) (fresh : Fresh ℕ) (destination : Location ℕ) (filesystem : Filesystem ℕ) (flags : MountFlags)
    → Serves nat_eq (with_new_filesystem world filesystem) fresh → OneNumberEach world
    → OneNumberEach (mounted nat_eq fresh world destination filesystem flags)

-- and through a move, which hands numbers to the copies at receivers.
abbrev pub MovesKeepNumbers : Type 0
MovesKeepNumbers =
    (world : World ℕ) (fresh : Fresh ℕ) (source destination : Location ℕ) → Serves nat_eq world fresh
    → OneNumberEach world
    → AllStand world → OneNumberEach (moved_to nat_eq fresh world source.mount destination)

-- A bind and a new mount leave no two mounts with one mount point, where none has the destination: that is one over
-- which no mount stands.
abbrev pub BindsKeepMountPoints : Type 0
BindsKeepMountPoints =
    (world : World ℕ) (fresh : Fresh ℕ) (source destination : Location ℕ) (recursive : Bool) → Serves nat_eq world fresh
    → OneNumberEach world → NowhereOrAttached world → AllStand world → is_mount world destination.mount ≡ true
    → child_at nat_eq world.mounts destination ≡ None → OneMountEachMountPoint world
    → OneMountEachMountPoint (bound_at nat_eq fresh world source destination recursive)

abbrev pub NewMountsKeepMountPoints : Type 0
NewMountsKeepMountPoints =
    (world : World ℕ) (fresh : Fresh ℕ) (destination : Location ℕ) (filesystem : Filesystem ℕ) (flags : MountFlags)
    → Serves nat_eq (with_new_filesystem world filesystem) fresh → OneNumberEach world → NowhereOrAttached world
    → AllStand world → is_mount world destination.mount ≡ true → child_at nat_eq world.mounts destination ≡ None
    → OneMountEachMountPoint world → OneMountEachMountPoint (mounted nat_eq fresh world destination filesystem flags)
