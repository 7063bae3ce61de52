-- What a bind, a new mount and a move keep of mounts outside every namespace and of groups:
-- mount_namespaces(7), sharedsubtree.
use Rattle.std.specs.Prelude.{Bool, is_some, true, ℕ, nat_eq, ◌≡◌}
use Rattle.vt_spec.specs.Lists.{Fresh}
use Rattle.vt_spec.specs.Machine.Mounts.{Location}
use Rattle.vt_spec.specs.Language.Calls.{MountFlags}
use Rattle.vt_spec.specs.Machine.Attach.{bound_at, moved_to}
use Rattle.vt_spec.specs.Machine.NewMounts.{mounted, with_new_filesystem}
use Rattle.vt_spec.specs.Machine.Run.{Serves}
use Rattle.vt_spec.specs.Machine.World.{Filesystem, World, mount_at}
use Rattle.vt_laws_mounts.specs.Mounts.Attaching.{is_mount}
use Rattle.vt_laws_mounts.specs.Mounts.Invariants.{NowhereOrAttached, OneNumberEach}
use Rattle.vt_laws_mounts.specs.Mounts.Receivers.{GroupsLive}
use Rattle.vt_laws_mounts.specs.Mounts.Standing.{AllStand}

-- the mount of a location is in a namespace
abbrev pub IsAttachedAt : World ℕ → Location ℕ → Type 0
IsAttachedAt world destination = is_some (mount_at nat_eq world destination).namespace ≡ true

-- Where the destination is in a namespace, a mount outside every namespace has no mount point and is private: after a
-- bind,
abbrev pub BindsKeepNowhere : Type 0
BindsKeepNowhere =
    (world : World ℕ) (fresh : Fresh ℕ) (source destination : Location ℕ) (recursive : Bool)
    → NowhereOrAttached world → IsAttachedAt world destination
    → NowhereOrAttached (bound_at nat_eq fresh world source destination recursive)

-- after a new mount,
abbrev pub NewMountsKeepNowhere : Type 0
NewMountsKeepNowhere =
    (world : World ℕ) (fresh : Fresh ℕ) (destination : Location ℕ) (filesystem : Filesystem ℕ)
    (flags : MountFlags) → NowhereOrAttached world → IsAttachedAt world destination
    → NowhereOrAttached (mounted nat_eq fresh world destination filesystem flags)

-- and after a move.
abbrev pub MovesKeepNowhere : Type 0
MovesKeepNowhere =
    (world : World ℕ) (fresh : Fresh ℕ) (source destination : Location ℕ)
    → NowhereOrAttached world → IsAttachedAt world destination
    → NowhereOrAttached (moved_to nat_eq fresh world source.mount destination)

-- Groups live on, where the numbers that are handed in are not in use: through a bind,
abbrev pub BindsKeepGroups : Type 0
BindsKeepGroups =
    (world : World ℕ) (fresh : Fresh ℕ) (source destination : Location ℕ) (recursive : Bool)
    → Serves nat_eq world fresh → OneNumberEach world → AllStand world → GroupsLive world
    → GroupsLive (bound_at nat_eq fresh world source destination recursive)

-- through a new mount,
abbrev pub NewMountsKeepGroups : Type 0
NewMountsKeepGroups =
    (world : World ℕ) (fresh : Fresh ℕ) (destination : Location ℕ) (filesystem : Filesystem ℕ)
    (flags : MountFlags) → Serves nat_eq (with_new_filesystem world filesystem) fresh → GroupsLive world
    → GroupsLive (mounted nat_eq fresh world destination filesystem flags)

-- and through a move of a mount of the world.
abbrev pub MovesKeepGroups : Type 0
MovesKeepGroups =
    (world : World ℕ) (fresh : Fresh ℕ) (source destination : Location ℕ) → Serves nat_eq world fresh
    → OneNumberEach world → AllStand world → is_mount world source.mount ≡ true → GroupsLive world
    → GroupsLive (moved_to nat_eq fresh world source.mount destination)
