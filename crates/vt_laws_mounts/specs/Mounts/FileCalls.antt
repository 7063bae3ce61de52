-- Calls on files, and calls of tasks that leave no namespace, are of no mount.
use Rattle.std.specs.Prelude.{Bool, List, false, filter, true, ℕ, nat_eq, ◌≡◌, ◌⊎◌}
use Rattle.vt_spec.specs.Language.Calls.{Call, TaskName}
use Rattle.vt_spec.specs.Language.Calls.Call.{Bind, Exit, Lazy, MountOverlay, MountPlain, MoveMount, PivotRoot, Remount, Rename, Rmdir, SetType, Setns, Umount, Unshare}
use Rattle.vt_spec.specs.Lists.{Fresh}
use Rattle.vt_spec.specs.Machine.Mounts.{Mount}
use Rattle.vt_spec.specs.Machine.Policy.{policy}
use Rattle.vt_spec.specs.Machine.Settled.{mount_lives}
use Rattle.vt_spec.specs.Machine.World.{World}

-- A call that is no mount call, removes no directory and leaves no namespace. A directory that is removed or replaced
-- may be a mount point in another namespace, and a namespace may end with the task that leaves it: mount_namespaces(7).
abbrev pub is_of_no_mount : Call → Bool
is_of_no_mount (Rmdir path) = false
is_of_no_mount (Rename old new) = false
is_of_no_mount Exit = false
is_of_no_mount Unshare = false
is_of_no_mount (Setns name) = false
is_of_no_mount (MountPlain path flags) = false
is_of_no_mount (MountOverlay path options flags) = false
is_of_no_mount (Bind source path recursive) = false
is_of_no_mount (MoveMount source path) = false
is_of_no_mount (Umount path) = false
is_of_no_mount (Lazy path) = false
is_of_no_mount (Remount path flags) = false
is_of_no_mount (SetType path word recursive) = false
is_of_no_mount (PivotRoot new put) = false
is_of_no_mount call = true

-- The mounts of a world are these, in their order and with the records that they have here, but for those outside every
-- namespace that nothing uses any more: umount(2) with MNT_DETACH.
abbrev pub HasLiving : World ℕ → List (Mount ℕ) → Type 0
HasLiving world mounts = world.mounts ≡ filter (mount_lives nat_eq world) mounts

-- Such a call leaves each mount the record that it had.
abbrev pub FileCallsLeaveMounts : Type 0
FileCallsLeaveMounts =
    (fresh : Fresh ℕ) (world : World ℕ) (name : TaskName) (call : Call) → is_of_no_mount call ≡ true
    → ((policy nat_eq fresh world name call).world.mounts ≡ world.mounts)
    ⊎ HasLiving (policy nat_eq fresh world name call).world world.mounts
