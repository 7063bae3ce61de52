-- An unmount undoes a mount, also where mounts stood at receivers: the copies came beneath them. The kernel's document
-- sharedsubtree, "Propagation" and "Unmount semantics"; that a copy comes beneath what stood there is the profile's.
use Rattle.std.specs.Prelude.{Contains, None, false, nat_eq, true, ℕ, ◌≡◌, ◌⊎◌}
use Rattle.vt_spec.specs.Language.Calls.{MountFlags}
use Rattle.vt_spec.specs.Lists.{Fresh}
use Rattle.vt_spec.specs.Machine.Attach.{bound, takes_part}
use Rattle.vt_spec.specs.Machine.Detach.{may_go}
use Rattle.vt_spec.specs.Machine.Invariants.{MountInvariants}
use Rattle.vt_spec.specs.Machine.Mounts.{Location, Mount, child_at, detached, stands_at}
use Rattle.vt_spec.specs.Machine.Mounts.Propagation.{Shared}
use Rattle.vt_spec.specs.Machine.NewMounts.{new_mount, with_new_filesystem}
use Rattle.vt_spec.specs.Machine.Receives.{receives}
use Rattle.vt_spec.specs.Machine.Run.{Serves}
use Rattle.vt_spec.specs.Machine.World.{Filesystem, World, mount_at, mount_numbered}
use Rattle.vt_laws_mounts.specs.Mounts.Attaching.{is_mount}
use Rattle.vt_laws_mounts.specs.Mounts.Propagation.{Attachment, IsUndone, bind_of, destination_of, new_mount_of, number_at, world_after}
use Rattle.vt_laws_mounts.specs.Mounts.Unmounting.{mount_left}

-- Each receiver with a mount at the node of the place takes part, so that it gets a copy beneath that mount.
abbrev pub CoveredTakePart : World ℕ → Location ℕ → Type 0
CoveredTakePart world place =
    (group : ℕ) (receiver mount : Mount ℕ) → (mount_at nat_eq world place).propagation ≡ Shared group
    → Contains world.mounts receiver → receives nat_eq world group receiver ≡ true → Contains world.mounts mount
    → stands_at nat_eq (record { mount = receiver.number; node = place.node }) mount ≡ true
    → takes_part nat_eq world place receiver ≡ true

-- Then an unmount undoes a new mount at a free place: each mount that was there has its record back, what stood at
-- receivers too.
abbrev pub UnmountUndoesNewMountBeneath : Type 0
UnmountUndoesNewMountBeneath =
    (world : World ℕ) (fresh : Fresh ℕ) (place : Location ℕ) (filesystem : Filesystem ℕ) (flags : MountFlags)
    → Serves nat_eq (with_new_filesystem world filesystem) fresh → MountInvariants nat_eq world
    → is_mount world place.mount ≡ true → child_at nat_eq world.mounts place ≡ None
    → CoveredTakePart (with_new_filesystem world filesystem) place
    → IsUndone (new_mount_of fresh world place filesystem flags)
    (new_mount filesystem.number filesystem.files.tree.root flags)

-- the world after a bind of one mount, and a mount in it
abbrev pub bound_world : Fresh ℕ → World ℕ → Location ℕ → Location ℕ → World ℕ
bound_world fresh world source place = world_after (bind_of fresh world source place false)

abbrev pub mount_bound : Fresh ℕ → World ℕ → Location ℕ → Location ℕ → ℕ → Mount ℕ
mount_bound fresh world source place number = mount_numbered nat_eq (bound_world fresh world source place) number

-- What stands there at a receiver that takes no part, and may go, is detached: an unmount looks at each receiver.
abbrev pub TakesWhatStoodBeside : Attachment → Mount ℕ → Type 0
TakesWhatStoodBeside it one =
    (group : ℕ) (receiver mount : Mount ℕ) → (destination_of it).propagation ≡ Shared group
    → Contains it.world.mounts receiver → receives nat_eq it.world group receiver ≡ true
    → Contains it.world.mounts mount
    → stands_at nat_eq (record { mount = receiver.number; node = it.mount_point.node }) mount ≡ true
    → takes_part nat_eq it.world it.mount_point receiver ≡ false
    → may_go nat_eq (world_after it) (mount_numbered nat_eq (world_after it) mount.number) ≡ true
    → mount_left (world_after it) (number_at it (destination_of it) one) mount.number
    ≡ detached (mount_numbered nat_eq (world_after it) mount.number)

-- So it is after a new mount, and after a bind of one mount: each receiver with a mount there has to take part.
abbrev pub UnmountTakesWhatStoodBeside : Type 0
UnmountTakesWhatStoodBeside =
    ((world : World ℕ) (fresh : Fresh ℕ) (place : Location ℕ) (filesystem : Filesystem ℕ) (flags : MountFlags)
    → Serves nat_eq (with_new_filesystem world filesystem) fresh → MountInvariants nat_eq world
    → is_mount world place.mount ≡ true → child_at nat_eq world.mounts place ≡ None
    → TakesWhatStoodBeside (new_mount_of fresh world place filesystem flags)
    (new_mount filesystem.number filesystem.files.tree.root flags))
    × ((world : World ℕ) (fresh : Fresh ℕ) (source place : Location ℕ) → Serves nat_eq world fresh
    → MountInvariants nat_eq world → is_mount world place.mount ≡ true → child_at nat_eq world.mounts place ≡ None
    → TakesWhatStoodBeside (bind_of fresh world source place false) (bound nat_eq world source))

-- The copies of a source that hears the destination's group hear the unmount too. Where their root is the node of the
-- place, what a copy came beneath stands at that place of it: it is unmounted with the copies, unless something stands
-- on it that does not cover its root. So where a mount stands at a receiver, the source does not hear that group, or
-- its root is another node, or the mount stays.
abbrev pub NoneGoesWithTheCopies : Fresh ℕ → World ℕ → Location ℕ → Location ℕ → Type 0
NoneGoesWithTheCopies fresh world source place =
    (group : ℕ) (receiver mount : Mount ℕ) → (mount_at nat_eq world place).propagation ≡ Shared group
    → Contains world.mounts receiver → receives nat_eq world group receiver ≡ true → Contains world.mounts mount
    → stands_at nat_eq (record { mount = receiver.number; node = place.node }) mount ≡ true
    → (receives nat_eq world group (mount_at nat_eq world source) ≡ false)
    ⊎ ((nat_eq source.node place.node ≡ false)
    ⊎ (may_go nat_eq (bound_world fresh world source place) (mount_bound fresh world source place mount.number)
    ≡ false))

-- Then an unmount undoes a bind of one mount,
abbrev pub UnmountUndoesBindBeneath : Type 0
UnmountUndoesBindBeneath =
    (world : World ℕ) (fresh : Fresh ℕ) (source place : Location ℕ) → Serves nat_eq world fresh
    → MountInvariants nat_eq world → is_mount world place.mount ≡ true → child_at nat_eq world.mounts place ≡ None
    → CoveredTakePart world place → NoneGoesWithTheCopies fresh world source place
    → IsUndone (bind_of fresh world source place false) (bound nat_eq world source)

-- and else it does not: what may go, at a receiver that takes part, is detached with the copies.
abbrev pub UnmountTakesWhatStoodThere : Type 0
UnmountTakesWhatStoodThere =
    (world : World ℕ) (fresh : Fresh ℕ) (source place : Location ℕ) (group : ℕ) (receiver mount : Mount ℕ)
    → Serves nat_eq world fresh → MountInvariants nat_eq world → is_mount world place.mount ≡ true
    → child_at nat_eq world.mounts place ≡ None → (mount_at nat_eq world place).propagation ≡ Shared group
    → Contains world.mounts receiver → receives nat_eq world group receiver ≡ true → Contains world.mounts mount
    → stands_at nat_eq (record { mount = receiver.number; node = place.node }) mount ≡ true
    → takes_part nat_eq world place receiver ≡ true → receives nat_eq world group (mount_at nat_eq world source) ≡ true
    → nat_eq source.node place.node ≡ true
    → may_go nat_eq (bound_world fresh world source place) (mount_bound fresh world source place mount.number) ≡ true
    → mount_left (bound_world fresh world source place)
    (number_at (bind_of fresh world source place false) (mount_at nat_eq world place) (bound nat_eq world source))
    mount.number
    ≡ detached (mount_bound fresh world source place mount.number)
