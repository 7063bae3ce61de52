-- An unmount undoes a new mount and a bind of one mount, where mounts stood at receivers.
use Rattle.std.proofs.Common.{inl, refl}
use Rattle.vt_laws_mounts.proofs.propagation.undone.Attached.{bind_attaches, new_mount_attaches, world_with}
use Rattle.vt_laws_mounts.proofs.propagation.undone.Back.{undoes}
use Rattle.vt_laws_mounts.proofs.propagation.undone.Leaving.{taken_along, taken_beside}
use Rattle.vt_laws_later_calls.specs.Undone.{UnmountTakesWhatStoodBeside, UnmountTakesWhatStoodThere, UnmountUndoesBindBeneath, UnmountUndoesNewMountBeneath}

-- a new mount is private, so it hears nothing
pub unmount_undoes_new_mount_beneath : UnmountUndoesNewMountBeneath
unmount_undoes_new_mount_beneath world fresh place filesystem flags serves mounts there free covered =
    undoes (new_mount_attaches world fresh place filesystem flags serves mounts there free)
    (record { take_part = covered; stay = λ group receiver mount e r hears m stood. inl refl })

pub unmount_undoes_bind_beneath : UnmountUndoesBindBeneath
unfolding world_with
unmount_undoes_bind_beneath world fresh source place serves mounts there free covered apart =
    undoes (bind_attaches world fresh source place serves mounts there free)
    (record { take_part = covered; stay = apart })

pub unmount_takes_what_stood_there : UnmountTakesWhatStoodThere
unfolding world_with
unmount_takes_what_stood_there world fresh source place group receiver mount serves mounts there free =
    taken_along (bind_attaches world fresh source place serves mounts there free) group receiver mount

pub unmount_takes_what_stood_beside : UnmountTakesWhatStoodBeside
unfolding world_with
unmount_takes_what_stood_beside = (
  λ world fresh place filesystem flags serves mounts there free.
      taken_beside (new_mount_attaches world fresh place filesystem flags serves mounts there free) free,
  λ world fresh source place serves mounts there free.
      taken_beside (bind_attaches world fresh source place serves mounts there free) free,
)
