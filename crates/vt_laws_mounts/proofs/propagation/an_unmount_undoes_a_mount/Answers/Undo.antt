-- An unmount undoes a new mount and a bind of one mount.
use Rattle.vt_laws_mounts.specs.Mounts.Propagation.{UnmountUndoesBind, UnmountUndoesNewMount}
use Rattle.vt_laws_mounts.proofs.propagation.undone.Attached.{bind_attaches, new_mount_attaches}
use Rattle.vt_laws_mounts.proofs.propagation.undone.Back.{nothing_leaves_receivers, undoes}

pub unmount_undoes_new_mount : UnmountUndoesNewMount
unmount_undoes_new_mount world fresh place filesystem flags serves mounts there free nothing =
    undoes (new_mount_attaches world fresh place filesystem flags serves mounts there free)
    (nothing_leaves_receivers _ fresh place _ nothing)

pub unmount_undoes_bind : UnmountUndoesBind
unmount_undoes_bind world fresh source place serves mounts there free nothing =
    undoes (bind_attaches world fresh source place serves mounts there free)
    (nothing_leaves_receivers _ fresh place _ nothing)
