mod Undo
use Rattle.vt_laws_mounts.proofs.propagation.an_unmount_undoes_a_mount.Answers.Undo.{unmount_undoes_bind, unmount_undoes_new_mount}
use Rattle.vt_laws_mounts.proofs.propagation.an_unmount_undoes_a_mount.Goals as goal

pub returns-clause-new_mount : goal.returns-clause-new_mount
returns-clause-new_mount c = unmount_undoes_new_mount

pub returns-clause-bind : goal.returns-clause-bind
returns-clause-bind c = unmount_undoes_bind
