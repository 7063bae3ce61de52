mod Undo
use Rattle.vt_laws_later_calls.proofs.undone.an_unmount_undoes_a_mount_beneath_others.Answers.Undo.{unmount_takes_what_stood_beside, unmount_takes_what_stood_there, unmount_undoes_bind_beneath, unmount_undoes_new_mount_beneath}
use Rattle.vt_laws_later_calls.proofs.undone.an_unmount_undoes_a_mount_beneath_others.Goals as goal

pub returns-clause-new_mount : goal.returns-clause-new_mount
returns-clause-new_mount c = unmount_undoes_new_mount_beneath

pub returns-clause-bind : goal.returns-clause-bind
returns-clause-bind c = unmount_undoes_bind_beneath

pub returns-clause-taken : goal.returns-clause-taken
returns-clause-taken c = unmount_takes_what_stood_there

pub returns-clause-beside : goal.returns-clause-beside
returns-clause-beside c = unmount_takes_what_stood_beside
