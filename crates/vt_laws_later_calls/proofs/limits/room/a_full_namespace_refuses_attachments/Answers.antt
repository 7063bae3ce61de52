use Rattle.vt_laws_later_calls.proofs.limits.room.Refused.{bind_needs_room, move_needs_room, new_mount_needs_room}
use Rattle.vt_laws_later_calls.proofs.limits.room.a_full_namespace_refuses_attachments.Goals as goal

pub returns-clause-new_mount : goal.returns-clause-new_mount
returns-clause-new_mount c = new_mount_needs_room

pub returns-clause-bind : goal.returns-clause-bind
returns-clause-bind c = bind_needs_room

pub returns-clause-moves : goal.returns-clause-moves
returns-clause-moves c = move_needs_room
