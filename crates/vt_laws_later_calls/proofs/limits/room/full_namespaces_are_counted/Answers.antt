use Rattle.vt_laws_later_calls.proofs.limits.room.Counted.{binds_ask_for_room, moves_ask_for_room, new_mounts_ask_for_room, overlays_ask_for_room}
use Rattle.vt_laws_later_calls.proofs.limits.room.full_namespaces_are_counted.Goals as goal

pub returns-clause-new_mount : goal.returns-clause-new_mount
returns-clause-new_mount c = new_mounts_ask_for_room

pub returns-clause-overlay : goal.returns-clause-overlay
returns-clause-overlay c = overlays_ask_for_room

pub returns-clause-bind : goal.returns-clause-bind
returns-clause-bind c = binds_ask_for_room

pub returns-clause-moves : goal.returns-clause-moves
returns-clause-moves c = moves_ask_for_room
