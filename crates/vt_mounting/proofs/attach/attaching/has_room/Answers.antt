use Rattle.std.proofs.Common.{false, sym, true, ◌&&◌, ◌∙◌}
use Rattle.vt_mounting.proofs.Common.{shown}
use Rattle.vt_mounting.proofs.attach.RoomLemmas.{room_of_parts}
use Rattle.vt_mounting.proofs.attach.attaching.has_room.Goals as goal

pub returns-then-root_has_room-clause-room : goal.returns-then-root_has_room-clause-room
returns-then-root_has_room-clause-room c = c.point_has_room.ensures.room
    ∙ room_of_parts c.args.most (shown c.args.store.now.plain) c.args.mount true
    (sym c.if-root_has_room.true ∙ c.root_has_room.ensures.room)

pub returns-else-root_has_room-clause-room : goal.returns-else-root_has_room-clause-room
returns-else-root_has_room-clause-room c = c.if-root_has_room.false
    ∙ room_of_parts c.args.most (shown c.args.store.now.plain) c.args.mount false
    (sym c.if-root_has_room.false ∙ c.root_has_room.ensures.room)

pub returns-then-root_has_room-clause-slots : goal.returns-then-root_has_room-clause-slots
returns-then-root_has_room-clause-slots c = λ fits. λ i.
    c.root_has_room.ensures.slots i && c.point_has_room.ensures.slots i
