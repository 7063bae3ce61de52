use Rattle.std.proofs.Common.{ap, sym, ◌∙◌}
use Rattle.vt_mounting.proofs.Common.{shown}
use Rattle.vt_mounting.specs.Attach.Room as meant
use Rattle.vt_mounting.proofs.attach.attaching.point_has_room.Goals as goal

pub returns-in-Some-clause-room : goal.returns-in-Some-clause-room
returns-in-Some-clause-room c = c.node_has_room.ensures.room
    ∙ ap (meant.point_has_room c.args.most (shown c.args.store.now.plain)) (sym c.in-Some.is)
