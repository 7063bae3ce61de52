use Rattle.std.proofs.Common.{◌≡◌, Some, take, true}
use Rattle.vt_spec.proofs.Common.{list_all}
use Rattle.vt_mounting.proofs.Common.{shown}
use Rattle.vt_mounting.specs.Attach.Planned.{Point}
use Rattle.vt_mounting.specs.Attach.Room.{point_has_room}
use Rattle.vt_mounting.proofs.attach.planned.places_have_room.Given as goal

abbrev pub invariant-loop-point : goal.invariant-loop-point
invariant-loop-point l = list_all (λ (point : Point). point_has_room l.most (shown l.store.plain) (Some point.place))
    (take l.point-index l.points) ≡ true
