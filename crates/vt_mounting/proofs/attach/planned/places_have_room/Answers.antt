use Rattle.std.proofs.Common.{arith, ◌∙◌}
use Rattle.vt_mounting.proofs.attach.PlannedMoves.{place_next}
use Rattle.vt_mounting.proofs.detach.CountNoUses.{uses_are_plain}
use Rattle.vt_mounting.proofs.attach.planned.places_have_room.Goals as goal

pub loop-point-preserved : goal.loop-point-preserved
loop-point-preserved c =
    place_next c.args.most c.args.store.now.plain c.args.points.now c.loop-point.point-index _ c.loop-point-test.true c.loop-point.invariant
    (c.uses.ensures ∙ uses_are_plain c.args.store.now c.requires _) (omega (arith, c.if-uses-most.false))
