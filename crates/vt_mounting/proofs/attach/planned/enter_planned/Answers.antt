use Rattle.vt_mounting.proofs.attach.MovesMade.{are_moves, if_both}
use Rattle.vt_mounting.proofs.attach.planned.enter_planned.Goals as goal

pub returns-clause-moves : goal.returns-clause-moves
returns-clause-moves c =
    if_both c.attach_all_then.result c.attach_all_then.ensures.moved c.attach_all_then.ensures.small
    (λ moved are small. are_moves c.args.plan.now.points.now c.args.mounts.now moved.items are small)
