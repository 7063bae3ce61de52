use Rattle.std.proofs.Common.{map, subst, sym, All, ◌∙◌}
use Rattle.vt_propagate.specs.Falling.{FallsTo, LeavesBy, point_of}
use Rattle.vt_propagate.proofs.Found.{counts}
use Rattle.vt_propagate.proofs.lazily.unmount_lazily.Goals as goal

pub returns-clause-left : goal.returns-clause-left
returns-clause-left c world is =
    subst (λ ids. LeavesBy world (counts ids) (map point_of c.in_ok-points.points.items))
    (c.deref.ensures.value ∙ sym c.from_vec.ensures.items)
    (c.in_ok-points.ensures.ok world is)

pub returns-clause-each : goal.returns-clause-each
returns-clause-each c world is =
    subst (λ ids. All (FallsTo world (counts ids)) (map point_of c.in_ok-points.points.items))
    (c.deref.ensures.value ∙ sym c.from_vec.ensures.items)
    (c.in_ok-points.ensures.each world is)
