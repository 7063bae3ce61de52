use Rattle.std.proofs.Common.{ap, map, nat_eq, subst, sym, ◌∙◌, All}
use Rattle.vt_spec.proofs.Common.{regrouped, taken_away, with_mounts}
use Rattle.vt_propagate.specs.Falling.{FallsTo, LeavesBy, left_by, point_of}
use Rattle.vt_propagate.proofs.Found.{counts}
use Rattle.vt_propagate.proofs.detaching.unmount.Goals as goal

pub returns-clause-ok : goal.returns-clause-ok
returns-clause-ok c world seen = ap (taken_away nat_eq world) (sym (c.in_ok-gone.ensures.ok world seen))
    ∙ ap (λ ids. taken_away nat_eq world (counts ids)) (sym c.deref.ensures)
    ∙ c.in_ok-points.ensures.ok world seen.mounts ∙ ap (λ ids. regrouped nat_eq (with_mounts world
    (map (left_by (counts ids) (map point_of c.in_ok-points.points.items)) world.mounts))) c.deref.ensures

pub returns-clause-gone : goal.returns-clause-gone
returns-clause-gone c world seen = c.in_ok-gone.ensures.ok world seen

pub returns-clause-left : goal.returns-clause-left
returns-clause-left c world is =
    subst (λ ids. LeavesBy world (counts ids) (map point_of c.in_ok-points.points.items)) c.deref.ensures
    (c.in_ok-points.ensures.ok world is)

pub returns-clause-each : goal.returns-clause-each
returns-clause-each c world is =
    subst (λ ids. All (FallsTo world (counts ids)) (map point_of c.in_ok-points.points.items)) c.deref.ensures
    (c.in_ok-points.ensures.each world is)
