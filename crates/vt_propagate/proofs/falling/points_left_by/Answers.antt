use Rattle.std.proofs.Common.{ap, subst, sym, ◌∙◌, All}
use Rattle.vt_spec.proofs.Common.{IfOk-weaker}
use Rattle.vt_mount.specs.MountsValue.{are_ascending}
use Rattle.vt_propagate.specs.Falling.{FallsTo, LeavesBy, all_points_left}
use Rattle.vt_propagate.proofs.falling.Fallen.{each_falls, leaves}
use Rattle.vt_propagate.proofs.Found.{counts}
use Rattle.vt_propagate.proofs.falling.points_left_by.Goals as goal

pub returns-clause-ok : goal.returns-clause-ok
returns-clause-ok c = IfOk-weaker c.all_left_by.result _ _ (λ points is world same.
    subst (LeavesBy world (counts c.args.gone.now.ids.now)) (sym (is
    ∙ ap (λ mounts. all_points_left mounts (counts c.args.gone.now.ids.now)) same))
    (leaves world (ap are_ascending (sym same) ∙ c.alloc.ensures.order) (counts c.args.gone.now.ids.now))) c.all_left_by.ensures

pub returns-clause-each : goal.returns-clause-each
returns-clause-each c = IfOk-weaker c.all_left_by.result _ _ (λ points is world same.
    subst (All (FallsTo world (counts c.args.gone.now.ids.now))) (sym (is
    ∙ ap (λ mounts. all_points_left mounts (counts c.args.gone.now.ids.now)) same))
    (each_falls world (ap are_ascending (sym same) ∙ c.alloc.ensures.order) (counts c.args.gone.now.ids.now)))
    c.all_left_by.ensures
