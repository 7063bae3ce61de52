use Rattle.std.proofs.Common.{Ok, nat_eq, sym, ◌∙◌}
use Rattle.vt_spec.proofs.Common.{ToPivot, err_from_is_err_and, pivot_rules, unless-let_through}
use Rattle.vt_location.specs.Locations.{location_of}
use Rattle.vt_tasks.specs.TaskValue.{task_of}
use Rattle.vt_policy.proofs.MountLemmas.{pivot_asked}
use Rattle.vt_rules.proofs.Refusals.{unless-stopped}
use Rattle.vt_policy.proofs.mounting.pivot_root.Goals as goal

pub returns-in_err-may_pivot : goal.returns-in_err-may_pivot
returns-in_err-may_pivot g c =
    let looks = g.L.Look.looks c.args.world.now in
    let task = task_of c.args.who.now in
    let root = location_of c.in_ok-root.root in
    let put = location_of c.in_ok-put.put in
    let p = err_from_is_err_and c.from_residual-in_err-may_pivot.result c.from_residual-in_err-may_pivot.ensures.1 in
    rw (p.1, p.2) (pivot_asked looks task c.args.new.now c.args.put.now root put
    (sym c.lacks.ensures ∙ c.if-lacks.false) c.in_ok-root.ensures.ok c.in_ok-put.ensures.ok
    ∙ unless-stopped (pivot_rules nat_eq looks task root put) (Ok (ToPivot root.mount put)) _ c.in_err-may_pivot.ensures)

pub returns : goal.returns
returns g c =
    let looks = g.L.Look.looks c.args.world.now in
    let task = task_of c.args.who.now in
    let root = location_of c.in_ok-root.root in
    let put = location_of c.in_ok-put.put in
    pivot_asked looks task c.args.new.now c.args.put.now root put
    (sym c.lacks.ensures ∙ c.if-lacks.false) c.in_ok-root.ensures.ok c.in_ok-put.ensures.ok
    ∙ unless-let_through (pivot_rules nat_eq looks task root put) (Ok (ToPivot root.mount put)) c.in_ok-may_pivot.ensures
