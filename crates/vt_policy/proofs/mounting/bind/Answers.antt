use Rattle.std.proofs.Common.{nat_eq, refl, sym, ◌∙◌}
use Rattle.vt_spec.proofs.Common.{Bind, ToBind, err_from_is_err_and, judge, or_from}
use Rattle.vt_spec.specs.declared.errors.Rule.TheVariants.{M2, M3}
use Rattle.vt_location.specs.Locations.{location_of}
use Rattle.vt_tasks.specs.TaskValue.{task_of}
use Rattle.vt_rules.proofs.Judged.{no_receivers}
use Rattle.vt_policy.proofs.MountLemmas.{bind_asked}
use Rattle.vt_rules.proofs.Rows.{skipped}
use Rattle.vt_policy.proofs.mounting.bind.Goals as goal

pub returns-in_err-overfills : goal.returns-in_err-overfills
returns-in_err-overfills g c =
    let looks = g.L.Look.looks c.args.world.now in
    let overfills = g.L.LookAtMounts.overfills c.args.world.now in
    let task = task_of c.args.who.now in
    let source = location_of c.in_ok-source.source in
    let destination = location_of c.in_ok-destination.destination in
    let permit = ToBind source destination c.args.recursive in
    let p = err_from_is_err_and c.from_residual-in_err-overfills.result c.from_residual-in_err-overfills.ensures.1 in
    rw (p.1, p.2) (no_receivers (Bind c.args.source.now c.args.path.now c.args.recursive) task
    (judge nat_eq looks overfills task (Bind c.args.source.now c.args.path.now c.args.recursive))
    (overfills permit) permit _ refl
    (bind_asked looks overfills task c.args.source.now c.args.path.now c.args.recursive source destination
    (sym c.lacks.ensures ∙ c.if-lacks.false) c.in_ok-source.ensures.ok c.in_ok-destination.ensures.ok
    ∙ skipped _ M2 _ _ (or_from _ _ (sym c.is_elsewhere.ensures ∙ c.if-is_elsewhere.false)
    (sym c.is_elsewhere-else-is_elsewhere.ensures ∙ c.if-is_elsewhere-2.false))
    ∙ skipped _ M3 _ _ (sym c.is_unbindable.ensures ∙ c.if-is_unbindable.false)) c.in_err-overfills.ensures.memory)
