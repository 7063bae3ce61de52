use Rattle.std.proofs.Common.{[], Ok, nat_eq, sym, ◌∙◌}
use Rattle.vt_spec.proofs.Common.{ToSetRoot, directory_walk, enter_rules, err_from_is_err_and, judging, unless, unless-let_through, walk_end}
use Rattle.vt_spec.specs.declared.errors.Rule.TheVariants.{K1}
use Rattle.vt_location.specs.Locations.{location_of}
use Rattle.vt_tasks.specs.TaskValue.{task_of}
use Rattle.vt_policy.proofs.MountLemmas.{reached}
use Rattle.vt_rules.proofs.Refusals.{unless-stopped}
use Rattle.vt_rules.proofs.Rows.{skipped}
use Rattle.vt_policy.proofs.tasks.chroot.Goals as goal

pub returns-in_err-may_enter : goal.returns-in_err-may_enter
unfolding judging
returns-in_err-may_enter g c =
    let looks = g.L.Look.looks c.args.world.now in
    let task = task_of c.args.who.now in
    let at = location_of c.in_ok-root.root in
    let p = err_from_is_err_and c.from_residual-in_err-may_enter.result c.from_residual-in_err-may_enter.ensures.1 in
    rw (p.1, p.2) (skipped _ K1 [] _ (sym c.lacks.ensures ∙ c.if-lacks.false)
    ∙ reached (walk_end (directory_walk nat_eq looks task c.args.path.now)) at
    (λ at. unless (enter_rules looks task at) (Ok (ToSetRoot at))) c.in_ok-root.ensures.ok
    ∙ unless-stopped (enter_rules looks task at) (Ok (ToSetRoot at)) _ c.in_err-may_enter.ensures)

pub returns : goal.returns
unfolding judging
returns g c =
    let looks = g.L.Look.looks c.args.world.now in
    let task = task_of c.args.who.now in
    let at = location_of c.in_ok-root.root in
    skipped _ K1 [] _ (sym c.lacks.ensures ∙ c.if-lacks.false)
    ∙ reached (walk_end (directory_walk nat_eq looks task c.args.path.now)) at
    (λ at. unless (enter_rules looks task at) (Ok (ToSetRoot at))) c.in_ok-root.ensures.ok
    ∙ unless-let_through (enter_rules looks task at) (Ok (ToSetRoot at)) c.in_ok-may_enter.ensures
