use Rattle.std.proofs.Common.{[], Ok, nat_eq, sym, ◌∙◌}
use Rattle.vt_spec.proofs.Common.{SetMark, ToChange, directory_walk, err_from_is_err_and, judging, opaque_rules, unless, unless-let_through, walk_end}
use Rattle.vt_spec.specs.declared.errors.Rule.TheVariants.{K1}
use Rattle.vt_location.specs.Locations.{location_of}
use Rattle.vt_tasks.specs.TaskValue.{task_of}
use Rattle.vt_policy.proofs.MountLemmas.{reached}
use Rattle.vt_rules.proofs.Refusals.{unless-stopped}
use Rattle.vt_rules.proofs.Rows.{skipped}
use Rattle.vt_policy.proofs.attributes.opaque.Goals as goal

pub returns-in_err-may_mark : goal.returns-in_err-may_mark
unfolding judging
returns-in_err-may_mark g c =
    let looks = g.L.Look.looks c.args.world.now in
    let task = task_of c.args.who.now in
    let at = location_of c.in_ok-directory.directory in
    let p = err_from_is_err_and c.from_residual-in_err-may_mark.result c.from_residual-in_err-may_mark.ensures.1 in
    rw (p.1, p.2) (skipped _ K1 [] _ (sym c.lacks.ensures ∙ c.if-lacks.false)
    ∙ reached (walk_end (directory_walk nat_eq looks task c.args.path.now)) at
    (λ at. unless (opaque_rules looks at) (Ok (ToChange at (SetMark at.node c.args.mark)))) c.in_ok-directory.ensures.ok
    ∙ unless-stopped (opaque_rules looks at) (Ok (ToChange at (SetMark at.node c.args.mark))) _
    c.in_err-may_mark.ensures)

pub returns : goal.returns
unfolding judging
returns g c =
    let looks = g.L.Look.looks c.args.world.now in
    let task = task_of c.args.who.now in
    let at = location_of c.in_ok-directory.directory in
    skipped _ K1 [] _ (sym c.lacks.ensures ∙ c.if-lacks.false)
    ∙ reached (walk_end (directory_walk nat_eq looks task c.args.path.now)) at
    (λ at. unless (opaque_rules looks at) (Ok (ToChange at (SetMark at.node c.args.mark)))) c.in_ok-directory.ensures.ok
    ∙ unless-let_through (opaque_rules looks at) (Ok (ToChange at (SetMark at.node c.args.mark)))
    c.in_ok-may_mark.ensures
