use Rattle.std.proofs.Common.{Ok, ap, ◌∙◌}
use Rattle.vt_spec.proofs.Common.{SetBytes, ToChange, err_from_is_err_and, rewrite_rules, unless, unless-let_through}
use Rattle.vt_location.specs.Locations.{location_of}
use Rattle.vt_tasks.specs.TaskValue.{task_of}
use Rattle.vt_rules.proofs.Refusals.{unless-stopped}
use Rattle.vt_rules.proofs.making.rewrite_permit.Goals as goal

pub returns-in_err-may_rewrite : goal.returns-in_err-may_rewrite
returns-in_err-may_rewrite g c =
    let file = location_of c.args.file in
    let rows = rewrite_rules (g.L.Look.looks c.args.world.now) (task_of c.args.who.now) file in
    let p = err_from_is_err_and c.from_residual.result c.from_residual.ensures.1 in
    rw (p.1, p.2) (unless-stopped (rows c.args.bytes.items)
    (Ok (ToChange file (SetBytes file.node c.args.bytes.items))) _
    (c.in_err-may_rewrite.ensures ∙ ap (λ bytes. unless (rows bytes) (Ok tt)) c.deref.ensures.value))

pub returns : goal.returns
returns g c =
    let file = location_of c.args.file in
    let rows = rewrite_rules (g.L.Look.looks c.args.world.now) (task_of c.args.who.now) file in
    unless-let_through (rows c.args.bytes.items) (Ok (ToChange file (SetBytes file.node c.args.bytes.items)))
    (c.in_ok-may_rewrite.ensures ∙ ap (λ bytes. unless (rows bytes) (Ok tt)) c.deref.ensures.value)
