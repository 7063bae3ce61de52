use Rattle.std.proofs.Common.{rules, Ok, arith, le-ltb, length, ◌∙◌}
use Rattle.vt_spec.proofs.Common.{err_from_is_err_and, file_mode, make_permit, make_rules, new_file, unless-let_through, unnumbered}
use Rattle.vt_spec.specs.declared.errors.Rule.TheVariants.{E6}
use Rattle.vt_tasks.specs.TaskValue.{task_of}
use Rattle.vt_rules.specs.Permitted.{new_file_permit}
use Rattle.vt_rules.proofs.Judged.{refused, without_memory}
use Rattle.vt_rules.proofs.Refusals.{unless-stopped}
use Rattle.vt_rules.proofs.Rows.{skipped}
use Rattle.vt_rules.proofs.making.new_file_permit.Goals as goal

pub returns-in_err-may_make : goal.returns-in_err-may_make
returns-in_err-may_make g c meant is =
    let looks = g.L.Look.looks c.args.world.now in
    let task = task_of c.args.who.now in
    let node = new_file task file_mode c.args.bytes.items in
    let p = err_from_is_err_and c.from_residual.result c.from_residual.ensures.1 in
    rw (p.1, p.2) (refused task (new_file_permit looks task meant c.args.bytes.items) _
    (skipped _ E6 _ _ (le-ltb 1048576 (length c.args.bytes.items) (omega arith))
    ∙ unless-stopped (make_rules looks task meant (unnumbered meant node)) (Ok (make_permit meant node)) _
    (c.in_err-may_make.ensures meant node is.parent)))

pub returns-in_err-name_at : goal.returns-in_err-name_at
returns-in_err-name_at g c meant is =
    let looks = g.L.Look.looks c.args.world.now in
    let task = task_of c.args.who.now in
    let node = new_file task file_mode c.args.bytes.items in
    let p = err_from_is_err_and c.from_residual-in_err-name_at.result c.from_residual-in_err-name_at.ensures.1 in
    rw (p.1, p.2) (without_memory task (new_file_permit looks task meant c.args.bytes.items)
    (make_permit meant node) _ (skipped _ E6 _ _ (le-ltb 1048576 (length c.args.bytes.items) (omega arith))
    ∙ unless-let_through (make_rules looks task meant (unnumbered meant node)) (Ok (make_permit meant node))
    (c.in_ok-may_make.ensures meant node is.parent)) c.in_err-name_at.ensures.memory)

pub returns : goal.returns
returns g c meant is =
    let looks = g.L.Look.looks c.args.world.now in
    let task = task_of c.args.who.now in
    let node = new_file task file_mode c.args.bytes.items in
    skipped _ E6 _ _ (le-ltb 1048576 (length c.args.bytes.items) (omega arith))
    ∙ unless-let_through (make_rules looks task meant (unnumbered meant node)) (Ok (make_permit meant node))
    (c.in_ok-may_make.ensures meant node is.parent) ∙ search rules
