use Rattle.std.proofs.Common.{rules, Ok, [], ◌∙◌}
use Rattle.vt_spec.proofs.Common.{err_from_is_err_and, make_rules, new_file, open_new_permit, unless-let_through, unnumbered}
use Rattle.vt_request.specs.Requests.{access_of}
use Rattle.vt_tasks.specs.TaskValue.{task_of}
use Rattle.vt_rules.specs.Permitted.{create_file_permit}
use Rattle.vt_rules.proofs.Judged.{refused, without_memory}
use Rattle.vt_rules.proofs.Refusals.{unless-stopped}
use Rattle.vt_rules.proofs.descriptors.create_file_permit.Goals as goal

pub returns-in_err-may_make : goal.returns-in_err-may_make
returns-in_err-may_make g c meant is =
    let looks = g.L.Look.looks c.args.world.now in
    let task = task_of c.args.who.now in
    let access = access_of c.args.how.access in
    let change = unnumbered meant (new_file task c.args.how.mode []) in
    let p = err_from_is_err_and c.from_residual.result c.from_residual.ensures.1 in
    rw (p.1, p.2) (refused task (create_file_permit looks task meant access c.args.how.mode) _
    (unless-stopped (make_rules looks task meant change) (Ok (open_new_permit task meant access c.args.how.mode)) _
    (c.in_err-may_make.ensures meant (new_file task c.args.how.mode []) is.parent)))

pub returns-in_err-name_at : goal.returns-in_err-name_at
returns-in_err-name_at g c meant is =
    let looks = g.L.Look.looks c.args.world.now in
    let task = task_of c.args.who.now in
    let access = access_of c.args.how.access in
    let change = unnumbered meant (new_file task c.args.how.mode []) in
    let p = err_from_is_err_and c.from_residual-in_err-name_at.result c.from_residual-in_err-name_at.ensures.1 in
    rw (p.1, p.2) (without_memory task (create_file_permit looks task meant access c.args.how.mode)
    (open_new_permit task meant access c.args.how.mode) _
    (unless-let_through (make_rules looks task meant change) (Ok (open_new_permit task meant access c.args.how.mode))
    (c.in_ok-may_make.ensures meant (new_file task c.args.how.mode []) is.parent)) c.in_err-name_at.ensures.memory)

pub returns : goal.returns
returns g c meant is =
    let looks = g.L.Look.looks c.args.world.now in
    let task = task_of c.args.who.now in
    let access = access_of c.args.how.access in
    let change = unnumbered meant (new_file task c.args.how.mode []) in
    unless-let_through (make_rules looks task meant change) (Ok (open_new_permit task meant access c.args.how.mode))
    (c.in_ok-may_make.ensures meant (new_file task c.args.how.mode []) is.parent) ∙ search rules
