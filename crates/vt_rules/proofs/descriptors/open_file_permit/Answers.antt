use Rattle.std.proofs.Common.{Ok}
use Rattle.vt_spec.proofs.Common.{ToOpen, err_from_is_err_and, open_rules, unless-let_through}
use Rattle.vt_location.specs.Locations.{location_of}
use Rattle.vt_request.specs.Requests.{access_of}
use Rattle.vt_tasks.specs.TaskValue.{task_of}
use Rattle.vt_rules.proofs.Refusals.{unless-stopped}
use Rattle.vt_rules.proofs.descriptors.open_file_permit.Goals as goal

pub returns-in_err-may_open : goal.returns-in_err-may_open
returns-in_err-may_open g c =
    let file = location_of c.args.file in
    let access = access_of c.args.access in
    let p = err_from_is_err_and c.from_residual.result c.from_residual.ensures.1 in
    rw (p.1, p.2) (unless-stopped (open_rules (g.L.Look.looks c.args.world.now) (task_of c.args.who.now) file access)
    (Ok (ToOpen file access)) _ c.in_err-may_open.ensures)

pub returns : goal.returns
returns g c =
    let file = location_of c.args.file in
    let access = access_of c.args.access in
    unless-let_through (open_rules (g.L.Look.looks c.args.world.now) (task_of c.args.who.now) file access)
    (Ok (ToOpen file access)) c.in_ok-may_open.ensures
