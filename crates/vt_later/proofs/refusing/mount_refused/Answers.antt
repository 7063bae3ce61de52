use Rattle.std.proofs.Common.{inl, nat_eq, sym, ◌∙◌}
use Rattle.vt_spec.proofs.Common.{admin_rules, err_from_is_err_and, judging, unless-let_through}
use Rattle.vt_request.specs.Requests.{mount_call_of}
use Rattle.vt_rules.proofs.Refusals.{unless-stopped}
use Rattle.vt_tasks.specs.TaskValue.{task_of}
use Rattle.vt_later.specs.Passing.{lets_pass, without}
use Rattle.vt_later.specs.Past.{behind_needs, refusal_past}
use Rattle.vt_later.proofs.Calls.{administered_first}
use Rattle.vt_later.proofs.Judged.{as_well}
use Rattle.vt_later.proofs.refusing.mount_refused.Goals as goal

pub returns-in_err-may_administer : goal.returns-in_err-may_administer
returns-in_err-may_administer g c =
    let looks = g.L.Look.looks c.args.world.now in
    let overfills = g.L.LookAtMounts.overfills c.args.world.now in
    let passed = c.args.passed.now in
    let task = task_of c.args.who.now in
    let call = c.args.call.now in
    let p = err_from_is_err_and c.from_residual.result c.from_residual.ensures.1 in
    rw (p.1, p.2) (inl (administered_first looks task passed overfills call
    ∙ unless-stopped (without (lets_pass passed) (admin_rules task))
    (refusal_past looks task passed overfills (behind_needs (judging nat_eq looks task (mount_call_of call)))) _
    c.in_err-may_administer.ensures))

pub returns : goal.returns
returns g c =
    let looks = g.L.Look.looks c.args.world.now in
    let overfills = g.L.LookAtMounts.overfills c.args.world.now in
    let passed = c.args.passed.now in
    let task = task_of c.args.who.now in
    let call = c.args.call.now in
    let behind = refusal_past looks task passed overfills (behind_needs (judging nat_eq looks task (mount_call_of call))) in
    as_well behind (refusal_past looks task passed overfills (judging nat_eq looks task (mount_call_of call)))
    c.administered.result
    (sym (administered_first looks task passed overfills call
    ∙ unless-let_through (without (lets_pass passed) (admin_rules task)) behind c.in_ok-may_administer.ensures))
    c.administered.ensures
