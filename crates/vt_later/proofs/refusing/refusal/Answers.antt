use Rattle.std.proofs.Common.{false, nat_eq, sym, true, true≢false, ◌∙◌, ◌≡◌}
use Rattle.vt_spec.proofs.Common.{judging}
use Rattle.vt_request.specs.Requests.{call_of}
use Rattle.vt_tasks.specs.TaskValue.{task_of}
use Rattle.vt_later.specs.Passing.{judge_past}
use Rattle.vt_later.specs.Past.{refusal_past}
use Rattle.vt_later.proofs.Judged.{a_refusal, answered, no_refusal}
use Rattle.vt_later.proofs.refusing.refusal.Goals as goal

pub returns-in-Ok : goal.returns-in-Ok
returns-in-Ok g c asked =
    let looks = g.L.Look.looks c.args.world.now in
    let overfills = g.L.LookAtMounts.overfills c.args.world.now in
    let passed = c.args.passed.now in
    let task = task_of c.args.who.now in
    let call = call_of c.args.call.now in
    no_refusal (judge_past looks overfills task call passed)
    (refusal_past looks task passed overfills (judging nat_eq looks task call))
    (answered looks task passed overfills (judging nat_eq looks task call)) (c.in-Ok.ensures asked)

pub returns-in-Err-2 : goal.returns-in-Err-2
returns-in-Err-2 g c asked =
    let looks = g.L.Look.looks c.args.world.now in
    let overfills = g.L.LookAtMounts.overfills c.args.world.now in
    let passed = c.args.passed.now in
    let task = task_of c.args.who.now in
    let call = call_of c.args.call.now in
    a_refusal (judge_past looks overfills task call passed)
    (refusal_past looks task passed overfills (judging nat_eq looks task call)) c.in-Err.deny
    (answered looks task passed overfills (judging nat_eq looks task call)) (c.in-Err.ensures asked) (λ same.
    let no : true ≡ false = rw same at (sym c.eq.ensures ∙ c.if-eq.false) in true≢false no)
