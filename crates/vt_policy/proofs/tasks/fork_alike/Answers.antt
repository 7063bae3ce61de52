use Rattle.std.proofs.Common.{None, Ok, ap, sym, ◌∙◌}
use Rattle.vt_spec.proofs.Common.{Fork, ToFork}
use Rattle.vt_tasks.specs.TaskValue.{task_of}
use Rattle.vt_policy.specs.Judged.{judge_by_looks}
use Rattle.vt_policy.proofs.ForkLemmas.{forked_alike}
use Rattle.vt_rules.proofs.Judged.{without_memory}
use Rattle.vt_policy.proofs.tasks.fork_alike.Goals as goal

pub returns-in_default : goal.returns-in_default
returns-in_default c looks =
    let task = task_of c.args.who.now in
    without_memory task (judge_by_looks looks task (Fork None)) (ToFork task.credentials) _
    (forked_alike looks task (sym c.is_barren.ensures ∙ c.if-is_barren.false)) c.denial-in_default.ensures

pub returns : goal.returns
returns c looks =
    let task = task_of c.args.who.now in
    forked_alike looks task (sym c.is_barren.ensures ∙ c.if-is_barren.false)
    ∙ ap (λ cred. Ok (ToFork cred)) (sym c.in-Ok.ensures.cases)
