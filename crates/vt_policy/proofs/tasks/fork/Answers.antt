use Rattle.std.proofs.Common.{Ok, Some}
use Rattle.vt_spec.proofs.Common.{Fork, ToFork, child_credentials, err_from_is_err_and, fork_rules, judging}
use Rattle.vt_request.specs.Requests.{fork_words_of}
use Rattle.vt_tasks.specs.TaskValue.{task_of}
use Rattle.vt_rules.proofs.Judged.{refused}
use Rattle.vt_rules.proofs.Refusals.{unless-stopped}
use Rattle.vt_policy.specs.Judged.{judge_by_looks}
use Rattle.vt_policy.proofs.tasks.fork.Goals as goal

pub returns-in_default : goal.returns-in_default
returns-in_default c looks = rw c.in_default.is (c.fork_alike.ensures looks)

pub returns-in_err-may_fork : goal.returns-in_err-may_fork
unfolding judging
returns-in_err-may_fork c looks =
    let task = task_of c.args.who.now in
    let p = err_from_is_err_and c.from_residual.result c.from_residual.ensures.1 in
    let child = child_credentials task.credentials (Some (fork_words_of c.in-Some.words)) in
    rw (p.1, p.2, c.in-Some.is) (refused task (judge_by_looks looks task (Fork (Some (fork_words_of c.in-Some.words)))) _
    (unless-stopped (fork_rules task child) (Ok (ToFork child)) _ c.in_err-may_fork.ensures))
