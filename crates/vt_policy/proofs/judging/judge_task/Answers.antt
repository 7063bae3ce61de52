use Rattle.std.proofs.Common.{nat_eq}
use Rattle.vt_spec.proofs.Common.{judge, judging}
use Rattle.vt_request.specs.Requests.{task_call_of}
use Rattle.vt_tasks.specs.TaskValue.{task_of}
use Rattle.vt_policy.proofs.Receivers.{alike_by_receivers, by_receivers}
use Rattle.vt_policy.proofs.judging.judge_task.Goals as goal

pub returns-in-Fork-clause-judged : goal.returns-in-Fork-clause-judged
unfolding judging
returns-in-Fork-clause-judged g c =
    by_receivers (task_call_of c.args.call) (task_of c.args.who.now)
    (judge nat_eq (g.L.Look.looks c.args.world.now) (g.L.LookAtMounts.overfills c.args.world.now)
    (task_of c.args.who.now) (task_call_of c.args.call)) c.fork.result (rw c.in-Fork.is (c.fork.ensures (g.L.Look.looks c.args.world.now)))

pub returns-in-Unshare-clause-judged : goal.returns-in-Unshare-clause-judged
unfolding judging
returns-in-Unshare-clause-judged g c =
    alike_by_receivers (task_call_of c.args.call) (task_of c.args.who.now)
    (judge nat_eq (g.L.Look.looks c.args.world.now) (g.L.LookAtMounts.overfills c.args.world.now)
    (task_of c.args.who.now) (task_call_of c.args.call)) c.unshare.result (rw c.in-Unshare.is (c.unshare.ensures (g.L.Look.looks c.args.world.now)))

pub returns-in-Unshare-clause-memory : goal.returns-in-Unshare-clause-memory
unfolding judging
returns-in-Unshare-clause-memory g c = λ free. rw c.in-Unshare.is (c.unshare.ensures (g.L.Look.looks c.args.world.now))
