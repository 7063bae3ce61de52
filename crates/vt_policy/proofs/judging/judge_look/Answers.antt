use Rattle.std.proofs.Common.{nat_eq}
use Rattle.vt_spec.proofs.Common.{judge, judging}
use Rattle.vt_request.specs.Requests.{look_call_of}
use Rattle.vt_tasks.specs.TaskValue.{task_of}
use Rattle.vt_policy.proofs.Receivers.{alike_by_receivers}
use Rattle.vt_policy.proofs.judging.judge_look.Goals as goal

pub returns-in-Pread-clause-judged : goal.returns-in-Pread-clause-judged
unfolding judging
returns-in-Pread-clause-judged g c =
    alike_by_receivers (look_call_of c.args.call) (task_of c.args.who.now)
    (judge nat_eq (g.L.Look.looks c.args.world.now) (g.L.LookAtMounts.overfills c.args.world.now)
    (task_of c.args.who.now) (look_call_of c.args.call)) c.pread.result (rw c.in-Pread.is (c.pread.ensures (g.L.Look.looks c.args.world.now)))

pub returns-in-Pread-clause-memory : goal.returns-in-Pread-clause-memory
unfolding judging
returns-in-Pread-clause-memory g c = λ free. rw c.in-Pread.is (c.pread.ensures (g.L.Look.looks c.args.world.now))
