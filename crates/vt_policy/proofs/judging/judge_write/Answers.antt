use Rattle.std.proofs.Common.{nat_eq}
use Rattle.vt_spec.proofs.Common.{judge, judging}
use Rattle.vt_request.specs.Requests.{write_call_of}
use Rattle.vt_tasks.specs.TaskValue.{task_of}
use Rattle.vt_policy.proofs.Receivers.{by_receivers}
use Rattle.vt_policy.proofs.judging.judge_write.Goals as goal

pub returns-in-Write-clause-judged : goal.returns-in-Write-clause-judged
unfolding judging
returns-in-Write-clause-judged g c =
    by_receivers (write_call_of c.args.call) (task_of c.args.who.now)
    (judge nat_eq (g.L.Look.looks c.args.world.now) (g.L.LookAtMounts.overfills c.args.world.now)
    (task_of c.args.who.now) (write_call_of c.args.call)) c.write.result (rw c.in-Write.is c.write.ensures)
