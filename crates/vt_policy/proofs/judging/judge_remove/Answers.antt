use Rattle.std.proofs.Common.{nat_eq}
use Rattle.vt_spec.proofs.Common.{judge, judging}
use Rattle.vt_request.specs.Requests.{remove_call_of}
use Rattle.vt_tasks.specs.TaskValue.{task_of}
use Rattle.vt_policy.proofs.Receivers.{by_receivers}
use Rattle.vt_policy.proofs.judging.judge_remove.Goals as goal

pub returns-in-Unlink-clause-judged : goal.returns-in-Unlink-clause-judged
unfolding judging
returns-in-Unlink-clause-judged g c =
    by_receivers (remove_call_of c.args.call) (task_of c.args.who.now)
    (judge nat_eq (g.L.Look.looks c.args.world.now) (g.L.LookAtMounts.overfills c.args.world.now)
    (task_of c.args.who.now) (remove_call_of c.args.call)) c.unlink.result (rw c.in-Unlink.is c.unlink.ensures)

pub returns-in-Rmdir-clause-judged : goal.returns-in-Rmdir-clause-judged
unfolding judging
returns-in-Rmdir-clause-judged g c =
    by_receivers (remove_call_of c.args.call) (task_of c.args.who.now)
    (judge nat_eq (g.L.Look.looks c.args.world.now) (g.L.LookAtMounts.overfills c.args.world.now)
    (task_of c.args.who.now) (remove_call_of c.args.call)) c.rmdir.result (rw c.in-Rmdir.is c.rmdir.ensures)

pub returns-in-Rename-clause-judged : goal.returns-in-Rename-clause-judged
unfolding judging
returns-in-Rename-clause-judged g c =
    by_receivers (remove_call_of c.args.call) (task_of c.args.who.now)
    (judge nat_eq (g.L.Look.looks c.args.world.now) (g.L.LookAtMounts.overfills c.args.world.now)
    (task_of c.args.who.now) (remove_call_of c.args.call)) c.rename.result (rw c.in-Rename.is c.rename.ensures)
