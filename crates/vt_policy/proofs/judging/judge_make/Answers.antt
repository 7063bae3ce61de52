use Rattle.std.proofs.Common.{nat_eq}
use Rattle.vt_spec.proofs.Common.{judge, judging}
use Rattle.vt_request.specs.Requests.{make_call_of}
use Rattle.vt_tasks.specs.TaskValue.{task_of}
use Rattle.vt_policy.proofs.Receivers.{by_receivers}
use Rattle.vt_policy.proofs.judging.judge_make.Goals as goal

pub returns-in-Mkdir-clause-judged : goal.returns-in-Mkdir-clause-judged
unfolding judging
returns-in-Mkdir-clause-judged g c =
    by_receivers (make_call_of c.args.call.now) (task_of c.args.who.now)
    (judge nat_eq (g.L.Look.looks c.args.world.now) (g.L.LookAtMounts.overfills c.args.world.now)
    (task_of c.args.who.now) (make_call_of c.args.call.now)) c.mkdir.result (rw c.in-Mkdir.is c.mkdir.ensures)

pub returns-in-Symlink-clause-judged : goal.returns-in-Symlink-clause-judged
unfolding judging
returns-in-Symlink-clause-judged g c =
    by_receivers (make_call_of c.args.call.now) (task_of c.args.who.now)
    (judge nat_eq (g.L.Look.looks c.args.world.now) (g.L.LookAtMounts.overfills c.args.world.now)
    (task_of c.args.who.now) (make_call_of c.args.call.now)) c.symlink.result (rw c.in-Symlink.is c.symlink.ensures)

pub returns-in-Whiteout-clause-judged : goal.returns-in-Whiteout-clause-judged
unfolding judging
returns-in-Whiteout-clause-judged g c =
    by_receivers (make_call_of c.args.call.now) (task_of c.args.who.now)
    (judge nat_eq (g.L.Look.looks c.args.world.now) (g.L.LookAtMounts.overfills c.args.world.now)
    (task_of c.args.who.now) (make_call_of c.args.call.now)) c.whiteout.result (rw c.in-Whiteout.is c.whiteout.ensures)

pub returns-in-Link-clause-judged : goal.returns-in-Link-clause-judged
unfolding judging
returns-in-Link-clause-judged g c =
    by_receivers (make_call_of c.args.call.now) (task_of c.args.who.now)
    (judge nat_eq (g.L.Look.looks c.args.world.now) (g.L.LookAtMounts.overfills c.args.world.now)
    (task_of c.args.who.now) (make_call_of c.args.call.now)) c.link.result (rw c.in-Link.is c.link.ensures)
