use Rattle.std.proofs.Common.{nat_eq}
use Rattle.vt_spec.proofs.Common.{judge, judging}
use Rattle.vt_request.specs.Requests.{mount_call_of}
use Rattle.vt_tasks.specs.TaskValue.{task_of}
use Rattle.vt_policy.proofs.Receivers.{alike_by_receivers}
use Rattle.vt_policy.proofs.judging.judge_mount.Goals as goal

pub returns-in-Remount-clause-judged : goal.returns-in-Remount-clause-judged
unfolding judging
returns-in-Remount-clause-judged g c =
    alike_by_receivers (mount_call_of c.args.call) (task_of c.args.who.now)
    (judge nat_eq (g.L.Look.looks c.args.world.now) (g.L.LookAtMounts.overfills c.args.world.now)
    (task_of c.args.who.now) (mount_call_of c.args.call)) c.remount.result (rw c.in-Remount.is c.remount.ensures)

pub returns-in-Remount-clause-memory : goal.returns-in-Remount-clause-memory
unfolding judging
returns-in-Remount-clause-memory g c = λ free. rw c.in-Remount.is c.remount.ensures

pub returns-in-SetType-clause-judged : goal.returns-in-SetType-clause-judged
unfolding judging
returns-in-SetType-clause-judged g c =
    alike_by_receivers (mount_call_of c.args.call) (task_of c.args.who.now)
    (judge nat_eq (g.L.Look.looks c.args.world.now) (g.L.LookAtMounts.overfills c.args.world.now)
    (task_of c.args.who.now) (mount_call_of c.args.call)) c.set_type.result (rw c.in-SetType.is c.set_type.ensures)

pub returns-in-SetType-clause-memory : goal.returns-in-SetType-clause-memory
unfolding judging
returns-in-SetType-clause-memory g c = λ free. rw c.in-SetType.is c.set_type.ensures

pub returns-in-Pivot-clause-judged : goal.returns-in-Pivot-clause-judged
unfolding judging
returns-in-Pivot-clause-judged g c =
    alike_by_receivers (mount_call_of c.args.call) (task_of c.args.who.now)
    (judge nat_eq (g.L.Look.looks c.args.world.now) (g.L.LookAtMounts.overfills c.args.world.now)
    (task_of c.args.who.now) (mount_call_of c.args.call)) c.pivot_root.result (rw c.in-Pivot.is c.pivot_root.ensures)

pub returns-in-Pivot-clause-memory : goal.returns-in-Pivot-clause-memory
unfolding judging
returns-in-Pivot-clause-memory g c = λ free. rw c.in-Pivot.is c.pivot_root.ensures
