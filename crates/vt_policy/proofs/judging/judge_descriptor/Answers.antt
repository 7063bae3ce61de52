use Rattle.std.proofs.Common.{nat_eq}
use Rattle.vt_spec.proofs.Common.{judge, judging}
use Rattle.vt_request.specs.Requests.{descriptor_call_of}
use Rattle.vt_tasks.specs.TaskValue.{task_of}
use Rattle.vt_rules.proofs.Judged.{answers}
use Rattle.vt_policy.specs.Judged.{judge_by_looks}
use Rattle.vt_policy.proofs.Receivers.{alike_by_receivers, by_receivers, descriptors_by_looks}
use Rattle.vt_policy.proofs.judging.judge_descriptor.Goals as goal

pub returns-in-Open-clause-judged : goal.returns-in-Open-clause-judged
returns-in-Open-clause-judged g c =
    let looks = g.L.Look.looks c.args.world.now in
    let overfills = g.L.LookAtMounts.overfills c.args.world.now in
    let task = task_of c.args.who.now in
    by_receivers (descriptor_call_of c.args.call.now) task
    (judge nat_eq looks overfills task (descriptor_call_of c.args.call.now)) c.open.result
    (answers task (judge nat_eq looks overfills task (descriptor_call_of c.args.call.now))
    (judge_by_looks looks task (descriptor_call_of c.args.call.now)) c.open.result
    (descriptors_by_looks looks overfills task c.args.call.now) (rw c.in-Open.is c.open.ensures))

pub returns-in-Close-clause-judged : goal.returns-in-Close-clause-judged
unfolding judging
returns-in-Close-clause-judged g c =
    alike_by_receivers (descriptor_call_of c.args.call.now) (task_of c.args.who.now)
    (judge nat_eq (g.L.Look.looks c.args.world.now) (g.L.LookAtMounts.overfills c.args.world.now)
    (task_of c.args.who.now) (descriptor_call_of c.args.call.now)) c.close.result (rw c.in-Close.is (c.close.ensures (g.L.Look.looks c.args.world.now)))

pub returns-in-Close-clause-memory : goal.returns-in-Close-clause-memory
unfolding judging
returns-in-Close-clause-memory g c = λ free. rw c.in-Close.is (c.close.ensures (g.L.Look.looks c.args.world.now))
