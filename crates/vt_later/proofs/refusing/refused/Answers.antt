use Rattle.std.proofs.Common.{nat_eq, ◌∙◌}
use Rattle.vt_spec.proofs.Common.{judging}
use Rattle.vt_request.specs.Requests.{descriptor_call_of, look_call_of, make_call_of, remove_call_of, task_call_of, write_call_of}
use Rattle.vt_tasks.specs.TaskValue.{task_of}
use Rattle.vt_later.specs.Past.{refusal_past}
use Rattle.vt_later.proofs.Calls.{descriptors_alone, looks_alone, makes_alone, removes_alone, tasks_alone, writes_alone}
use Rattle.vt_later.proofs.Judged.{exactly}
use Rattle.vt_later.proofs.refusing.refused.Goals as goal

pub returns-in-Look : goal.returns-in-Look
returns-in-Look g c asked =
    let looks = g.L.Look.looks c.args.world.now in
    let overfills = g.L.LookAtMounts.overfills c.args.world.now in
    let passed = c.args.passed.now in
    let task = task_of c.args.who.now in
    rw c.in-Look.is (exactly (refusal_past looks task passed overfills (judging nat_eq looks task (look_call_of c.in-Look.call)))
    c.look_refused.result (c.look_refused.ensures ∙ looks_alone looks task passed overfills c.in-Look.call))

pub returns-in-Make : goal.returns-in-Make
returns-in-Make g c asked =
    let looks = g.L.Look.looks c.args.world.now in
    let overfills = g.L.LookAtMounts.overfills c.args.world.now in
    let passed = c.args.passed.now in
    let task = task_of c.args.who.now in
    rw c.in-Make.is (exactly (refusal_past looks task passed overfills (judging nat_eq looks task (make_call_of c.in-Make.call)))
    c.make_refused.result (c.make_refused.ensures asked ∙ makes_alone looks task passed overfills c.in-Make.call))

pub returns-in-Remove : goal.returns-in-Remove
returns-in-Remove g c asked =
    let looks = g.L.Look.looks c.args.world.now in
    let overfills = g.L.LookAtMounts.overfills c.args.world.now in
    let passed = c.args.passed.now in
    let task = task_of c.args.who.now in
    rw c.in-Remove.is (exactly (refusal_past looks task passed overfills (judging nat_eq looks task (remove_call_of c.in-Remove.call)))
    c.remove_refused.result (c.remove_refused.ensures asked ∙ removes_alone looks task passed overfills c.in-Remove.call))

pub returns-in-Write : goal.returns-in-Write
returns-in-Write g c asked =
    let looks = g.L.Look.looks c.args.world.now in
    let overfills = g.L.LookAtMounts.overfills c.args.world.now in
    let passed = c.args.passed.now in
    let task = task_of c.args.who.now in
    rw c.in-Write.is (exactly (refusal_past looks task passed overfills (judging nat_eq looks task (write_call_of c.in-Write.call)))
    c.write_refused.result (c.write_refused.ensures asked ∙ writes_alone looks task passed overfills c.in-Write.call))

pub returns-in-Descriptor : goal.returns-in-Descriptor
returns-in-Descriptor g c asked =
    let looks = g.L.Look.looks c.args.world.now in
    let overfills = g.L.LookAtMounts.overfills c.args.world.now in
    let passed = c.args.passed.now in
    let task = task_of c.args.who.now in
    rw c.in-Descriptor.is (exactly (refusal_past looks task passed overfills (judging nat_eq looks task (descriptor_call_of c.in-Descriptor.call)))
    c.descriptor_refused.result (c.descriptor_refused.ensures asked ∙ descriptors_alone looks task passed overfills c.in-Descriptor.call))

pub returns-in-Task : goal.returns-in-Task
returns-in-Task g c asked =
    let looks = g.L.Look.looks c.args.world.now in
    let overfills = g.L.LookAtMounts.overfills c.args.world.now in
    let passed = c.args.passed.now in
    let task = task_of c.args.who.now in
    rw c.in-Task.is (exactly (refusal_past looks task passed overfills (judging nat_eq looks task (task_call_of c.in-Task.call)))
    c.task_refused.result (c.task_refused.ensures ∙ tasks_alone looks task passed overfills c.in-Task.call))

pub returns-in-Mount : goal.returns-in-Mount
returns-in-Mount g c asked = rw c.in-Mount.is (c.mount_refused.ensures)
