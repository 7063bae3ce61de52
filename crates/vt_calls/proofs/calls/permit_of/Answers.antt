use Rattle.std.proofs.Common.{sym}
use Rattle.vt_request.specs.Requests.{call_of}
use Rattle.vt_tasks.specs.TaskValue.{task_of}
use Rattle.vt_calls.proofs.Endings.{nobody}
use Rattle.vt_calls.proofs.Judging.{denied, permitted}
use Rattle.vt_calls.proofs.calls.permit_of.Goals as goal

pub returns-in_default-clause-err : goal.returns-in_default-clause-err
returns-in_default-clause-err c =
    let called = rw c.in_default.is at c.task.ensures.found in
    rw c.denial.ensures (nobody c.args.world.now c.args.name.now (call_of c.args.call) c.task.ensures.held (sym called))

pub returns-clause-ok : goal.returns-clause-ok
returns-clause-ok c =
    let called = rw c.in-Some.is at c.task.ensures.found in
    permitted c.args.world.now c.args.name.now c.args.call c.task.ensures.held (task_of c.in-Some.task.now)
    (sym called) c.args.change c.judge.result c.judge.ensures.judged c.judge.ensures.named c.judge.ensures.change

pub returns-clause-err : goal.returns-clause-err
returns-clause-err c =
    let called = rw c.in-Some.is at c.task.ensures.found in
    denied c.args.world.now c.args.name.now c.args.call c.task.ensures.held (task_of c.in-Some.task.now) (sym called)
    c.judge.result c.judge.ensures.judged c.judge.ensures.memory
