use Rattle.std.proofs.Common.{None, Some, ap, sym, ◌≡◌, ◌∙◌}
use Rattle.vt_spec.proofs.Common.{task_called}
use Rattle.vt_tasks.specs.TaskValue.{task_of}
use Rattle.vt_world.specs.WorldValue.{WorldValue, world_of}
use Rattle.vt_turns_dated.proofs.Walking.{none_numbers, numbers_told}
use Rattle.vt_turns_dated.proofs.kernel.TurnKernelTakesTurns.numbers_of.Goals as goal

pub returns-in_err-who : goal.returns-in_err-who
returns-in_err-who c =
    let value = c.args.self.now.dated in
    let name = c.args.name.now in
    let none : task_called (world_of value.kernel.world) name ≡ None =
    sym (c.in_err-who.ensures.found ∙ ap (λ (w : WorldValue). task_called (world_of w) name) c.world.ensures) in
    c.from_residual.ensures ∙ sym (none_numbers value name none)

pub returns : goal.returns
returns c =
    let value = c.args.self.now.dated in
    let name = c.args.name.now in
    let called : task_called (world_of value.kernel.world) name ≡ Some (task_of c.in_ok-who.who.now) =
    sym (c.in_ok-who.ensures.found ∙ ap (λ (w : WorldValue). task_called (world_of w) name) c.world.ensures) in
    numbers_told value name (task_of c.in_ok-who.who.now) called c.in_ok-task.task
    c.change_of_namespace-namespace.result c.in_ok-task.ensures c.change_of_namespace-namespace.ensures
