use Rattle.std.proofs.Common.{None, Some, ap, subst, sym, ◌≡◌, ◌∙◌}
use Rattle.vt_spec.proofs.Common.{task_called}
use Rattle.vt_request.specs.Requests.{call_of}
use Rattle.vt_tasks.specs.TaskValue.{task_of}
use Rattle.vt_world.specs.Held.{IsHeld}
use Rattle.vt_world.specs.WorldValue.{WorldValue, world_of}
use Rattle.vt_turns_dated.proofs.Walking.{begins_same, none_begins}
use Rattle.vt_turns_dated.proofs.kernel.TurnKernelTakesTurns.may_begin.Goals as goal

pub returns-in-Some : goal.returns-in-Some
returns-in-Some c =
    let value = c.args.self.now.dated in
    let name = c.args.name.now in
    let called : task_called (world_of value.kernel.world) name ≡ Some (task_of c.in-Some.who.now) =
    sym (c.in-Some.ensures.found ∙ ap (λ (w : WorldValue). task_called (world_of w) name) c.world.ensures) in
    c.is_ok.ensures.value ∙ begins_same value name (task_of c.in-Some.who.now) called
    (subst IsHeld c.world.ensures c.in-Some.ensures.held) (call_of c.args.call.now) c.may_begin.result
    c.may_begin.ensures

pub returns-in-None : goal.returns-in-None
returns-in-None c =
    let value = c.args.self.now.dated in
    let name = c.args.name.now in
    let none : task_called (world_of value.kernel.world) name ≡ None =
    sym (c.in-None.ensures.found ∙ ap (λ (w : WorldValue). task_called (world_of w) name) c.world.ensures) in
    sym (none_begins value name none (call_of c.args.call.now))
