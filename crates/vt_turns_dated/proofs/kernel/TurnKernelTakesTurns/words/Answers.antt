use Rattle.std.proofs.Common.{Err, IfOk, None, Ok, Result, Some, ap, map, nat_eq, slice_get, subst, sym, ◌≡◌, ◌∙◌}
use Rattle.vt_spec.proofs.Common.{looks_of, routes, task_called}
use Rattle.vt_request.specs.Requests.{call_of}
use Rattle.vt_tasks.specs.TaskValue.{task_of}
use Rattle.vt_world.specs.Held.{IsHeld}
use Rattle.vt_world.specs.WorldValue.{WorldValue, world_of}
use Rattle.vt_steps.specs.RouteValue.{met_next, words_in}
use Rattle.vt_turns.specs.ProgressValue.{met_meant}
use Rattle.vt_turns_dated.proofs.Walking.{met_same, none_met}
use Rattle.vt_turns_dated.proofs.kernel.TurnKernelTakesTurns.words.Goals as goal

so_too : {A E : Type 0} {P Q : A → Type 0} (result : Result A E) → ((a : A) → P a → Q a) → IfOk result P → IfOk result Q
so_too (Ok a) next is = next a is
so_too (Err e) next is = tt

pub returns-in-Some : goal.returns-in-Some
returns-in-Some c =
    let value = c.args.self.now.dated in
    let name = c.args.name.now in
    let call = call_of c.args.call.now in
    let task = task_of c.in-Some.who.now in
    let called : task_called (world_of value.kernel.world) name ≡ Some task =
    sym (c.in-Some.ensures.found ∙ ap (λ (w : WorldValue). task_called (world_of w) name) c.world-world.ensures) in
    so_too c.call_words.result
    (λ words told walked. met_same value name task called (subst IsHeld c.world-world.ensures c.in-Some.ensures.held) call
    walked (slice_get (words_in words) walked) (told walked ∙ ap (λ (w : WorldValue).
    met_next (routes nat_eq (looks_of nat_eq (world_of w)) task call) walked) c.world-world.ensures))
    c.call_words.ensures

pub returns-in-None : goal.returns-in-None
returns-in-None c =
    let value = c.args.self.now.dated in
    let name = c.args.name.now in
    let none : task_called (world_of value.kernel.world) name ≡ None =
    sym (c.in-None.ensures.found ∙ ap (λ (w : WorldValue). task_called (world_of w) name) c.world-world.ensures) in
    λ walked. ap (λ items. slice_get (map met_meant items) walked) c.new.ensures.items
    ∙ sym (none_met value name none (call_of c.args.call.now) walked)
