use Rattle.std.proofs.Common.{ap, sym, ◌∙◌, ◌∷◌}
use Rattle.vt_looks.specs.Places.{last_of}
use Rattle.vt_tasks.specs.TaskValue.{task_of}
use Rattle.vt_walk.specs.WalkValue.{named_result}
use Rattle.vt_steps.specs.StepsValue.{here_of, place_of, steps_of}
use Rattle.vt_steps.proofs.Endings.{ends-refused}
use Rattle.vt_steps.proofs.FilesWalked.{place-refused}
use Rattle.vt_steps.proofs.places.placed.Goals as goal

pub returns-in-Err : goal.returns-in-Err
returns-in-Err g c =
    let looks = g.L.Look.looks c.args.walker.now.world.now in
    let task = task_of c.args.walker.now.who.now in
    ends-refused place_of _ c.in-Err.deny c.in_ok-steps.steps c.refused.result c.refused.ensures
    (place-refused looks task (here_of c.args.here)
    (steps_of c.in_ok-steps.steps) c.args.slash c.in-Err.deny (last_of c.args.last)
    (sym c.is_no_word.ensures ∙ c.if-is_no_word.false)
    (c.in_ok-steps.ensures ∙ ap (λ met. met ∷ steps_of c.args.here.steps) c.in_ok-step.ensures.met)
    (sym (ap named_result c.in-Err.is) ∙ c.in_ok-step.ensures.object))
