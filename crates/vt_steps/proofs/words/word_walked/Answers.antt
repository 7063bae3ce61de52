use Rattle.std.proofs.Common.{ap, sym, ◌∙◌, ◌∷◌}
use Rattle.vt_looks.specs.Places.{last_of}
use Rattle.vt_tasks.specs.TaskValue.{task_of}
use Rattle.vt_walk.specs.WalkValue.{location_result}
use Rattle.vt_steps.specs.StepsValue.{here_of, steps_of}
use Rattle.vt_steps.proofs.Endings.{ends-refused}
use Rattle.vt_steps.proofs.WordsWalked.{word-refused}
use Rattle.vt_steps.proofs.words.word_walked.Goals as goal

pub returns-in-Err : goal.returns-in-Err
returns-in-Err g c =
    let looks = g.L.Look.looks c.args.walker.now.world.now in
    let task = task_of c.args.walker.now.who.now in
    ends-refused here_of _ c.in-Err.deny c.in_ok-steps.steps c.refused.result c.refused.ensures
    (word-refused looks task (here_of c.args.here)
    (last_of c.args.word) (steps_of c.in_ok-steps.steps)
    (c.in_ok-steps.ensures ∙ ap (λ met. met ∷ steps_of c.args.here.steps) c.in_ok-step.ensures.met) c.in-Err.deny
    (sym (ap location_result c.in-Err.is) ∙ c.in_ok-step.ensures.reached))
