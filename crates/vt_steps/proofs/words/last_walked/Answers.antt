use Rattle.vt_tasks.specs.TaskValue.{task_of}
use Rattle.vt_steps.specs.StepsValue.{here_of}
use Rattle.vt_steps.proofs.Endings.{ends-alike}
use Rattle.vt_steps.proofs.WordsWalked.{last-some}
use Rattle.vt_steps.proofs.words.last_walked.Goals as goal

pub returns-in_default : goal.returns-in_default
returns-in_default g c =
    let looks = g.L.Look.looks c.args.walker.now.world.now in
    let task = task_of c.args.walker.now.who.now in
    ends-alike here_of _ _ c.word_walked.result
    (last-some looks task (here_of c.args.here) c.args.last c.in_default.not-NoWord) c.word_walked.ensures
