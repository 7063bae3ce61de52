use Rattle.std.proofs.Common.{◌≡◌, nat_eq}
use Rattle.vt_spec.specs.Machine.Walking.{symlink_walked}
use Rattle.vt_tasks.specs.TaskValue.{task_of}
use Rattle.vt_steps.specs.StepsValue.{here_of}
use Rattle.vt_steps.proofs.LeftToRight.{walked_on}
use Rattle.vt_steps.proofs.words.+words_walked.Given as goal

abbrev pub decreases-words_walked : goal.decreases-words_walked
decreases-words_walked g l = l.depth

abbrev pub invariant-loop-word : goal.invariant-loop-word
invariant-loop-word g l =
    let looks = g.L.Look.looks l.walker.world.now in
    let task = task_of l.walker.who.now in
    walked_on looks task (symlink_walked nat_eq l.depth looks task) (here_of l.here) l.words
    ≡ walked_on looks task (symlink_walked nat_eq l.depth looks task) (here_of l.fn.start) l.fn.words
