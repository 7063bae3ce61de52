use Rattle.std.proofs.Common.{◌≡◌, ◌+◌, ◌*◌, ◌≤◌, ◌∷◌, Some, length, option_copied, reverse}
use Rattle.vt_walk.specs.PlainWalks.{followed}
use Rattle.vt_tasks.specs.TaskValue.{task_of}
use Rattle.vt_walk.specs.PendingTexts.{link_passed, texts_walked}
use Rattle.vt_walk.specs.WalkValue.{IsLent, here_of}
use Rattle.vt_walk.proofs.steps.symlink_walked.Given as goal

abbrev pub decreases-texts : goal.decreases-texts
decreases-texts g l = 2 * l.here.left + length l.pending.items

abbrev pub invariant-texts : goal.invariant-texts
invariant-texts g l =
    (texts_walked (g.L.Look.looks l.world) (task_of l.who) (here_of l.here) (l.top ∷ reverse l.pending.items)
    ≡ link_passed (g.L.Look.looks l.world) (task_of l.who) (followed (g.L.Look.looks l.world) (task_of l.who))
    (here_of l.fn.met) (Some l.fn.link)) × (l.here.left + length l.pending.items ≤ 40)
    × IsLent (g.L.Look.real l.world) l.here.location (option_copied l.here.lent)
