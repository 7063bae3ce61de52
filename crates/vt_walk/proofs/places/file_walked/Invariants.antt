use Rattle.std.proofs.Common.{◌≡◌, ◌-◌, false, option_copied}
use Rattle.vt_spec.proofs.Common.{walk_start}
use Rattle.vt_tasks.specs.TaskValue.{task_of}
use Rattle.vt_walk.specs.PlainWalks.{file_walked}
use Rattle.vt_walk.specs.WalkValue.{IsLent, here_of}
use Rattle.vt_walk.proofs.places.file_walked.Given as goal

abbrev pub invariant-loop-link : goal.invariant-loop-link
invariant-loop-link g l =
    (file_walked (g.L.Look.looks l.world) (task_of l.who) (41 - l._link) (here_of l.start) l.text l.slash
    ≡ file_walked (g.L.Look.looks l.world) (task_of l.who) 41 (walk_start (task_of l.who) l.path) l.path false)
    × IsLent (g.L.Look.real l.world) l.start.location (option_copied l.start.lent)
