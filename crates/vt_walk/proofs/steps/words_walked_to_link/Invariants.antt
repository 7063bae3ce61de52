use Rattle.std.proofs.Common.{◌≡◌, option_copied}
use Rattle.vt_location.specs.Locations.{location_of}
use Rattle.vt_looks.specs.Looking.{IsGround}
use Rattle.vt_tasks.specs.TaskValue.{task_of}
use Rattle.vt_walk.specs.PlainWalks.{Follow, standing}
use Rattle.vt_walk.specs.WalkValue.{IsFound, IsNodeAt, here_of}
use Rattle.vt_walk.proofs.LeftToRight.{walked_on}
use Rattle.vt_walk.proofs.steps.words_walked_to_link.Given as goal

abbrev pub invariant-loop-word : goal.invariant-loop-word
invariant-loop-word g l = ((follow : Follow) → walked_on (g.L.Look.looks l.world) (task_of l.who) follow
    (standing (location_of l.location) l.left) l.words
    ≡ walked_on (g.L.Look.looks l.world) (task_of l.who) follow (here_of l.fn.start) l.fn.words)
    × IsGround (g.L.Look.looks l.world) l.location.mount l.ground
    × IsNodeAt (g.L.Look.real l.world) l.location (option_copied l.node)
    × IsFound (g.L.Look.looks l.world) l.location l.is_found
