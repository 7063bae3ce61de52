use Rattle.std.proofs.Common.{◌≡◌, ◌-◌, nat_eq}
use Rattle.vt_spec.proofs.Common.{chain, hops, last_or}
use Rattle.vt_spec.specs.Machine.Walking.{hop}
use Rattle.vt_location.specs.Locations.{location_of}
use Rattle.vt_tasks.specs.TaskValue.{task_of}
use Rattle.vt_walk.proofs.upward.hopped.Given as goal

abbrev pub invariant-loop-hop : goal.invariant-loop-hop
invariant-loop-hop g l = last_or (location_of l.here) (chain ((g.L.Look.looks l.world).mount_count - l._hop)
    (hop nat_eq (g.L.Look.looks l.world) (task_of l.who)) (location_of l.here))
    ≡ last_or (location_of l.fn.start) (hops nat_eq (g.L.Look.looks l.world) (task_of l.who) (location_of l.fn.start))
