use Rattle.std.proofs.Common.{◌≡◌, ◌++◌, ◌-◌, map, nat_eq}
use Rattle.vt_spec.specs.Lists.{chain, last_or}
use Rattle.vt_spec.specs.Machine.Walking.{hop, hops}
use Rattle.vt_location.specs.Locations.{location_of}
use Rattle.vt_tasks.specs.TaskValue.{task_of}
use Rattle.vt_steps.proofs.meeting.hopped.Given as goal

abbrev pub invariant-loop-hop : goal.invariant-loop-hop
invariant-loop-hop g l =
    (map location_of l.passed.items ++ chain ((g.L.Look.looks l.world).mount_count - l._hop)
    (hop nat_eq (g.L.Look.looks l.world) (task_of l.who)) (location_of l.here)
    ≡ map location_of l.fn.passed.items
    ++ hops nat_eq (g.L.Look.looks l.world) (task_of l.who) (location_of l.fn.start))
    × (last_or (location_of l.here) (chain ((g.L.Look.looks l.world).mount_count - l._hop)
    (hop nat_eq (g.L.Look.looks l.world) (task_of l.who)) (location_of l.here))
    ≡ last_or (location_of l.fn.start) (hops nat_eq (g.L.Look.looks l.world) (task_of l.who) (location_of l.fn.start)))
