use Rattle.std.proofs.Common.{arith, nat_eq, sym, ◌∙◌}
use Rattle.vt_spec.specs.Machine.Walking.{hop}
use Rattle.vt_location.specs.Locations.{location_of}
use Rattle.vt_tasks.specs.TaskValue.{task_of}
use Rattle.vt_walk.proofs.Chains.{chain-further}
use Rattle.vt_walk.proofs.upward.hopped.Goals as goal

pub loop-hop-preserved : goal.loop-hop-preserved
loop-hop-preserved g c =
    let looks = g.L.Look.looks c.args.world.now in
    chain-further (hop nat_eq looks (task_of c.args.who.now)) looks.mount_count c.loop-hop._hop
    (location_of c.loop-hop.here) (location_of c.in-Some.point)
    (omega (arith, c.mount_count-hop-end.ensures)) (sym c.in-Some.ensures) ∙ c.loop-hop.invariant
