use Rattle.std.proofs.Common.{◌≡◌, ◌++◌, map, nat_eq}
use Rattle.vt_spec.specs.Machine.Rules.Mounting.{source_walk}
use Rattle.vt_spec.specs.Machine.Turns.{here_route}
use Rattle.vt_tasks.specs.TaskValue.{task_of}
use Rattle.vt_steps.specs.RouteValue.{route_of}
use Rattle.vt_steps.proofs.paths.then_layers.Given as goal

abbrev pub invariant-loop-lower : goal.invariant-loop-lower
invariant-loop-lower g l =
    let looks = g.L.Look.looks l.walker.world.now in
    let task = task_of l.walker.who.now in
    map route_of l.all.items ++ map (λ path. here_route (source_walk nat_eq looks task path)) l.lowers
    ≡ map route_of l.fn.first.items ++ map (λ path. here_route (source_walk nat_eq looks task path)) l.options.lowers
