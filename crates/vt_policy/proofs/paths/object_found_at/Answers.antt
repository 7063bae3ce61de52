use Rattle.std.proofs.Common.{ap, nat_eq, ◌∙◌}
use Rattle.vt_spec.proofs.Common.{object_walk, walk_end}
use Rattle.vt_tasks.specs.TaskValue.{task_of}
use Rattle.vt_walk.specs.WalkValue.{location_end}
use Rattle.vt_policy.proofs.WalkEnds.{found_ends_at, found_refused_by}
use Rattle.vt_policy.proofs.paths.object_found_at.Goals as goal

pub returns-clause-ok : goal.returns-clause-ok
returns-clause-ok g c = found_ends_at c.object_found_walk.result (walk_end
    (object_walk nat_eq (g.L.Look.looks c.args.world.now) (task_of c.args.who.now) c.args.path.now))
    (c.object_found_walk.ensures.value ∙ ap (λ text.
    location_end (walk_end (object_walk nat_eq (g.L.Look.looks c.args.world.now)
    (task_of c.args.who.now) text))) c.in_ok-parse.ensures.text)

pub returns-clause-err : goal.returns-clause-err
returns-clause-err g c = found_refused_by c.object_found_walk.result
    (walk_end (object_walk nat_eq (g.L.Look.looks c.args.world.now) (task_of c.args.who.now) c.args.path.now))
    (c.object_found_walk.ensures.value ∙ ap (λ text.
    location_end (walk_end (object_walk nat_eq (g.L.Look.looks c.args.world.now)
    (task_of c.args.who.now) text))) c.in_ok-parse.ensures.text)
