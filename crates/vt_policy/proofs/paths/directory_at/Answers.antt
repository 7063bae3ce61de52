use Rattle.std.proofs.Common.{ap, nat_eq, ◌∙◌}
use Rattle.vt_spec.proofs.Common.{directory_walk, walk_end}
use Rattle.vt_tasks.specs.TaskValue.{task_of}
use Rattle.vt_walk.specs.WalkValue.{location_end}
use Rattle.vt_policy.proofs.WalkEnds.{ends_at, refused_by}
use Rattle.vt_policy.proofs.paths.directory_at.Goals as goal

pub returns-clause-ok : goal.returns-clause-ok
returns-clause-ok g c = ends_at c.directory_walk.result
    (walk_end (directory_walk nat_eq (g.L.Look.looks c.args.world.now) (task_of c.args.who.now) c.args.path.now))
    (c.directory_walk.ensures.value ∙ ap (λ text. location_end (walk_end
    (directory_walk nat_eq (g.L.Look.looks c.args.world.now)
    (task_of c.args.who.now) text))) c.in_ok-parse.ensures.text)

pub returns-clause-err : goal.returns-clause-err
returns-clause-err g c = refused_by c.directory_walk.result
    (walk_end (directory_walk nat_eq (g.L.Look.looks c.args.world.now) (task_of c.args.who.now) c.args.path.now))
    (c.directory_walk.ensures.value ∙ ap (λ text. location_end (walk_end
    (directory_walk nat_eq (g.L.Look.looks c.args.world.now)
    (task_of c.args.who.now) text))) c.in_ok-parse.ensures.text)
