use Rattle.std.proofs.Common.{ap, nat_eq, ◌∙◌}
use Rattle.vt_spec.proofs.Common.{new_leaf_walk, walk_end}
use Rattle.vt_tasks.specs.TaskValue.{task_of}
use Rattle.vt_walk.specs.WalkValue.{place_end}
use Rattle.vt_policy.proofs.WalkEnds.{ends_at_place, refused_place}
use Rattle.vt_policy.proofs.paths.new_leaf_place.Goals as goal

pub returns-clause-ok : goal.returns-clause-ok
returns-clause-ok g c = ends_at_place c.new_leaf_walk.result
    (walk_end (new_leaf_walk nat_eq (g.L.Look.looks c.args.world.now) (task_of c.args.who.now) c.args.path.now))
    (c.new_leaf_walk.ensures.value ∙ ap (λ text. place_end (walk_end
    (new_leaf_walk nat_eq (g.L.Look.looks c.args.world.now) (task_of c.args.who.now) text))) c.in_ok-parse.ensures.text)

pub returns-clause-err : goal.returns-clause-err
returns-clause-err g c = refused_place c.new_leaf_walk.result
    (walk_end (new_leaf_walk nat_eq (g.L.Look.looks c.args.world.now) (task_of c.args.who.now) c.args.path.now))
    (c.new_leaf_walk.ensures.value ∙ ap (λ text. place_end (walk_end
    (new_leaf_walk nat_eq (g.L.Look.looks c.args.world.now) (task_of c.args.who.now) text))) c.in_ok-parse.ensures.text)
