use Rattle.std.proofs.Common.{ap, nat_eq, ◌∙◌}
use Rattle.vt_spec.proofs.Common.{source_walk, walk_end}
use Rattle.vt_tasks.specs.TaskValue.{task_of}
use Rattle.vt_walk.specs.WalkValue.{location_end}
use Rattle.vt_layers.proofs.walks.layer_at.Goals as goal

pub returns : goal.returns
returns g c = c.source_walk.ensures.value ∙ ap (λ text. location_end (walk_end
    (source_walk nat_eq (g.L.Look.looks c.args.world.now) (task_of c.args.who.now) text))) c.in_ok-parse.ensures.text
