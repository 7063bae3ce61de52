use Rattle.std.proofs.Common.{Ok, ◌∙◌}
use Rattle.vt_tasks.specs.TaskValue.{task_of}
use Rattle.vt_layers.specs.LayersValue.{layers_of}
use Rattle.vt_layers.proofs.RuleLemmas.{checked-rules}
use Rattle.vt_layers.proofs.rules.may_be_layers.Goals as goal

pub returns : goal.returns
returns g c = c.checked.ensures
    ∙ checked-rules (g.L.Look.looks c.args.world.now) (task_of c.args.who.now) (layers_of c.args.layers.now) (Ok tt)
