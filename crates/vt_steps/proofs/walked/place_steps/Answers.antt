use Rattle.vt_tasks.specs.TaskValue.{task_of}
use Rattle.vt_steps.specs.RouteValue.{name_walked}
use Rattle.vt_steps.proofs.walked.place_steps.Goals as goal

pub returns : goal.returns
returns g c =
    c.named_steps.ensures
    (name_walked (g.L.Look.looks c.args.walker.now.world.now) (task_of c.args.walker.now.who.now) c.args.path.now)
    c.place_walked.ensures
