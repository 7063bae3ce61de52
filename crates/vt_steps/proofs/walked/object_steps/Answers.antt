use Rattle.vt_tasks.specs.TaskValue.{task_of}
use Rattle.vt_steps.specs.RouteValue.{all_walked}
use Rattle.vt_steps.proofs.walked.object_steps.Goals as goal

pub returns : goal.returns
returns g c =
    c.here_steps.ensures
    (all_walked (g.L.Look.looks c.args.walker.now.world.now) (task_of c.args.walker.now.who.now) c.args.path.now)
    c.object_walked.ensures
