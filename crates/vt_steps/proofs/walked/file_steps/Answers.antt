use Rattle.vt_tasks.specs.TaskValue.{task_of}
use Rattle.vt_steps.specs.RouteValue.{whole_file_walked}
use Rattle.vt_steps.proofs.walked.file_steps.Goals as goal

pub returns : goal.returns
returns g c =
    c.named_steps.ensures
    (whole_file_walked (g.L.Look.looks c.args.walker.now.world.now)
    (task_of c.args.walker.now.who.now) c.args.path.now)
    c.whole_file_walked.ensures
