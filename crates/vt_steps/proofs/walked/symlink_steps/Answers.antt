use Rattle.std.proofs.Common.{sym, ◌∙◌}
use Rattle.vt_tasks.specs.TaskValue.{task_of}
use Rattle.vt_steps.specs.RouteValue.{unfollowed}
use Rattle.vt_steps.proofs.walked.symlink_steps.Goals as goal

pub returns : goal.returns
returns g c = rw (sym c.ends_in_slash.ensures ∙ c.if-ends_in_slash.false)
    (c.here_steps.ensures (unfollowed (g.L.Look.looks c.args.walker.now.world.now)
    (task_of c.args.walker.now.who.now) c.args.path.now)
    c.symlink_walked.ensures)
