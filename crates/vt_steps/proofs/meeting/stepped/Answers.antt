use Rattle.vt_tasks.specs.TaskValue.{task_of}
use Rattle.vt_steps.proofs.meeting.stepped.Goals as goal

pub returns-in-Named-clause-met : goal.returns-in-Named-clause-met
returns-in-Named-clause-met g c = rw c.in-Named.is (c.stepped_down.ensures.met (task_of c.args.who.now))

pub returns-in-Named-clause-reached : goal.returns-in-Named-clause-reached
returns-in-Named-clause-reached g c = rw c.in-Named.is (c.stepped_down.ensures.reached (task_of c.args.who.now))
