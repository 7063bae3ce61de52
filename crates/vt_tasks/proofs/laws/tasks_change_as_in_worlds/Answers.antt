use Rattle.vt_tasks.proofs.GivenOnce.{name-of-called}
use Rattle.vt_tasks.proofs.laws.tasks_change_as_in_worlds.Goals as goal

pub returns-clause-name : goal.returns-clause-name
returns-clause-name c = name-of-called
