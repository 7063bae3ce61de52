use Rattle.vt_copyup.proofs.ForksApart.{planned_apart}
use Rattle.vt_copyup.proofs.ForksReady.{forks_are_ready}
use Rattle.vt_copyup.proofs.laws.forks_are_ready.Goals as goal

pub returns-clause-ready : goal.returns-clause-ready
returns-clause-ready c = forks_are_ready

pub returns-clause-apart : goal.returns-clause-apart
returns-clause-apart c = planned_apart
