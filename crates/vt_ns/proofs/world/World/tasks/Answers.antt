use Rattle.std.proofs.Common.{ap}
use Rattle.vt_ns.proofs.Common.{WorldValue}
use Rattle.vt_ns.proofs.world.World.tasks.Goals as goal

pub returns-clause-tasks : goal.returns-clause-tasks
returns-clause-tasks c = ap (λ (value : WorldValue). value.tasks) c.self.view_is
