use Rattle.std.proofs.Common.{length, subst, ◌≤◌}
use Rattle.vt_ns.proofs.Common.{WorldValue}
use Rattle.vt_ns.proofs.world.World.task.Goals as goal

pub returns-clause-born : goal.returns-clause-born
returns-clause-born c = subst (λ (value : WorldValue). length value.tasks ≤ value.births) c.self.view_is c.get.ensures.born
