use Rattle.std.proofs.Common.{ap}
use Rattle.vt_ns.proofs.Common.{WorldValue}
use Rattle.vt_ns.proofs.world.World.groups.Goals as goal

pub returns : goal.returns
returns c = ap (λ (value : WorldValue). value.groups) c.self.view_is
