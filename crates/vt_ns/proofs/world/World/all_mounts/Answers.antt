use Rattle.std.proofs.Common.{ap}
use Rattle.vt_ns.proofs.Common.{WorldValue}
use Rattle.vt_ns.proofs.world.World.all_mounts.Goals as goal

pub returns : goal.returns
returns c = ap (λ (value : WorldValue). value.mounts) c.self.view_is
