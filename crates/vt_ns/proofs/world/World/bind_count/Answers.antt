use Rattle.std.proofs.Common.{arith}
use Rattle.vt_spec.proofs.Common.{common_steps}
use Rattle.vt_ns.proofs.world.World.bind_count.Goals as goal

pub returns : goal.returns
returns c = grind (arith, common_steps)
