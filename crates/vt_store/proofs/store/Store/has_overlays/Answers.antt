use Rattle.std.proofs.Common.{arith}
use Rattle.vt_store.proofs.store.Store.has_overlays.Goals as goal
use Rattle.vt_spec.proofs.Common.{common_steps}

pub returns : goal.returns
returns c = grind (arith, common_steps)
