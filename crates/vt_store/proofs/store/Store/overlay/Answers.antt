use Rattle.vt_spec.proofs.Common.{common_steps}
use Rattle.std.proofs.Common.{arith}
use Rattle.vt_store.proofs.store.Store.overlay.Goals as goal

pub returns-clause-value : goal.returns-clause-value
returns-clause-value c = grind (arith, common_steps)
