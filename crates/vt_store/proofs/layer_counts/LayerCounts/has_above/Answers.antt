use Rattle.std.proofs.Common.{arith}
use Rattle.vt_spec.proofs.Common.{common_steps}
use Rattle.vt_store.proofs.LayersAbove.{passes_above}
use Rattle.vt_store.proofs.layer_counts.LayerCounts.has_above.Invariants.{is_at}
use Rattle.vt_store.proofs.layer_counts.LayerCounts.has_above.Goals as goal

pub loop-left-preserved : goal.loop-left-preserved
loop-left-preserved c = grind (arith, common_steps, is_at, passes_above)

pub returns-then-has_at : goal.returns-then-has_at
returns-then-has_at c = grind (arith, common_steps)

pub returns-then-eq : goal.returns-then-eq
returns-then-eq c = grind (arith, common_steps)
