use Rattle.vt_spec.proofs.Common.{common_steps}
use Rattle.std.proofs.Common.{arith}
use Rattle.vt_store.proofs.layers.let_go_layer.Goals as goal

pub returns : goal.returns
returns c = grind (arith, common_steps)
