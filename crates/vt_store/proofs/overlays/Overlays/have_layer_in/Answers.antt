use Rattle.std.proofs.Common.{arith}
use Rattle.vt_spec.proofs.Common.{common_steps}
use Rattle.vt_store.proofs.LayersOver.{layers_in}
use Rattle.vt_store.proofs.overlays.Overlays.have_layer_in.Goals as goal

pub returns : goal.returns
returns c = grind (arith, common_steps, layers_in)
