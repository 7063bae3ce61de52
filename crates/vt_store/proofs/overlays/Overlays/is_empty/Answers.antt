use Rattle.vt_spec.proofs.Common.{common_steps}
use Rattle.std.proofs.Common.{arith}
use Rattle.vt_store.proofs.KeptOverlays.{none_kept, none_under}
use Rattle.vt_store.proofs.overlays.Overlays.is_empty.Goals as goal

pub returns : goal.returns
returns c = grind (arith, common_steps, none_kept, none_under)
