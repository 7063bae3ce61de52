use Rattle.vt_spec.proofs.Common.{common_steps}
use Rattle.std.proofs.Common.{is_some, arith}
use Rattle.vt_store.proofs.Woven.{is_overlay_in, some_copied}
use Rattle.vt_store.proofs.store.Store.is_overlay.Goals as goal

pub returns : goal.returns
returns c = grind (arith, common_steps, is_some, some_copied, is_overlay_in)
