use Rattle.vt_laws_kept.proofs.staying.Listed.{overlays_stay_in_order}
use Rattle.vt_laws_kept.proofs.staying.overlays_stay_in_order.Goals as goal

pub returns : goal.returns
returns c = overlays_stay_in_order
