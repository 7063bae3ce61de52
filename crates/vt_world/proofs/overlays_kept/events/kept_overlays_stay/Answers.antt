use Rattle.vt_world.proofs.overlays_kept.events.KeptOverlays.{kept_overlays_stay}
use Rattle.vt_world.proofs.overlays_kept.events.kept_overlays_stay.Goals as goal

pub returns : goal.returns
returns c = kept_overlays_stay
