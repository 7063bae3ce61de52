use Rattle.vt_store.proofs.OverlaysAlike.{overlays_stay_with_layers}
use Rattle.vt_store.proofs.laws.overlays_stay_with_their_layers.Goals as goal

pub returns : goal.returns
returns c = overlays_stay_with_layers
