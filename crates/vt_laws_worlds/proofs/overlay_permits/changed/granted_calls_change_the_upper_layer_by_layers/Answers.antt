use Rattle.vt_laws_worlds.proofs.overlay_permits.changed.ByLayers.{granted_calls_are_by_layers}
use Rattle.vt_laws_worlds.proofs.overlay_permits.changed.granted_calls_change_the_upper_layer_by_layers.Goals as goal

pub returns : goal.returns
returns c = granted_calls_are_by_layers
