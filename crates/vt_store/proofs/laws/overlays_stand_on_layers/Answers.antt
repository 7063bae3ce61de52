use Rattle.vt_store.proofs.LayersStanding.{overlays_stand_still, worlds_stand_on_layers}
use Rattle.vt_store.proofs.laws.overlays_stand_on_layers.Goals as goal

pub returns-clause-worlds : goal.returns-clause-worlds
returns-clause-worlds c = worlds_stand_on_layers

pub returns-clause-still : goal.returns-clause-still
returns-clause-still c = overlays_stand_still
