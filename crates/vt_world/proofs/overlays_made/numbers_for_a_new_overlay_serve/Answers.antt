use Rattle.vt_world.proofs.overlays_made.Serves.{new_overlays_are_same, supplies_for_overlays_serve}
use Rattle.vt_world.proofs.overlays_made.numbers_for_a_new_overlay_serve.Goals as goal

pub returns-clause-serves : goal.returns-clause-serves
returns-clause-serves c = supplies_for_overlays_serve

pub returns-clause-same : goal.returns-clause-same
returns-clause-same c = new_overlays_are_same
