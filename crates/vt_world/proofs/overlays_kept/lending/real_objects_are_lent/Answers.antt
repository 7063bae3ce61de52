use Rattle.vt_world.proofs.overlays_kept.lending.ObjectsLent.{real_objects_are_lent}
use Rattle.vt_world.proofs.overlays_kept.lending.real_objects_are_lent.Goals as goal

pub returns : goal.returns
returns c = real_objects_are_lent
