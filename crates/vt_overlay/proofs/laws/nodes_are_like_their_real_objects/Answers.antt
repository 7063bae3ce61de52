use Rattle.vt_overlay.proofs.ObjectsAlike.{objects_alike}
use Rattle.vt_overlay.proofs.laws.nodes_are_like_their_real_objects.Goals as goal

pub returns : goal.returns
returns c = objects_alike
