use Rattle.vt_layered.proofs.ObjectsLayered.{layered_alike}
use Rattle.vt_layered.proofs.laws.layered_objects_are_alike.Goals as goal

pub returns : goal.returns
returns c = layered_alike
