use Rattle.vt_unnamed.proofs.leaving.StoresLeft.{stores_are_left}
use Rattle.vt_unnamed.proofs.leaving.stores_are_left_with_their_nodes.Goals as goal

pub returns : goal.returns
returns c = stores_are_left
