use Rattle.vt_store.proofs.NodesAlike.{nodes_are_like_objects}
use Rattle.vt_store.proofs.laws.nodes_are_like_their_objects.Goals as goal

pub returns : goal.returns
returns c = nodes_are_like_objects
