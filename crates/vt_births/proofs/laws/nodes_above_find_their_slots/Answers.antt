use Rattle.vt_births.proofs.NodesAbove.{slots_found}
use Rattle.vt_births.proofs.laws.nodes_above_find_their_slots.Goals as goal

pub returns : goal.returns
returns c = slots_found
