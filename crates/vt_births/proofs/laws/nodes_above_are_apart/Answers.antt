use Rattle.vt_births.proofs.NodesAbove.{numbers_apart}
use Rattle.vt_births.proofs.laws.nodes_above_are_apart.Goals as goal

pub returns : goal.returns
returns c = numbers_apart
