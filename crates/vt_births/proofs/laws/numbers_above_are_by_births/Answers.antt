use Rattle.vt_births.proofs.NodesAbove.{numbers_by_births}
use Rattle.vt_births.proofs.laws.numbers_above_are_by_births.Goals as goal

pub returns : goal.returns
returns c = numbers_by_births
