use Rattle.vt_kept_nodes.proofs.counting.CountedOn.{pins_are_counted, unpins_are_counted}
use Rattle.vt_kept_nodes.proofs.counting.locations_are_counted_in_turn.Goals as goal

pub returns-clause-pins : goal.returns-clause-pins
returns-clause-pins c = pins_are_counted

pub returns-clause-unpins : goal.returns-clause-unpins
returns-clause-unpins c = unpins_are_counted
