use Rattle.vt_propagate.proofs.laws.ExitsAtOnce.{exits_are_at_once}
use Rattle.vt_propagate.proofs.laws.tasks_that_end_one_by_one_end_at_once.Goals as goal

pub returns : goal.returns
returns c = exits_are_at_once
