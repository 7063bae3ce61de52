use Rattle.vt_kept_nodes.proofs.counting.LeftOf.{leaving_goes_on, pins_leave_overlays, unpins_leave_overlays}
use Rattle.vt_kept_nodes.proofs.counting.overlays_are_left_in_turn.Goals as goal

pub returns-clause-pins : goal.returns-clause-pins
returns-clause-pins c = pins_leave_overlays

pub returns-clause-unpins : goal.returns-clause-unpins
returns-clause-unpins c = unpins_leave_overlays

pub returns-clause-on : goal.returns-clause-on
returns-clause-on c = leaving_goes_on
