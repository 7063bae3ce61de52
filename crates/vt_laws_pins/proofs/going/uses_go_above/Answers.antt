use Rattle.vt_laws_pins.proofs.going.Above.{exchanges_have_no_order, uses_go_above, uses_go_beside_pins}
use Rattle.vt_laws_pins.proofs.going.uses_go_above.Goals as goal

pub returns-clause-uses : goal.returns-clause-uses
returns-clause-uses c = uses_go_above

pub returns-clause-beside : goal.returns-clause-beside
returns-clause-beside c = uses_go_beside_pins

pub returns-clause-order : goal.returns-clause-order
returns-clause-order c = exchanges_have_no_order
