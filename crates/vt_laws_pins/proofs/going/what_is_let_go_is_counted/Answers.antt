use Rattle.vt_laws_pins.proofs.going.Counted.{let_go_are_counted}
use Rattle.vt_laws_pins.proofs.going.what_is_let_go_is_counted.Goals as goal

pub returns : goal.returns
returns c = let_go_are_counted
