use Rattle.vt_laws_pins.proofs.going.Gone.{pins_go_with_their_inodes}
use Rattle.vt_laws_pins.proofs.going.pins_go_with_their_inodes.Goals as goal

pub returns : goal.returns
returns c = pins_go_with_their_inodes
