use Rattle.std.proofs.Common.{arith, refl}
use Rattle.vt_upper.proofs.making.place_in_copy.Goals as goal

pub returns : goal.returns
returns c = (refl, omega (arith, c.in_ok-reserve.ensures.ok))
