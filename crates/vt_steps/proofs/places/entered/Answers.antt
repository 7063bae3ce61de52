use Rattle.std.proofs.Common.{arith, refl}
use Rattle.vt_spec.proofs.Common.{common_steps}
use Rattle.vt_steps.specs.StepsValue.{place_of}
use Rattle.vt_steps.proofs.places.entered.Goals as goal

pub returns : goal.returns
returns g c = grind (arith, common_steps, c.in_ok-met.ensures (place_of c.args.named) refl refl)
