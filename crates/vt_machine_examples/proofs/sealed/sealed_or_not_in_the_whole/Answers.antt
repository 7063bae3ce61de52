use Rattle.std.proofs.Common.{refl}
use Rattle.vt_spec.proofs.Common.{One, Two, everything}
use Rattle.vt_machine_examples.proofs.sealed.sealed_or_not_in_the_whole.Goals as goal

pub returns : goal.returns
unfolding everything
returns c One = refl
returns c Two = refl
