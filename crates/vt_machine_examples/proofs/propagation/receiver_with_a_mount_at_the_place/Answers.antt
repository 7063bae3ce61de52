use Rattle.std.proofs.Common.{refl}
use Rattle.vt_spec.proofs.Common.{One, Two, everything}
use Rattle.vt_machine_examples.proofs.propagation.receiver_with_a_mount_at_the_place.Goals as goal

pub returns : goal.returns
unfolding everything
returns c One = refl
returns c Two = refl
