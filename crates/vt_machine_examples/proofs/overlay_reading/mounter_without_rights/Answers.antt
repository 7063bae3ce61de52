use Rattle.std.proofs.Common.{refl}
use Rattle.vt_spec.proofs.Common.{One, Two, everything}
use Rattle.vt_machine_examples.proofs.overlay_reading.mounter_without_rights.Goals as goal

pub returns : goal.returns
unfolding everything
returns c One = refl
returns c Two = refl
