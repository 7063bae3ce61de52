use Rattle.std.proofs.Common.{refl}
use Rattle.vt_spec.proofs.Common.{One, Two, everything}
use Rattle.vt_machine_examples.proofs.overlay_writing.whiteout_opaque_mark_and_a_second_mounting.Goals as goal

pub returns : goal.returns
unfolding everything
returns c One = refl
returns c Two = refl
