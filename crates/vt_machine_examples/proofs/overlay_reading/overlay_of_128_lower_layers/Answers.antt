use Rattle.std.proofs.Common.{refl}
use Rattle.vt_spec.proofs.Common.{everything}
use Rattle.vt_machine_examples.proofs.overlay_reading.overlay_of_128_lower_layers.Goals as goal

pub returns : goal.returns
unfolding everything
returns c version = refl
