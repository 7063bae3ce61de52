use Rattle.std.proofs.Common.{refl}
use Rattle.vt_spec.proofs.Common.{everything}
use Rattle.vt_machine_examples.proofs.corners_of_propagation.chains_of_covers.Goals as goal

pub returns : goal.returns
unfolding everything
returns c = refl
