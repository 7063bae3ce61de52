use Rattle.std.proofs.Common.{refl}
use Rattle.vt_spec.proofs.Common.{everything}
use Rattle.vt_machine_examples.proofs.corners_of_overlays.rights_of_the_mounter_on_parents.Goals as goal

pub returns : goal.returns
unfolding everything
returns c = refl
