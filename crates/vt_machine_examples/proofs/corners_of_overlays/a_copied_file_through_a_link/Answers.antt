use Rattle.std.proofs.Common.{refl}
use Rattle.vt_spec.proofs.Common.{everything}
use Rattle.vt_machine_examples.proofs.corners_of_overlays.a_copied_file_through_a_link.Goals as goal

pub returns : goal.returns
unfolding everything
returns c = refl
