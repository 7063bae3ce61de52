use Rattle.std.proofs.Common.{refl}
use Rattle.vt_spec.proofs.Common.{everything}
use Rattle.vt_machine_examples.proofs.corners_of_overlays.an_unlinked_object_counts_as_under_its_upper_directory.Goals as goal

pub returns : goal.returns
unfolding everything
returns c = refl
