use Rattle.std.proofs.Common.{refl}
use Rattle.vt_spec.proofs.Common.{everything}
use Rattle.vt_machine_examples.proofs.corners_of_files.chown_and_chmod.Goals as goal

pub returns : goal.returns
unfolding everything
returns c = refl
