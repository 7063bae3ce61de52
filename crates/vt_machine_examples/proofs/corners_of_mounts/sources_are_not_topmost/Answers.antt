use Rattle.std.proofs.Common.{refl}
use Rattle.vt_spec.proofs.Common.{everything}
use Rattle.vt_machine_examples.proofs.corners_of_mounts.sources_are_not_topmost.Goals as goal

pub returns : goal.returns
unfolding everything
returns c = refl
