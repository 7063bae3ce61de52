use Rattle.std.proofs.Common.{refl}
use Rattle.vt_spec.proofs.Common.{everything}
use Rattle.vt_machine_examples.proofs.corners_of_pivot_root.pivot_of_a_task_elsewhere.Goals as goal

pub returns : goal.returns
unfolding everything
returns c = refl
