use Rattle.std.proofs.Common.{refl}
use Rattle.vt_spec.proofs.Common.{everything}
use Rattle.vt_machine_examples.proofs.corners_of_propagation.a_child_of_what_moves_is_pushed_up.Goals as goal

pub returns : goal.returns
unfolding everything
returns c = refl
