use Rattle.std.proofs.Common.{refl}
use Rattle.vt_spec.proofs.Common.{everything_in_turns}
use Rattle.vt_machine_examples.proofs.corners_of_turns.a_call_in_the_queue_of_nobody.Goals as goal

pub returns : goal.returns
unfolding everything_in_turns
returns c = refl
