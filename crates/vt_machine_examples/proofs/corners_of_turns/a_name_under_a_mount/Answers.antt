use Rattle.std.proofs.Common.{refl}
use Rattle.vt_spec.proofs.Common.{everything_in_turns}
use Rattle.vt_machine_examples.proofs.corners_of_turns.a_name_under_a_mount.Goals as goal

pub returns : goal.returns
unfolding everything_in_turns
returns c = refl
