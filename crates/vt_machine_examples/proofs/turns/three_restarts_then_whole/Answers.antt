use Rattle.std.proofs.Common.{refl}
use Rattle.vt_spec.proofs.Common.{everything_in_turns}
use Rattle.vt_machine_examples.proofs.turns.three_restarts_then_whole.Goals as goal

pub returns : goal.returns
unfolding everything_in_turns
returns c = refl
