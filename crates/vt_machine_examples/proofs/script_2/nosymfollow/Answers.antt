use Rattle.std.proofs.Common.{refl}
use Rattle.vt_spec.proofs.Common.{everything}
use Rattle.vt_machine_examples.proofs.script_2.nosymfollow.Goals as goal

pub returns : goal.returns
unfolding everything
returns c = refl
