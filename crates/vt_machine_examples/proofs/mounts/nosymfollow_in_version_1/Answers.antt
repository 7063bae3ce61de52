use Rattle.std.proofs.Common.{refl}
use Rattle.vt_spec.proofs.Common.{everything}
use Rattle.vt_machine_examples.proofs.mounts.nosymfollow_in_version_1.Goals as goal

pub returns : goal.returns
unfolding everything
returns c = refl
