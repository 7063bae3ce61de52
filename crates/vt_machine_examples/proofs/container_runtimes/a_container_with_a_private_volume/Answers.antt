use Rattle.std.proofs.Common.{refl}
use Rattle.vt_spec.proofs.Common.{everything}
use Rattle.vt_machine_examples.proofs.container_runtimes.a_container_with_a_private_volume.Goals as goal

pub returns : goal.returns
unfolding everything
returns c = refl
