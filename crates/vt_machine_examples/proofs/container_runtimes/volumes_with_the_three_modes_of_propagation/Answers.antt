use Rattle.std.proofs.Common.{refl}
use Rattle.vt_spec.proofs.Common.{everything}
use Rattle.vt_machine_examples.proofs.container_runtimes.volumes_with_the_three_modes_of_propagation.Goals as goal

pub returns : goal.returns
unfolding everything
returns c = refl
