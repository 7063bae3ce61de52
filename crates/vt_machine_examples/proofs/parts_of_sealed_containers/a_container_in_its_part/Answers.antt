use Rattle.std.proofs.Common.{refl}
use Rattle.vt_spec.proofs.Common.{everything}
use Rattle.vt_machine_examples.proofs.parts_of_sealed_containers.a_container_in_its_part.Goals as goal

pub returns : goal.returns
unfolding everything
returns c = refl
