use Rattle.std.proofs.Common.{refl}
use Rattle.vt_spec.proofs.Common.{everything}
use Rattle.vt_machine_examples.proofs.order_of_rules.a_removed_working_directory.Goals as goal

pub returns : goal.returns
unfolding everything
returns c = refl
