use Rattle.std.proofs.Common.{refl}
use Rattle.vt_spec.proofs.Common.{everything}
use Rattle.vt_machine_examples.proofs.pivot_root.old_root_stacked_on_the_new_one.Goals as goal

pub returns : goal.returns
unfolding everything
returns c = refl
