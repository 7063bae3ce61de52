use Rattle.std.proofs.Common.{refl}
use Rattle.vt_spec.proofs.Common.{everything}
use Rattle.vt_machine_examples.proofs.first_path.one_task_one_tree.Goals as goal

pub returns : goal.returns
unfolding everything
returns c = refl
