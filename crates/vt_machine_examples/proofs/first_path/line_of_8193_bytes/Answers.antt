use Rattle.std.proofs.Common.{refl}
use Rattle.vt_spec.proofs.Common.{everything}
use Rattle.vt_machine_examples.proofs.first_path.line_of_8193_bytes.Goals as goal

pub returns : goal.returns
unfolding everything
returns c = refl
