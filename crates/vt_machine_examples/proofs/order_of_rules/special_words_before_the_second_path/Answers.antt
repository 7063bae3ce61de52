use Rattle.std.proofs.Common.{refl}
use Rattle.vt_spec.proofs.Common.{everything}
use Rattle.vt_machine_examples.proofs.order_of_rules.special_words_before_the_second_path.Goals as goal

pub returns : goal.returns
unfolding everything
returns c = refl
