use Rattle.vt_laws_rules.proofs.judged.NumbersRaised.{last_step_raises_numbers_alone}
use Rattle.vt_laws_rules.proofs.judged.the_last_step_raises_change_numbers_alone.Goals as goal

pub returns : goal.returns
returns c = last_step_raises_numbers_alone
