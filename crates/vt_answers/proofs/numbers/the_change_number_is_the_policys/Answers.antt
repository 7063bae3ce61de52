use Rattle.vt_answers.proofs.ChangeNumbers.{raises_the_change_number}
use Rattle.vt_answers.proofs.numbers.the_change_number_is_the_policys.Goals as goal

pub returns : goal.returns
returns c = raises_the_change_number
