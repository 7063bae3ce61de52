use Rattle.vt_copyup.proofs.Changed.{given_back}
use Rattle.vt_copyup.proofs.laws.promises_are_given_back.Goals as goal

pub returns : goal.returns
returns c = given_back
