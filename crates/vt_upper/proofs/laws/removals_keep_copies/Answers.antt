use Rattle.vt_upper.proofs.CopiesLeft.{copies_stay, copies_stay_hidden}
use Rattle.vt_upper.proofs.laws.removals_keep_copies.Goals as goal

pub returns-clause-hidden : goal.returns-clause-hidden
returns-clause-hidden c = copies_stay_hidden

pub returns-clause-gone : goal.returns-clause-gone
returns-clause-gone c = copies_stay
