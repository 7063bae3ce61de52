use Rattle.vt_later.proofs.PastNothing.{nothing_let_pass}
use Rattle.vt_later.proofs.laws.past_no_rule_calls_are_judged.Goals as goal

pub returns : goal.returns
returns c = nothing_let_pass
