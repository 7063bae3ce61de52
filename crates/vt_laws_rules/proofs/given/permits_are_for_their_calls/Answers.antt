use Rattle.vt_laws_rules.proofs.given.GivenPermits.{permits_are_for_their_calls}
use Rattle.vt_laws_rules.proofs.given.permits_are_for_their_calls.Goals as goal

pub returns : goal.returns
returns c = permits_are_for_their_calls
