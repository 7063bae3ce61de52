use Rattle.vt_laws_worlds.proofs.permits.taken.TakenJudged.{given_with_any_supply, judgements_do_not_see_supplies}
use Rattle.vt_laws_worlds.proofs.permits.taken.judgements_do_not_see_supplies.Goals as goal

pub returns-clause-judged : goal.returns-clause-judged
returns-clause-judged c = judgements_do_not_see_supplies

pub returns-clause-given : goal.returns-clause-given
returns-clause-given c = given_with_any_supply
