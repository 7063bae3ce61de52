use Rattle.vt_laws_turns.proofs.dated.AnsweredAlike.{dated_sameness_is_an_equivalence, same_dated_worlds_are_answered_alike, same_dated_worlds_are_directed_alike}
use Rattle.vt_laws_turns.proofs.dated.same_dated_worlds_are_answered_alike.Goals as goal

pub returns-clause-equivalence : goal.returns-clause-equivalence
returns-clause-equivalence c = dated_sameness_is_an_equivalence

pub returns-clause-calls : goal.returns-clause-calls
returns-clause-calls c = same_dated_worlds_are_answered_alike

pub returns-clause-directives : goal.returns-clause-directives
returns-clause-directives c = same_dated_worlds_are_directed_alike
