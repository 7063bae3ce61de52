use Rattle.vt_laws_trees.proofs.runs.answered.AlikeAnswered.{same_worlds_are_answered_alike, same_worlds_are_directed_alike}
use Rattle.vt_laws_trees.proofs.runs.answered.AlikeWorlds.{same_worlds_are_plain_alike, sameness_is_an_equivalence}
use Rattle.vt_laws_trees.proofs.runs.answered.same_worlds_are_answered_alike.Goals as goal

pub returns-clause-equivalence : goal.returns-clause-equivalence
returns-clause-equivalence c = sameness_is_an_equivalence

pub returns-clause-plain : goal.returns-clause-plain
returns-clause-plain c = same_worlds_are_plain_alike

pub returns-clause-calls : goal.returns-clause-calls
returns-clause-calls c = same_worlds_are_answered_alike

pub returns-clause-directives : goal.returns-clause-directives
returns-clause-directives c = same_worlds_are_directed_alike
