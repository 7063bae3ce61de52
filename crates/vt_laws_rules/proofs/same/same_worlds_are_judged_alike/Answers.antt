use Rattle.vt_laws_rules.proofs.same.SameJudged.{plain_has_one_name, same_worlds_are_judged_alike, same_worlds_look_alike}
use Rattle.vt_laws_rules.proofs.same.SameMany.{same_worlds_judge_alike}
use Rattle.vt_laws_rules.proofs.same.SameNames.{invariant_worlds_judge_alike, invariant_worlds_look_alike, worlds_have_one_name}
use Rattle.vt_laws_rules.proofs.same.same_worlds_are_judged_alike.Goals as goal

pub returns-clause-looks : goal.returns-clause-looks
returns-clause-looks c = same_worlds_look_alike

pub returns-clause-calls : goal.returns-clause-calls
returns-clause-calls c = same_worlds_are_judged_alike

pub returns-clause-judgements : goal.returns-clause-judgements
returns-clause-judgements c = same_worlds_judge_alike

pub returns-clause-plain : goal.returns-clause-plain
returns-clause-plain c = plain_has_one_name

pub returns-clause-names : goal.returns-clause-names
returns-clause-names c = worlds_have_one_name

pub returns-clause-invariant_looks : goal.returns-clause-invariant_looks
returns-clause-invariant_looks c = invariant_worlds_look_alike

pub returns-clause-invariant_judgements : goal.returns-clause-invariant_judgements
returns-clause-invariant_judgements c = invariant_worlds_judge_alike
