use Rattle.vt_names.proofs.Answers.{left_were_there, no_answer_changes, not_answered, others_were_there}
use Rattle.vt_names.proofs.laws.only_what_was_kept_is_answered.Goals as goal

pub returns-clause-looked : goal.returns-clause-looked
returns-clause-looked c = no_answer_changes

pub returns-clause-told : goal.returns-clause-told
returns-clause-told c = others_were_there

pub returns-clause-forgotten : goal.returns-clause-forgotten
returns-clause-forgotten c = not_answered

pub returns-clause-left : goal.returns-clause-left
returns-clause-left c = left_were_there
