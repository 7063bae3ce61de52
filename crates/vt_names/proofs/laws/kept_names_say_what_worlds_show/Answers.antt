use Rattle.vt_names.proofs.Says.{answers_shown, changed_forgotten, looks_leave, shown_may_be_kept}
use Rattle.vt_names.proofs.laws.kept_names_say_what_worlds_show.Goals as goal

pub returns-clause-answers : goal.returns-clause-answers
returns-clause-answers c = answers_shown

pub returns-clause-looked : goal.returns-clause-looked
returns-clause-looked c = looks_leave

pub returns-clause-kept : goal.returns-clause-kept
returns-clause-kept c = shown_may_be_kept

pub returns-clause-forgotten : goal.returns-clause-forgotten
returns-clause-forgotten c = changed_forgotten
