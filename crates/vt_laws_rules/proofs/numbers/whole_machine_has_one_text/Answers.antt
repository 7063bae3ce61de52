use Rattle.vt_laws_rules.proofs.numbers.Texts.{some_text_is_there, whole_machine_has_one_text}
use Rattle.vt_laws_rules.proofs.numbers.whole_machine_has_one_text.Goals as goal

pub returns-clause-some : goal.returns-clause-some
returns-clause-some c = some_text_is_there

pub returns-clause-one : goal.returns-clause-one
returns-clause-one c = whole_machine_has_one_text
