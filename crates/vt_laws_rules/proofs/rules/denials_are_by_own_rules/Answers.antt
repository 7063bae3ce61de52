mod OwnLines
use Rattle.vt_laws_rules.proofs.rules.denials_are_by_own_rules.Answers.OwnLines.{denied_line_is_own}
use Rattle.vt_laws_rules.proofs.rules.OwnRules.{denial_has_error_of_rule, denial_is_own}
use Rattle.vt_laws_rules.proofs.rules.denials_are_by_own_rules.Goals as goal

pub returns-clause-own : goal.returns-clause-own
returns-clause-own c = denial_is_own

pub returns-clause-error : goal.returns-clause-error
returns-clause-error c = denial_has_error_of_rule

pub returns-clause-line : goal.returns-clause-line
returns-clause-line c = denied_line_is_own
