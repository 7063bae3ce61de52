use Rattle.vt_laws_rules.proofs.denials.Unchanged.{directive_changes_nothing, look_changes_nothing}
use Rattle.vt_laws_rules.proofs.denials.looks_change_nothing.Goals as goal

pub returns-clause-call : goal.returns-clause-call
returns-clause-call c = look_changes_nothing

pub returns-clause-directive : goal.returns-clause-directive
returns-clause-directive c = directive_changes_nothing
