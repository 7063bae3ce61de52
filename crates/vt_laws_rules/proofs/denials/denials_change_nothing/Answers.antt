use Rattle.vt_laws_rules.proofs.rules.OwnRules.{denial_changes_nothing}
use Rattle.vt_laws_rules.proofs.denials.Unchanged.{denied_line_changes_nothing, refused_memory_changes_nothing}
use Rattle.vt_laws_rules.proofs.denials.denials_change_nothing.Goals as goal

pub returns-clause-call : goal.returns-clause-call
returns-clause-call c = denial_changes_nothing

pub returns-clause-line : goal.returns-clause-line
returns-clause-line c = denied_line_changes_nothing

pub returns-clause-memory : goal.returns-clause-memory
returns-clause-memory c = refused_memory_changes_nothing
