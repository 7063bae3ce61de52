use Rattle.vt_laws_upper_layers.proofs.counted.Rows.{rows_are_counted, upper_changes_are_counted, upper_rows_are_counted}
use Rattle.vt_laws_upper_layers.proofs.counted.changes_above_are_counted.Goals as goal

pub returns-clause-change : goal.returns-clause-change
returns-clause-change c = upper_changes_are_counted

pub returns-clause-swept : goal.returns-clause-swept
returns-clause-swept c = upper_rows_are_counted

pub returns-clause-rows : goal.returns-clause-rows
returns-clause-rows c = rows_are_counted
