use Rattle.vt_laws_upper_layers.proofs.rows.Above.{copies_in_a_row, rows_are_changes_above}
use Rattle.vt_laws_upper_layers.proofs.rows.changes_of_overlays_are_rows.Goals as goal

pub returns-clause-copies : goal.returns-clause-copies
returns-clause-copies c = copies_in_a_row

pub returns-clause-changes : goal.returns-clause-changes
returns-clause-changes c = rows_are_changes_above
