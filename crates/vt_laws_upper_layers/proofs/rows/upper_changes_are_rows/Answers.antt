use Rattle.vt_laws_upper_layers.proofs.rows.Freed.{linked_in_a_row, made_in_a_row}
use Rattle.vt_laws_upper_layers.proofs.rows.Left.{moved_in_a_row, removed_in_a_row}
use Rattle.vt_laws_upper_layers.proofs.rows.upper_changes_are_rows.Goals as goal

pub returns-clause-made : goal.returns-clause-made
returns-clause-made c = made_in_a_row

pub returns-clause-linked : goal.returns-clause-linked
returns-clause-linked c = linked_in_a_row

pub returns-clause-removed : goal.returns-clause-removed
returns-clause-removed c = removed_in_a_row

pub returns-clause-moved : goal.returns-clause-moved
returns-clause-moved c = moved_in_a_row
