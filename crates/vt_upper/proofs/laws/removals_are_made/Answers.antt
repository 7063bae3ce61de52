use Rattle.vt_upper.proofs.RemovalsMade.{names_gone, names_hidden}
use Rattle.vt_upper.proofs.laws.removals_are_made.Goals as goal

pub returns-clause-hidden : goal.returns-clause-hidden
returns-clause-hidden c = names_hidden c.changes_of_overlays_are_rows.ensures.changes

pub returns-clause-gone : goal.returns-clause-gone
returns-clause-gone c = names_gone c.changes_of_overlays_are_rows.ensures.changes
