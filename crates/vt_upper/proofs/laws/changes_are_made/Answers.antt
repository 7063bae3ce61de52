use Rattle.vt_upper.proofs.ChangesMade.{made_above, made_below}
use Rattle.vt_upper.proofs.laws.changes_are_made.Goals as goal

pub returns-clause-below : goal.returns-clause-below
returns-clause-below c = made_below

pub returns-clause-above : goal.returns-clause-above
returns-clause-above c = made_above
