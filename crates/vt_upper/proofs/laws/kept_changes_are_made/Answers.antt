use Rattle.vt_upper.proofs.KeptMade.{kept_above, kept_below}
use Rattle.vt_upper.proofs.laws.kept_changes_are_made.Goals as goal

pub returns-clause-below : goal.returns-clause-below
returns-clause-below c = kept_below

pub returns-clause-above : goal.returns-clause-above
returns-clause-above c = kept_above
