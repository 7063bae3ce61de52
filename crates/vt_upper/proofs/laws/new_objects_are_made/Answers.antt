use Rattle.vt_upper.proofs.NewMade.{new_made}
use Rattle.vt_upper.proofs.laws.new_objects_are_made.Goals as goal

pub returns : goal.returns
returns c = new_made c.changes_of_overlays_are_rows.ensures.changes
