use Rattle.vt_unnamed.proofs.leaving.KeptStand.{kept_nodes_are_there, kept_overlays_stand, upper_objects_are_let_go}
use Rattle.vt_unnamed.proofs.leaving.overlays_stand_where_they_are_kept.Goals as goal

pub returns-clause-stands : goal.returns-clause-stands
returns-clause-stands c = kept_overlays_stand

pub returns-clause-there : goal.returns-clause-there
returns-clause-there c = kept_nodes_are_there

pub returns-clause-go : goal.returns-clause-go
returns-clause-go c = upper_objects_are_let_go
