use Rattle.vt_unnamed.proofs.leaving.Shown.{left_overlays_are_shown, left_overlays_count_nodes, left_overlays_keep_right}
use Rattle.vt_unnamed.proofs.leaving.overlays_are_left_with_their_nodes.Goals as goal

pub returns-clause-shown : goal.returns-clause-shown
returns-clause-shown c = left_overlays_are_shown

pub returns-clause-right : goal.returns-clause-right
returns-clause-right c = left_overlays_keep_right

pub returns-clause-counts : goal.returns-clause-counts
returns-clause-counts c = left_overlays_count_nodes
