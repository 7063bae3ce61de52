use Rattle.vt_unnamed.proofs.leaving.ReadOnly.{left_read_only_are_shown}
use Rattle.vt_unnamed.proofs.leaving.read_only_overlays_are_left.Goals as goal

pub returns : goal.returns
returns c = left_read_only_are_shown
