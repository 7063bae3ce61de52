use Rattle.vt_upper_overlay.proofs.LentAbove.{alike_above}
use Rattle.vt_upper_overlay.proofs.laws.objects_above_are_alike.Goals as goal

pub returns : goal.returns
returns c = alike_above
