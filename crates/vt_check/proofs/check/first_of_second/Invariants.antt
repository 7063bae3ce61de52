use Rattle.std.proofs.Common.{length}
use Rattle.vt_check.proofs.check.first_of_second.Given as goal

abbrev pub decreases-loop-line : goal.decreases-loop-line
decreases-loop-line l = length l.rest
