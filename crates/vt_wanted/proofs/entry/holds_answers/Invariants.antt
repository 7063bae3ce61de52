use Rattle.std.proofs.Common.{length}
use Rattle.vt_wanted.proofs.entry.holds_answers.Given as goal

abbrev pub decreases-loop-line : goal.decreases-loop-line
decreases-loop-line l = length l.rest
