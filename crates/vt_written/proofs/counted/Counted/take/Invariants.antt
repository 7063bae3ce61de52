use Rattle.std.proofs.Common.{◌≡◌, length}
use Rattle.vt_written.proofs.counted.Counted.take.Given as goal

abbrev pub invariant-loop-newline : goal.invariant-loop-newline
invariant-loop-newline g l = l.self.output ≡ l.initial.self.output

abbrev pub decreases-loop-newline : goal.decreases-loop-newline
decreases-loop-newline g l = length l.rest
