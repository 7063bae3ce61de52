use Rattle.std.proofs.Common.{length}
use Rattle.vt_test.proofs.rewrite.Rewriting.write_all.Given as goal

abbrev pub decreases-loop-line : goal.decreases-loop-line
decreases-loop-line l = length l.rest
