use Rattle.std.proofs.Common.{length}
use Rattle.vt_written.proofs.objects.Objects.take.Given as goal

abbrev pub decreases-loop-newline : goal.decreases-loop-newline
decreases-loop-newline g l = length l.rest
