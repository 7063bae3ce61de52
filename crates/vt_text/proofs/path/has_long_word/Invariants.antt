use Rattle.std.proofs.Common.{◌≡◌, length}
use Rattle.vt_spec.proofs.Common.{words}
use Rattle.vt_text.proofs.Limits.{some_long}
use Rattle.vt_text.proofs.path.has_long_word.Given as goal

abbrev pub invariant-loop-rest : goal.invariant-loop-rest
invariant-loop-rest l = some_long (words l.fn.text) ≡ some_long (words l.rest)

abbrev pub decreases-loop-rest : goal.decreases-loop-rest
decreases-loop-rest l = length l.rest
