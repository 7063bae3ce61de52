use Rattle.std.proofs.Common.{length, ◌≡◌}
use Rattle.vt_test.specs.Suite.{has_call}
use Rattle.vt_test.proofs.suite.Script.has_call.Given as goal

-- the lines before these are silent
abbrev pub invariant-loop-line : goal.invariant-loop-line
invariant-loop-line l = has_call l.self.text.items ≡ has_call l.rest

abbrev pub decreases-loop-line : goal.decreases-loop-line
decreases-loop-line l = length l.rest
