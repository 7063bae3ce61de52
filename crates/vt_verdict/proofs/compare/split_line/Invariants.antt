use Rattle.std.proofs.Common.{◌≤◌}
use Rattle.vt_verdict.specs.Compared.{count_of_line}
use Rattle.vt_verdict.proofs.compare.split_line.Given as goal

abbrev pub invariant-loop-place : goal.invariant-loop-place
invariant-loop-place l = l.place ≤ count_of_line l.fn.number l.fn.answers
