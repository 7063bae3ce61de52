use Rattle.std.proofs.Common.{◌≡◌, ◌+◌, ℕ, length}
use Rattle.vt_line.specs.Versions.{version_of}
use Rattle.vt_lines.specs.Refused.{refused_in}
use Rattle.vt_check.proofs.report.Scan.take_all.Given as goal

abbrev pub invariant-loop-line : goal.invariant-loop-line
invariant-loop-line l = l.errors + refused_in (version_of l.fn.version) l.rest ≡ refused_in (version_of l.fn.version) l.fn.calls

abbrev pub decreases-loop-line : goal.decreases-loop-line
decreases-loop-line l = length l.rest
