use Rattle.std.proofs.Common.{◌++◌, ◌≡◌, length}
use Rattle.vt_wanted.specs.Entries.{calls_of}
use Rattle.vt_wanted.proofs.entry.calls_of.Given as goal

abbrev pub invariant-loop-line : goal.invariant-loop-line
invariant-loop-line l = l.calls.items ++ calls_of l.rest ≡ calls_of l.fn.file

abbrev pub decreases-loop-line : goal.decreases-loop-line
decreases-loop-line l = length l.rest
