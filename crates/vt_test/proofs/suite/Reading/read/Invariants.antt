use Rattle.std.proofs.Common.{List, [], false, length, ℕ, ◌++◌, ◌≡◌}
use Rattle.vt_spec.proofs.Common.{Version}
use Rattle.vt_wanted.specs.Entries.{calls_of}
use Rattle.vt_test.specs.Suite.{IsRead}
use Rattle.vt_test.proofs.suite.Reading.read.Given as goal

-- the calls of the lines that were taken are read
abbrev pub invariant-loop-line : goal.invariant-loop-line
invariant-loop-line l = l.self.failed ≡ false → (l.initial.self.failed ≡ false)
    × ((version : Version) → IsRead version [] l.initial.self.done.items l.initial.self.script
    → (calls : List ℕ) × (calls ++ calls_of l.rest ≡ calls_of l.file)
    × IsRead version calls l.self.done.items l.self.script)

abbrev pub decreases-loop-line : goal.decreases-loop-line
decreases-loop-line l = length l.rest
