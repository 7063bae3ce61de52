use Rattle.std.proofs.Common.{List, length, map, ℕ, ◌++◌, ◌<◌, ◌^◌, ◌≡◌}
use Rattle.std.specs.Prelude.{All}
use Rattle.vt_spec.proofs.Common.{lines_of}
use Rattle.vt_test.specs.Given.{told_line, told_of}
use Rattle.vt_test.proofs.compare.given_lines.Given as goal

-- what is read is told by the lines so far, and what is left by the others
abbrev pub invariant-loop-line : goal.invariant-loop-line
invariant-loop-line l =
    (told : List (ℕ × List ℕ)) → lines_of l.answers ≡ map told_line told
    → All (λ (one : ℕ × List ℕ). one.0 < 2 ^ 64) told →
    (left : List (ℕ × List ℕ)) × (map told_of l.lines.items ++ left ≡ told) × (lines_of l.rest ≡ map told_line left)
    × All (λ (one : ℕ × List ℕ). one.0 < 2 ^ 64) left

abbrev pub decreases-loop-line : goal.decreases-loop-line
decreases-loop-line l = length l.rest
