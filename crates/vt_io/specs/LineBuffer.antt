-- The line that is being read, of which only the front is kept.
use Rattle.std.specs.Prelude.{Bool, List, [], false, length, nat_lt, take, ℕ, ◌≡◌}
use Rattle.vt_io.specs.declared.line.TheConstants.{LONGEST_LINE}

-- What is kept of a line.
pub record LineSoFar : Type 0 where
  -- its first bytes, up to the longest line that a script may have
  pub bytes : List ℕ
  -- it has more bytes than that
  pub overlong : Bool

-- This is what is kept of the line.
pub record Holds (line : List ℕ) (kept : LineSoFar) : Type 0 where
  pub bytes : kept.bytes ≡ take LONGEST_LINE line
  pub overlong : kept.overlong ≡ nat_lt LONGEST_LINE (length line)

-- Nothing is kept, of an empty line.
abbrev pub empty_line : LineSoFar
empty_line = record { bytes = []; overlong = false }
