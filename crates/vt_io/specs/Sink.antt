-- What printing functions do to the sink that they are given.
use Rattle.std.specs.Prelude.{◌≡◌, ℕ, ◌+◌, ◌≤◌, List, ◌++◌, length, Result, MatchResult}
use Rattle.std.specs.Io.{StartsWith}
use Rattle.vt_io.specs.declared.output.Sink.{Ghosts}

-- The whole text was appended, and no write failed.
pub record Wrote {W : Type 0} (sink : Ghosts W) (old new : W) (text : List ℕ) : Type 0 where
  pub still_tells : sink.tells old → sink.tells new
  pub appended : sink.tells old → sink.written new ≡ sink.written old ++ text
  pub failures_kept : sink.failures new ≡ sink.failures old

-- A front of the text was appended, all or none of it perhaps, and then a write failed.
pub record WroteFront {W : Type 0} (sink : Ghosts W) (old new : W) (text : List ℕ) : Type 0 where
  pub still_tells : sink.tells old → sink.tells new
  pub no_shorter : sink.tells old → length (sink.written old) ≤ length (sink.written new)
  pub front : sink.tells old → StartsWith (sink.written old ++ text) (sink.written new)
  pub failure_counted : sink.failures new ≡ sink.failures old + 1

-- What a function that prints the text does: the whole text at `Ok`, a front of it at `Err`, which
-- comes from a failed write alone.
abbrev pub Prints : {W T E : Type 0} → Ghosts W → List ℕ → Result T E → W → W → Type 0
Prints sink text r old new = MatchResult r (λ _. Wrote sink old new text) (λ _. WroteFront sink old new text)
