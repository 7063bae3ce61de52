-- A sink over a writer.
use Rattle.std.specs.Prelude.{ℕ}

-- What a sink over a writer of the type W is made of.
pub record Writing (W : Type 0) : Type 0 where
  pub writer : W
  -- how often a write or a flush failed
  pub failures : ℕ
