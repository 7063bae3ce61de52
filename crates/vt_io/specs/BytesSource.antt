-- Bytes in memory as a source.
use Rattle.std.specs.Prelude.{ℕ, List, Option}

-- What such a source is made of.
pub record BytesLeft : Type 0 where
  -- the bytes that are still to come
  pub rest : List ℕ
  -- the most bytes that a read gives, where 0 stands for 1
  pub piece : ℕ
  -- how many reads come before the one that fails, if one does
  pub before_failure : Option ℕ
  -- how often a read failed
  pub failures : ℕ
  -- how many bytes the last read gave
  pub given : ℕ
