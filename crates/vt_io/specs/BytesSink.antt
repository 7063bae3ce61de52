-- Bytes in memory as a sink.
use Rattle.std.specs.Prelude.{ℕ, List, Option}

-- What such a sink is made of.
pub record BytesKept : Type 0 where
  -- the bytes that it holds
  pub bytes : List ℕ
  -- the most bytes that a write takes, where 0 stands for 1
  pub piece : ℕ
  -- how many writes come before the one that fails, if one does
  pub before_failure : Option ℕ
  -- how often a write failed
  pub failures : ℕ
