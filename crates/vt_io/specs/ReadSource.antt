-- A source over a reader.
use Rattle.std.specs.Prelude.{ℕ, ◌≤◌, List, [], length, Option, None, Some, unwrap_or, IsSomeAnd}

-- What a source over a reader of the type R is made of.
pub record Reading (R : Type 0) : Type 0 where
  pub reader : R
  -- the most bytes that may still come
  pub limit : ℕ
  -- how often a read failed
  pub failures : ℕ
  -- how many bytes the last read gave
  pub given : ℕ

-- known bytes that are within a limit, seen as a list
pub length-known_le :
    (known : Option (List ℕ)) (limit : ℕ) → IsSomeAnd known (λ bytes. length bytes ≤ limit)
    → length (unwrap_or known []) ≤ limit
length-known_le None limit h = absurd h
length-known_le (Some bytes) limit h = h
