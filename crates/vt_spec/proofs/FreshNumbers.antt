-- The numbers that a line is given for what it makes: no two of them are one, nor two of the halves that a call hands on.
use Rattle.std.proofs.Common.{Bool, arith, eq-eqb, false, nat_eq, refl, true, ℕ, ◌≡◌, ◌≢◌}
use Rattle.vt_spec.specs.Lists.{Fresh, evens, odds}
use Rattle.vt_spec.specs.Machine.Run.{Serves}
use Rattle.vt_spec.specs.Machine.World.{World}

module _ (world : World ℕ) (fresh : Fresh ℕ) (serves : Serves nat_eq world fresh) where
  -- numbers that serve a world are distinct
  pub served-distinct : (j k : ℕ) → fresh j ≡ fresh k → j ≡ k
  served-distinct j k e = serves.apart j k (eq-eqb (fresh j) (fresh k) e)

  -- and are found to differ
  pub served-differ : (j k : ℕ) → (j ≡ k → ⊥) → nat_eq (fresh j) (fresh k) ≡ false
  served-differ j k apart = by (nat_eq (fresh j) (fresh k)) refl
    where
      by : (b : Bool) → nat_eq (fresh j) (fresh k) ≡ b → b ≡ false
      by false e = refl
      by true e = absurd (apart (serves.apart j k e))

module _ (fresh : Fresh ℕ) (distinct : (j k : ℕ) → fresh j ≡ fresh k → j ≡ k) where
  -- every other number of distinct ones is distinct
  pub evens-distinct : (j k : ℕ) → evens fresh j ≡ evens fresh k → j ≡ k
  evens-distinct j k e = let same = distinct _ _ e in omega (arith, same)

  -- and those between them
  pub odds-distinct : (j k : ℕ) → odds fresh j ≡ odds fresh k → j ≡ k
  odds-distinct j k e = let same = distinct _ _ e in omega (arith, same)

  -- none of these is one of those
  pub odds-no_evens : (j k : ℕ) → odds fresh j ≢ evens fresh k
  odds-no_evens j k e = let same = distinct _ _ e in let no : ⊥ = omega (arith, same) in no
