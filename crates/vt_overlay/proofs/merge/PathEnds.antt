-- Paths with one more name, and without their last.
use Rattle.std.proofs.Common.{◌≡◌, ◌<◌, ◌-◌, ◌++◌, ◌∷◌, [], arith, length, List, refl, Some, suc, zero, ℕ, slice_get}
use Rattle.vt_spec.proofs.Common.{without_last}

pub before_end : (names : List (List ℕ)) (name : List ℕ) (i : ℕ) → i < length names
    → slice_get (names ++ name ∷ []) i ≡ slice_get names i
before_end [] name i within = absurd (omega (arith, within))
before_end (first ∷ names) name zero within = refl
before_end (first ∷ names) name (suc i) within = before_end names name i (omega (arith, within))

pub at_end : (names : List (List ℕ)) (name : List ℕ) (i : ℕ) → i ≡ length names
    → slice_get (names ++ name ∷ []) i ≡ Some name
at_end [] name zero is = refl
at_end [] name (suc i) is = absurd (omega (arith, is))
at_end (first ∷ names) name zero is = absurd (omega (arith, is))
at_end (first ∷ names) name (suc i) is = at_end names name i (omega (arith, is))

pub length-without_last : (names : List (List ℕ)) → length (without_last names) ≡ length names - 1
length-without_last [] = refl
length-without_last (name ∷ []) = refl
length-without_last (name ∷ other ∷ names) =
    let rest = length-without_last (other ∷ names) in omega (arith, rest)

pub in_front : (names : List (List ℕ)) (i : ℕ) → i < length (without_last names)
    → slice_get (without_last names) i ≡ slice_get names i
in_front [] i within = absurd (omega (arith, within))
in_front (name ∷ []) i within = absurd (omega (arith, within))
in_front (name ∷ other ∷ names) zero within = refl
in_front (name ∷ other ∷ names) (suc i) within = in_front (other ∷ names) i (omega (arith, within))
