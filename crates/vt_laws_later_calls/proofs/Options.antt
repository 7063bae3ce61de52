-- Whether an option has a value.
use Rattle.std.proofs.Common.{◌≡◌, ◌⊎◌, refl, inl, inr, Option, Some, None}

pub cases_Option : {A : Type 0} (o : Option A) → (o ≡ None) ⊎ ((a : A) × (o ≡ Some a))
cases_Option None = inl refl
cases_Option (Some a) = inr (a, refl)
