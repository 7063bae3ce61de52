-- Two numbers exchanged.
use Rattle.std.proofs.Common.{arith, ◌≡◌, ◌≢◌, ap, refl, ℕ, nat_eq, eq-eqb, Bool, false, cond}
use Rattle.vt_spec.proofs.Common.{common_steps, eqb_tells}
use Rattle.vt_laws_rules.specs.Renaming.{Leaves, Renaming}

abbrev pub swapped : ℕ → ℕ → ℕ → ℕ
swapped a b k = cond (nat_eq k a) b (cond (nat_eq k b) a k)

pub swapped_first : (a b : ℕ) → swapped a b a ≡ b
swapped_first a b = ap (λ t. cond t b (cond (nat_eq a b) a a)) (eq-eqb a a refl)

swapped_second : (a b : ℕ) → swapped a b b ≡ a
swapped_second a b = grind (arith, common_steps)

pub swapped_other : (a b k : ℕ) → k ≢ a → k ≢ b → swapped a b k ≡ k
swapped_other a b k first second = grind (arith, common_steps)

pub swapped_twice : (a b k : ℕ) → swapped a b (swapped a b k) ≡ k
swapped_twice a b k = grind (arith, common_steps, swapped_first, swapped_second, swapped_other, eqb_tells)

abbrev pub exchange : ℕ → ℕ → Renaming ℕ ℕ
exchange a b =
    record { there = swapped a b; back = swapped a b; there_back = swapped_twice a b; back_there = swapped_twice a b }

-- an exchange of two numbers that are left out leaves the others where they are
pub exchange_leaves : (named : ℕ → Bool) (a b : ℕ) → named a ≡ false → named b ≡ false → Leaves (exchange a b) named
exchange_leaves named a b no_a no_b number is = grind (arith, common_steps)
