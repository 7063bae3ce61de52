-- What holds of each entry of a map, once one entry was put in or taken out.
use Rattle.std.proofs.Common.{◌≡◌, ℕ, Bool, true, false, cond, nat_eq, Option, None, Some, refl, sym, ap, subst, ◌∙◌, eqb-true, nat_cmp}
use Rattle.vt_spec.proofs.Common.{same_Some}
use Rattle.std.specs.BTreeMap.{is_at}
use Rattle.vt_group.proofs.CountLemmas.{at_count}
use Rattle.vt_location.proofs.NumberLemmas.{counted_test}

-- an order of numbers finds a number just where it is the same
pub at_nat : (a b : ℕ) → is_at (nat_cmp a) b ≡ nat_eq a b
at_nat a b = at_count a b ∙ counted_test a b

module _ {V : Type 0} (P : ℕ → V → Type 0) (old new : ℕ → Option V) (key : ℕ) where
  -- what held of each entry holds where one is put in of which it holds
  pub put_each : (value : V) → ((other : ℕ) → new other ≡ cond (is_at (nat_cmp key) other) (Some value) (old other))
      → P key value → ((other : ℕ) (one : V) → nat_eq key other ≡ false → old other ≡ Some one → P other one)
      → (other : ℕ) (one : V) → new other ≡ Some one → P other one
  put_each value writes here there other one is =
      by (nat_eq key other) refl (sym (writes other ∙ ap (λ b. cond b (Some value) (old other)) (at_nat key other)) ∙ is)
    where
      by : (b : Bool) → nat_eq key other ≡ b → cond b (Some value) (old other) ≡ Some one → P other one
      by true same at = subst (P other) (same_Some value one at) (subst (λ n. P n value) (eqb-true key other same) here)
      by false apart at = there other one apart at

  -- what held of each entry holds where one is removed
  pub left_each : ((other : ℕ) → new other ≡ cond (is_at (nat_cmp key) other) None (old other))
      → ((other : ℕ) (one : V) → nat_eq key other ≡ false → old other ≡ Some one → P other one)
      → (other : ℕ) (one : V) → new other ≡ Some one → P other one
  left_each writes there other one is =
      by (nat_eq key other) refl (sym (writes other ∙ ap (λ b. cond b None (old other)) (at_nat key other)) ∙ is)
    where
      by : (b : Bool) → nat_eq key other ≡ b → cond b None (old other) ≡ Some one → P other one
      by true same at = absurd cc
      by false apart at = there other one apart at
