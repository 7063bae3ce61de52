-- Where a mount stands in a list, by its number or by its group.
use Rattle.std.proofs.Common.{◌≡◌, ℕ, Bool, false, cond, ◌||◌, suc, List, [], ◌∷◌, map, nat_eq, Option, Some, refl, sym, ap, ◌∙◌, eq-eqb, ne_eqb, eqb-true, find, arith}
use Rattle.vt_spec.proofs.Common.{chain, chain_goes_on, common_steps, eqb-false, list_any}
use Rattle.vt_location.specs.Numbers.{counted}

-- numbers are compared as counts are, either way round
pub turned_count : (a b : ℕ) → nat_eq a b ≡ nat_eq (counted b) (counted a)
turned_count a b = grind (arith, common_steps, eqb-true, eq-eqb, eqb-false, ne_eqb)

module _ {A B : Type 0} (f : A → B) (test : A → Bool) (seen : B → Bool) (agree : (a : A) → test a ≡ seen (f a)) where
  -- some pass a test by what they are where some do by what is seen of them
  pub any-seen : (list : List A) → list_any test list ≡ list_any seen (map f list)
  any-seen [] = refl
  any-seen (a ∷ list) = λ i. agree a i || any-seen list i

-- one step up a chain, past one that does not pass
pub find_up : (test : ℕ → Bool) (next : ℕ → Option ℕ) (here : ℕ) {above n k : ℕ} → n ≡ suc k → test here ≡ false
    → next here ≡ Some above → find test (chain k next above) ≡ find test (chain n next here)
find_up test next here {above} {k} e fails is = sym (ap (λ m. find test (chain m next here)) e
    ∙ ap (find test) (chain_goes_on next k here above is)
    ∙ ap (λ b. cond b (Some here) (find test (chain k next above))) fails)
