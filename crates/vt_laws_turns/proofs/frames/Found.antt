-- What is found by its number, in lists in which each number is there once.
use Rattle.std.proofs.Common.{arith, ◌≡◌, refl, sym, ◌∙◌, ⊎_elim, ℕ, nat_eq, Bool, true, false, true≢false, cond, List, [], ◌∷◌, Option, Some, None, find, map, eqb-true, eq-eqb, option_map}
use Rattle.vt_spec.proofs.Common.{Among, any_pair, common_steps, list_any, or_parts}

module _ {A : Type 0} (number_of : A → ℕ) where
  abbrev pub numbered : ℕ → List A → Option A
  numbered number list = find (λ a. nat_eq number (number_of a)) list

  -- what is there is found
  pub found_one : (list : List A) → any_pair (λ a b. nat_eq (number_of a) (number_of b)) list ≡ false → (a : A)
      → Among a list → (number : ℕ) → nat_eq number (number_of a) ≡ true → numbered number list ≡ Some a
  found_one [] apart a m number e = absurd m
  found_one (first ∷ rest) apart a m number e =
      let parts = or_parts _ (any_pair (λ a b. nat_eq (number_of a) (number_of b)) rest) apart in
      ⊎_elim (λ same. cc) (λ later. by _ refl parts.0 later (found_one rest parts.1 a later number e)) m
    where
      clash : (xs : List A) → list_any (λ b. nat_eq (number_of first) (number_of b)) xs ≡ false → Among a xs
          → nat_eq (number_of first) (number_of a) ≡ false
      clash [] none n = absurd n
      clash (x ∷ xs) none n =
          let parts = or_parts (nat_eq (number_of first) (number_of x)) _ none in
          ⊎_elim (λ same. cc (parts.0)) (λ l. clash xs parts.1 l) n

      by : (b : Bool) → nat_eq number (number_of first) ≡ b
          → list_any (λ x. nat_eq (number_of first) (number_of x)) rest ≡ false → Among a rest
          → numbered number rest ≡ Some a → cond b (Some first) (numbered number rest) ≡ Some a
      by true f none n found = absurd (true≢false (sym (eq-eqb (number_of first) (number_of a)
          (sym (eqb-true number (number_of first) f) ∙ eqb-true number (number_of a) e)) ∙ clash rest none n))
      by false f none n found = found

  -- where something of a number is there, something is found
  pub found_there : (number : ℕ) (list : List A) (a : A) → Among a list → number_of a ≡ number
      → numbered number list ≡ None → ⊥
  found_there number [] a m e none = absurd m
  found_there number (first ∷ rest) a m e none =
      by (nat_eq number (number_of first)) refl none (found_there number rest a)
    where
      by : (b : Bool) → nat_eq number (number_of first) ≡ b → cond b (Some first) (numbered number rest) ≡ None
          → (Among a rest → number_of a ≡ number → numbered number rest ≡ None → ⊥) → ⊥
      by true f none next = cc
      by false f none next = ⊎_elim (λ same. true≢false (sym (eq-eqb number (number_of first) (cc)) ∙ f))
          (λ later. next later e none) m

  -- what is found among changed ones is what is found, changed
  pub found_map : (change : A → A) (number : ℕ) (list : List A) → ((a : A) → number_of (change a) ≡ number_of a)
      → numbered number (map change list) ≡ option_map change (numbered number list)
  found_map change number [] same = refl
  found_map change number (first ∷ rest) same = grind (arith, common_steps, found_map change number rest same)
