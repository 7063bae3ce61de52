-- Chains that come to an end: how many steps they have, and that another step that agrees on the way gives the same.
use Rattle.std.proofs.Common.{◌≡◌, refl, sym, ap, subst, ◌∙◌, ⊎_elim, inl, inr, ℕ, zero, suc, nat_eq, eqb-true, false, true≢false, List, [], ◌∷◌, ◌≤◌, length, Option, Some, None, arith}
use Rattle.vt_spec.proofs.Common.{AllByRecursion, Among, among_numbers, chain, chain_ends, chain_goes_on, common_steps, false_from_ne_true, is_among_numbers, nat_eq_equiv, same_Some}
use Rattle.std.specs.List.{IsDistinct}
use Rattle.std.proofs.lemmas.Map.Made.{length-le_from_is_member}

differs : (number : ℕ) (others : List ℕ) → ((other : ℕ) → Among other others → nat_eq number other ≡ false)
    → AllByRecursion (λ other. nat_eq number other ≡ false) others
differs number [] h = tt
differs number (other ∷ rest) h = (h other (inl refl), differs number rest (λ later m. h later (inr m)))

-- a way that comes to an end, on which two steps agree; where it goes on, the key is one of a list
pub data Way {A : Type 0} (next other : A → Option A) (key : A → ℕ) (there : List ℕ) : A → Type 0 where
  ends : (a : A) → next a ≡ None → other a ≡ None → Way next other key there a
  goes_on : (a b : A) → next a ≡ Some b → other a ≡ Some b → Among (key a) there → Way next other key there b
      → Way next other key there a

module _ {A : Type 0} (next other : A → Option A) (key : A → ℕ) (there : List ℕ)
    (by_key : (a b : A) → key a ≡ key b → next a ≡ next b) where
  abbrev WayFrom : A → Type 0
  WayFrom = Way next other key there

  abbrev keys : (a : A) → WayFrom a → List ℕ
  keys a (ends it e f) = []
  keys a (goes_on it b e f m rest) = key it ∷ keys b rest

  -- from where the step is the same, as many steps lead to the end
  same_length : (a : A) (way : WayFrom a) (c : A) (road : WayFrom c) → next a ≡ next c
      → length (keys a way) ≡ length (keys c road)
  same_length a (ends it e f) c (ends x g h) same = refl
  same_length a (ends it e f) c (goes_on x y g h m rest) same = grind (arith, common_steps, true≢false)
  same_length a (goes_on it b e f m rest) c (ends x g h) same = grind (arith, common_steps, true≢false)
  same_length a (goes_on it b e f m rest) c (goes_on x y g h n later) same =
      grind (arith, common_steps, same_Some, same_length b rest y later (ap next (same_Some b y (cc))))

  rest_of : (a : A) (way : WayFrom a) (number : ℕ) → Among number (keys a way)
      → (c : A) × (road : WayFrom c) × (number ≡ key c) × (length (keys c road) ≤ length (keys a way))
  rest_of a (ends it e f) number m = absurd m
  rest_of a (goes_on it b e f n rest) number m = ⊎_elim (λ same. (it, goes_on it b e f n rest, same, omega arith))
      (λ later. let t = rest_of b rest number later in (t.0, t.1, t.2, omega (arith, t.3))) m

  -- no key comes twice
  apart : (a : A) (way : WayFrom a) → IsDistinct nat_eq (keys a way)
  unfolding IsDistinct
  apart a (ends it e f) = tt
  apart a (goes_on it b e f m rest) = (
    differs (key it) (keys b rest) (λ number n. false_from_ne_true (nat_eq (key it) number) (λ h.
        let t = rest_of b rest number n in
        let same : length (keys t.0 t.1) ≡ suc (length (keys b rest)) = same_length t.0 t.1 it (goes_on it b e f m rest)
        (by_key t.0 it (sym (eqb-true (key it) number h ∙ t.2))) in
        absurd (omega (arith, t.3, same)))),
    apart b rest,
  )

  all_there : (a : A) (way : WayFrom a) (number : ℕ) → Among number (keys a way) → Among number there
  all_there a (ends it e f) number m = absurd m
  all_there a (goes_on it b e f n rest) number m =
      ⊎_elim (λ same. subst (λ k. Among k there) (sym same) n) (λ later. all_there b rest number later) m

  alike : (n m : ℕ) (a : A) (way : WayFrom a) → length (keys a way) ≤ n → length (keys a way) ≤ m
      → chain n next a ≡ chain m other a
  alike zero zero a (ends it e f) few less = refl
  alike zero (suc m) a (ends it e f) few less = sym (chain_ends other m it f)
  alike (suc n) zero a (ends it e f) few less = chain_ends next n it e
  alike (suc n) (suc m) a (ends it e f) few less = chain_ends next n it e ∙ sym (chain_ends other m it f)
  alike zero m a (goes_on it b e f t rest) few less = absurd (omega (arith, few))
  alike (suc n) zero a (goes_on it b e f t rest) few less = absurd (omega (arith, less))
  alike (suc n) (suc m) a (goes_on it b e f t rest) few less =
      grind (arith, common_steps, chain_goes_on, alike n m b rest (omega (arith, few)) (omega (arith, less)))

  -- chains of no fewer steps than the list has are the same
  pub chains_alike : (n m : ℕ) (a : A) → WayFrom a → length there ≤ n → length there ≤ m
      → chain n next a ≡ chain m other a
  chains_alike n m a way few less =
      let fewer : length (keys a way) ≤ length there =
      length-le_from_is_member nat_eq_equiv (keys a way) there (apart a way) (λ number h.
      is_among_numbers there number (all_there a way number (among_numbers (keys a way) number h))) in
      alike n m a way (omega (arith, fewer, few)) (omega (arith, fewer, less))
