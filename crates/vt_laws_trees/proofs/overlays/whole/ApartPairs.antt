-- Of some, no pair passes a test.
use Rattle.std.proofs.Common.{arith, ◌≡◌, ◌≢◌, refl, sym, ap, ◌∙◌, true≢false, ◌⊎◌, ⊎_elim, inl, inr, Bool, true, false, ◌||◌, List, [], ◌∷◌}
use Rattle.vt_spec.proofs.Common.{Among, any_among, any_from_among, any_pair, common_steps, list_any, none_among, or_false_left, or_false_right}

-- of two that differ in a list of which no pair passes
pub two_apart : {A : Type 0} (test : A → A → Bool) (xs : List A) → any_pair test xs ≡ false → (a b : A) → Among a xs
    → Among b xs → a ≢ b → (test a b ≡ false) ⊎ (test b a ≡ false)
two_apart test [] e a b m n differ = absurd m
two_apart test (x ∷ xs) e a b m n differ =
    ⊎_elim (λ (ax : a ≡ x). ⊎_elim (λ (bx : b ≡ x). absurd (differ (ax ∙ sym bx))) (λ l. inl
    (ap (λ y. test y b) ax ∙ none_among (test x) xs (or_false_left (list_any (test x) xs) (any_pair test xs) e) b l)) n)
    (λ k. ⊎_elim (λ (bx : b ≡ x). inr (ap (λ y. test y a) bx ∙ none_among (test x) xs (or_false_left _ _ e) a k))
    (λ l. two_apart test xs (or_false_right (list_any (test x) xs) (any_pair test xs) e) a b k l differ) n) m

-- no pair passes where each that does passed another test of which none does
pub no_pair_later : {A : Type 0} (test later : A → A → Bool) (xs : List A)
    → ((a b : A) → Among a xs → Among b xs → later a b ≡ true → test a b ≡ true) → any_pair test xs ≡ false
    → any_pair later xs ≡ false
no_pair_later test later [] h e = refl
no_pair_later test later (x ∷ xs) h e =
    by (list_any (later x) xs) refl (list_any (test x) xs) (any_pair test xs) refl refl e
    (λ f. no_pair_later test later xs (λ a b m n. h a b (inr m) (inr n)) f)
  where
    by : (p : Bool) → list_any (later x) xs ≡ p → (q r : Bool) → list_any (test x) xs ≡ q → any_pair test xs ≡ r
        → (q || r) ≡ false → (any_pair test xs ≡ false → any_pair later xs ≡ false) → (p || any_pair later xs) ≡ false
    by p f q r g k e rest = grind (arith, common_steps, true≢false, any_among, any_from_among)
