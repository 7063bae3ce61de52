-- Lists from a place on, as loops go through them.
use Rattle.std.proofs.Common.{Bool, List, arith, ◌∷◌, ◌≡◌, ◌+◌, ◌<◌, ◌≤◌, ◌&&◌, ◌||◌, ap, drop, false, get_or, length, subst, sym, true, true≢false, ℕ, ◌∙◌}
use Rattle.std.proofs.lemmas.List.{at_drop_all, at_drop_more}
use Rattle.std.proofs.lemmas.List.Sums.{prefix_len_passes, prefix_len_stops}
use Rattle.std.specs.List.{list_all, list_any, prefix_len}

-- the next element fails the test, or passes it
pub any-next : {A : Type 0} (test : A → Bool) (xs : List A) (n : ℕ) (x : A) → (n < length xs) × (x ≡ get_or xs n x)
    → list_any test (drop n xs) ≡ (test x || list_any test (drop (n + 1) xs))
any-next test xs n x is = at_drop_more (list_any test) xs n x is.0
    ∙ ap (λ first. list_any test (first ∷ drop (n + 1) xs)) (sym is.1)

pub all-next : {A : Type 0} (test : A → Bool) (xs : List A) (n : ℕ) (x : A) → (n < length xs) × (x ≡ get_or xs n x)
    → list_all test (drop n xs) ≡ (test x && list_all test (drop (n + 1) xs))
all-next test xs n x is = at_drop_more (list_all test) xs n x is.0
    ∙ ap (λ first. list_all test (first ∷ drop (n + 1) xs)) (sym is.1)

pub any-end : {A : Type 0} (test : A → Bool) (xs : List A) (n : ℕ) → length xs ≤ n → list_any test (drop n xs) ≡ false
any-end test xs n all = at_drop_all (list_any test) xs n all

pub all-end : {A : Type 0} (test : A → Bool) (xs : List A) (n : ℕ) → length xs ≤ n → list_all test (drop n xs) ≡ true
all-end test xs n all = at_drop_all (list_all test) xs n all

-- Up to a place all pass a test, and there it fails, or is passed once more
pub stops-here : {A : Type 0} (test : A → Bool) (xs : List A) (n : ℕ) (d : A) → n ≤ prefix_len test xs
    → test (get_or xs n d) ≡ false → prefix_len test xs ≡ n
stops-here test xs n d before fails =
    let passes : n < prefix_len test xs → ⊥ = λ more. true≢false (sym (prefix_len_passes test xs n d more) ∙ fails) in
    omega (arith, passes)

pub goes-on : {A : Type 0} (test : A → Bool) (xs : List A) (n : ℕ) (d : A) → n ≤ prefix_len test xs → n < length xs
    → test (get_or xs n d) ≡ true → n + 1 ≤ prefix_len test xs
goes-on test xs n d before there passes =
    let stops : prefix_len test xs ≡ n → ⊥ = λ here.
    true≢false (sym passes ∙ (λ i. test (get_or xs (sym here i) d))
    ∙ prefix_len_stops test xs d (subst (λ m. m < length xs) (sym here) there)) in
    omega (arith, stops)
