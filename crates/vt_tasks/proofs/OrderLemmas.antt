-- Descriptors stay in the order of their numbers.
use Rattle.std.proofs.Common.{◌≡◌, ◌≢◌, ◌≤◌, ℕ, ◌+◌, Bool, true, false, cond, List, [], ◌∷◌, nat_eq, nat_lt, refl, sym, ap, ◌∙◌, true≢false, arith, lt-ltb, le-ltb, nat_le, eqb-true, leb-true, le-leb}
use Rattle.vt_spec.proofs.Common.{Descriptor, and_from, and_true_left, and_true_right, are_ascending_from, eqb-false, free_above, free_from, inserted}

least_of_rising : (least : ℕ) (d : Descriptor ℕ) (ds : List (Descriptor ℕ)) → are_ascending_from least (d ∷ ds) ≡ true
    → least ≤ d.number
least_of_rising least d ds e = leb-true least d.number (and_true_left _ _ e)

-- under the least free number one more leaves them rising
pub rising-inserted : (new : Descriptor ℕ) (least : ℕ) (ds : List (Descriptor ℕ)) → are_ascending_from least ds ≡ true
    → free_from least ds ≡ new.number → are_ascending_from least (inserted new ds) ≡ true
rising-inserted new least [] e here = and_from (nat_le least new.number) true
    (le-leb least new.number (omega (arith, here))) refl
rising-inserted new least (d ∷ ds) e here =
    by (nat_eq d.number least) (eqb-true d.number least) (eqb-false d.number least) here (free_above (least + 1) ds)
    (λ same found. rising-inserted new (d.number + 1) ds (and_true_right _ _ e)
    (ap (λ n. free_from (n + 1) ds) same ∙ found))
  where
    put_before : least ≤ new.number → new.number + 1 ≤ d.number → (b : Bool) → b ≡ true
        → are_ascending_from least (cond b (new ∷ d ∷ ds) (d ∷ inserted new ds)) ≡ true
    put_before low high true is = and_from (nat_le least new.number) _ (le-leb least new.number low)
        (and_from (nat_le (new.number + 1) d.number) _ (le-leb (new.number + 1) d.number high) (and_true_right _ _ e))
    put_before low high false is = absurd (true≢false (sym is))

    put_behind : are_ascending_from (d.number + 1) (inserted new ds) ≡ true → (b : Bool) → b ≡ false
        → are_ascending_from least (cond b (new ∷ d ∷ ds) (d ∷ inserted new ds)) ≡ true
    put_behind rest true is = absurd (true≢false is)
    put_behind rest false is = and_from (nat_le least d.number) _ (and_true_left _ _ e) rest

    by : (b : Bool) → (b ≡ true → d.number ≡ least) → (b ≡ false → d.number ≢ least)
        → cond b (free_from (least + 1) ds) least ≡ new.number → least + 1 ≤ free_from (least + 1) ds
        → (d.number ≡ least → free_from (least + 1) ds ≡ new.number
        → are_ascending_from (d.number + 1) (inserted new ds) ≡ true)
        → are_ascending_from least (inserted new (d ∷ ds)) ≡ true
    by true same other found above rest = put_behind (rest (same refl) found) (nat_lt new.number d.number)
        (le-ltb new.number d.number (omega (arith, same refl, found, above)))
    by false same other found above rest =
        put_before (omega (arith, found)) (omega (arith, other refl, found, least_of_rising least d ds e))
        (nat_lt new.number d.number)
        (lt-ltb new.number d.number (omega (arith, other refl, found, least_of_rising least d ds e)))
