-- The mounts that receive from a group, in order of attachment.
use Rattle.std.proofs.Common.{◌≡◌, ℕ, Bool, true, false, cond, List, [], ◌∷◌, ◌||◌, map, nat_eq, nat_lt, Some, option_map, refl, sym, ap, ◌∙◌, true≢false, arith, eq-eqb, lt-ltb, ne_eqb, eqb-true, ltb-true, ltb-false, nat_cmp, Less, unwrap_or}
use Rattle.vt_spec.proofs.Common.{AllByRecursion, Private, and_from, and_parts, holds_of, keys_of, list_all, list_any, lookup, sorted_head, sorted_tail, source_of}
use Rattle.std.specs.BTreeMap.{is_at}
use Rattle.std.specs.List.Sorted.{IsStrictlySortedBy}
use Rattle.vt_location.specs.declared.mounts.Propagation.{Propagation}
use Rattle.vt_location.specs.declared.numbers.MountId.{MountId}
use Rattle.vt_location.specs.MountValue.{propagation_of}
use Rattle.vt_location.specs.Numbers.{counted}
use Rattle.vt_group.specs.Grouping.{are_rising}
use Rattle.vt_group.specs.Receiving.{is_noted, receivers_from}
use Rattle.vt_group.specs.Steps.{numbered_peer}
use Rattle.vt_group.proofs.CountLemmas.{lookup-numbered}
use Rattle.vt_group.proofs.EndedTypes.{less_nat}
use Rattle.vt_group.proofs.Invariant.{at_nat}

-- Numbers that rise

-- a number that all are above is none of them
none_above : (number : ℕ) (numbers : List ℕ) → list_all (nat_lt number) numbers ≡ true
    → list_any (nat_eq number) numbers ≡ false
none_above number [] above = refl
none_above number (other ∷ numbers) above =
    let parts = and_parts (nat_lt number other) (list_all (nat_lt number) numbers) above in
    ap (λ b. b || list_any (nat_eq number) numbers)
    (ne_eqb number other (λ same. omega (arith, same, ltb-true number other parts.0)))
    ∙ none_above number numbers parts.1

further : (low high : ℕ) (numbers : List ℕ) → nat_lt low high ≡ true → list_all (nat_lt high) numbers ≡ true
    → list_all (nat_lt low) numbers ≡ true
further low high [] less above = refl
further low high (other ∷ numbers) less above =
    let parts = and_parts (nat_lt high other) (list_all (nat_lt high) numbers) above in
    and_from _ _ (lt-ltb low other (omega (arith, ltb-true low high less, ltb-true high other parts.0)))
    (further low high numbers less parts.1)

-- a number below the first of them is none of them
none_lower : (low first : ℕ) (numbers : List ℕ) → nat_lt low first ≡ true → list_all (nat_lt first) numbers ≡ true
    → list_any (nat_eq low) (first ∷ numbers) ≡ false
none_lower low first numbers less above =
    none_above low (first ∷ numbers) (and_from _ _ less (further low first numbers less above))

first_among : (number : ℕ) (numbers : List ℕ) → list_any (nat_eq number) (number ∷ numbers) ≡ true
first_among number numbers = ap (λ b. b || list_any (nat_eq number) numbers) (eq-eqb number number refl)

-- of two lists that rise and have the same numbers, the rests have the same
same_rest : (first number : ℕ) (xs ys : List ℕ) → list_all (nat_lt first) xs ≡ true → list_all (nat_lt first) ys ≡ true
    → list_any (nat_eq number) (first ∷ xs) ≡ list_any (nat_eq number) (first ∷ ys)
    → list_any (nat_eq number) xs ≡ list_any (nat_eq number) ys
same_rest first number xs ys above above_too same = by (nat_eq number first) refl same
  where
    none : (numbers : List ℕ) → nat_eq number first ≡ true → list_all (nat_lt first) numbers ≡ true
        → list_any (nat_eq number) numbers ≡ false
    none numbers is all = ap (λ n. list_any (nat_eq n) numbers) (eqb-true number first is) ∙ none_above first numbers all

    by : (b : Bool) → nat_eq number first ≡ b → (b || list_any (nat_eq number) xs) ≡ (b || list_any (nat_eq number) ys)
        → list_any (nat_eq number) xs ≡ list_any (nat_eq number) ys
    by true is e = none xs is above ∙ sym (none ys is above_too)
    by false apart e = e

-- lists that rise and have the same numbers are the same
same_numbers : (xs ys : List ℕ) → are_rising xs ≡ true → are_rising ys ≡ true
    → ((number : ℕ) → list_any (nat_eq number) xs ≡ list_any (nat_eq number) ys) → xs ≡ ys
same_numbers [] [] rising rising_too same = refl
same_numbers [] (y ∷ ys) rising rising_too same = absurd (true≢false (sym (same y ∙ first_among y ys)))
same_numbers (x ∷ xs) [] rising rising_too same = absurd (true≢false (sym (first_among x xs) ∙ same x))
same_numbers (x ∷ xs) (y ∷ ys) rising rising_too same =
    by (nat_lt x y) refl (nat_lt y x) refl (same_numbers xs ys rx.1 ry.1)
  where
    rx : (list_all (nat_lt x) xs ≡ true) × (are_rising xs ≡ true)
    rx = and_parts _ _ rising

    ry : (list_all (nat_lt y) ys ≡ true) × (are_rising ys ≡ true)
    ry = and_parts _ _ rising_too

    by : (a : Bool) → nat_lt x y ≡ a → (b : Bool) → nat_lt y x ≡ b
        → (((number : ℕ) → list_any (nat_eq number) xs ≡ list_any (nat_eq number) ys) → xs ≡ ys) → x ∷ xs ≡ y ∷ ys
    by true less b e later = absurd (true≢false (sym (first_among x xs) ∙ same x ∙ none_lower x y ys less ry.0))
    by false e true less later =
        absurd (true≢false (sym (first_among y ys) ∙ sym (same y) ∙ none_lower y x xs less rx.0))
    by false e false f later =
        let is : x ≡ y = omega (arith, ltb-false x y e, ltb-false y x f) in
        let above = ap (λ n. list_all (nat_lt n) ys) is ∙ ry.0 in
        (λ i. is i ∷ later (λ number. same_rest x number xs ys rx.0 above
        (same number ∙ ap (λ n. list_any (nat_eq number) (n ∷ ys)) (sym is))) i)

rises : (numbers : List ℕ) → IsStrictlySortedBy nat_cmp numbers → are_rising numbers ≡ true
rises [] sorted = refl
rises (number ∷ numbers) sorted = and_from _ _ (above numbers (sorted_head nat_cmp number numbers sorted))
    (rises numbers (sorted_tail nat_cmp number numbers sorted))
  where
    above : (others : List ℕ) → AllByRecursion (λ other. nat_cmp number other ≡ Less) others
        → list_all (nat_lt number) others ≡ true
    above [] all = refl
    above (other ∷ others) all = and_from _ _ (less_nat number other all.0) (above others all.1)

-- Mounts that receive from one of some groups

module _ (found : ℕ → Bool) where
  abbrev receives : Propagation → Bool
  receives kind = holds_of found (source_of (propagation_of kind))

  -- the counts of those that do
  counts_from : List (ℕ × Propagation) → List ℕ
  counts_from [] = []
  counts_from (e ∷ es) = cond (receives e.1) (e.0 ∷ counts_from es) (counts_from es)

  receivers_counted : (es : List (ℕ × Propagation))
      → map counted (counts_from es) ≡ receivers_from found (map numbered_peer es)
  unfolding counts_from
  receivers_counted [] = refl
  receivers_counted (e ∷ es) = by (receives e.1) (receivers_counted es)
    where
      by : (b : Bool) → map counted (counts_from es) ≡ receivers_from found (map numbered_peer es)
          → map counted (cond b (e.0 ∷ counts_from es) (counts_from es))
          ≡ cond b (counted e.0 ∷ receivers_from found (map numbered_peer es))
          (receivers_from found (map numbered_peer es))
      by true rest = ap (λ l. counted e.0 ∷ l) rest
      by false rest = rest

  above_counts : (low : ℕ) (es : List (ℕ × Propagation)) → list_all (nat_lt low) (keys_of es) ≡ true
      → list_all (nat_lt low) (counts_from es) ≡ true
  unfolding counts_from
  above_counts low [] above = refl
  above_counts low (e ∷ es) above =
      let parts = and_parts (nat_lt low e.0) (list_all (nat_lt low) (keys_of es)) above in
      by (receives e.1) parts.0 (above_counts low es parts.1)
    where
      by : (b : Bool) → nat_lt low e.0 ≡ true → list_all (nat_lt low) (counts_from es) ≡ true
          → list_all (nat_lt low) (cond b (e.0 ∷ counts_from es) (counts_from es)) ≡ true
      by true less rest = and_from _ _ less rest
      by false less rest = rest

  counts_rise : (es : List (ℕ × Propagation)) → are_rising (keys_of es) ≡ true → are_rising (counts_from es) ≡ true
  unfolding counts_from
  counts_rise [] rising = refl
  counts_rise (e ∷ es) rising =
      let parts = and_parts (list_all (nat_lt e.0) (keys_of es)) (are_rising (keys_of es)) rising in
      by (receives e.1) (above_counts e.0 es parts.0) (counts_rise es parts.1)
    where
      by : (b : Bool) → list_all (nat_lt e.0) (counts_from es) ≡ true → are_rising (counts_from es) ≡ true
          → are_rising (cond b (e.0 ∷ counts_from es) (counts_from es)) ≡ true
      by true above rest = and_from _ _ above rest
      by false above rest = rest

  counts_found : (count : ℕ) (es : List (ℕ × Propagation)) → are_rising (keys_of es) ≡ true
      → list_any (nat_eq count) (counts_from es)
      ≡ holds_of found (source_of (unwrap_or (option_map propagation_of (lookup (is_at (nat_cmp count)) es)) Private))
  unfolding counts_from
  counts_found count [] rising = refl
  counts_found count (e ∷ es) rising =
      let parts = and_parts (list_all (nat_lt e.0) (keys_of es)) (are_rising (keys_of es)) rising in
      by (nat_eq count e.0) refl (receives e.1) refl (above_counts e.0 es parts.0) (counts_found count es parts.1)
      ∙ ap (λ b. holds_of found (source_of (unwrap_or (option_map propagation_of
      (cond b (Some e.1) (lookup (is_at (nat_cmp count)) es))) Private))) (sym (at_nat count e.0))
    where
      by : (b : Bool) → nat_eq count e.0 ≡ b → (r : Bool) → receives e.1 ≡ r
          → list_all (nat_lt e.0) (counts_from es) ≡ true → list_any (nat_eq count) (counts_from es)
          ≡ holds_of found (source_of (unwrap_or (option_map propagation_of
          (lookup (is_at (nat_cmp count)) es)) Private))
          → list_any (nat_eq count) (cond r (e.0 ∷ counts_from es) (counts_from es))
          ≡ holds_of found (source_of (unwrap_or (option_map propagation_of
          (cond b (Some e.1) (lookup (is_at (nat_cmp count)) es))) Private))
      by true is true r above rest = ap (λ b. b || list_any (nat_eq count) (counts_from es)) is ∙ sym r
      by true is false r above rest = ap (λ n. list_any (nat_eq n) (counts_from es)) (eqb-true count e.0 is)
          ∙ none_above e.0 (counts_from es) above ∙ sym r
      by false apart true r above rest = ap (λ b. b || list_any (nat_eq count) (counts_from es)) apart ∙ rest
      by false apart false r above rest = rest

-- the counts of mounts

noted_counts : (count : ℕ) (ids : List MountId) → is_noted ids count ≡ list_any (nat_eq count) (map (λ id. id.count) ids)
noted_counts count [] = refl
noted_counts count (id ∷ ids) = ap (λ b. nat_eq count id.count || b) (noted_counts count ids)

counted_counts : (ids : List MountId) → map (λ id. counted id.count) ids ≡ map counted (map (λ id. id.count) ids)
counted_counts [] = refl
counted_counts (id ∷ ids) = ap (λ l. counted id.count ∷ l) (counted_counts ids)

-- mounts in order of attachment that are just those which receive are the receivers
pub receivers_noted : (found : ℕ → Bool) (es : List (ℕ × Propagation)) (ids : List MountId)
    → IsStrictlySortedBy nat_cmp (keys_of es) → IsStrictlySortedBy nat_cmp (map (λ id. id.count) ids)
    → ((count : ℕ) → is_noted ids count
    ≡ holds_of found (source_of (unwrap_or (lookup (nat_eq (counted count)) (map numbered_peer es)) Private)))
    → map (λ id. counted id.count) ids ≡ receivers_from found (map numbered_peer es)
receivers_noted found es ids sorted sorted_too noted =
    let rising = rises (keys_of es) sorted in
    counted_counts ids ∙ ap (map counted) (same_numbers (map (λ id. id.count) ids) (counts_from found es)
    (rises (map (λ id. id.count) ids) sorted_too) (counts_rise found es rising)
    (λ count. sym (noted_counts count ids) ∙ noted count
    ∙ ap (λ kind. holds_of found (source_of (unwrap_or kind Private))) (lookup-numbered propagation_of count es)
    ∙ sym (counts_found found count es rising))) ∙ receivers_counted found es
