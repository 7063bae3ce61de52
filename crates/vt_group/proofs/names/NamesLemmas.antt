-- The names of groups, once some of them changed.
use Rattle.std.proofs.Common.{◌≡◌, ℕ, Bool, true, false, cond, ◌+◌, ◌<◌, ◌≤◌, List, [], ◌∷◌, ◌++◌, length, zero, suc, Option, None, Some, get_or, refl, sym, ap, ◌∙◌, arith, true≢false, slice_get, drop, take, sum_by, swap_remove, ◌||◌, Result, Ok, Err, is_ok, IsOk, length-append, ◌==◌, eqb-true, position, if◌then◌else◌, unwrap_or}
use Rattle.vt_spec.proofs.Common.{keys_of, list_any, list_any-append, lookup, or-true, same_Some, set_value, sum_by-cons, values_of}
use Rattle.std.proofs.lemmas.List.Sums.{sum_by-swap_remove}
use Rattle.indexmap.specs.IndexMap.{insert_entry, swap_remove_entry}
use Rattle.indexmap.proofs.MapLemmas.{Found-position, Missing-position, swap_remove_entry-found, swap_remove_entry-missing}
use Rattle.vt_location.specs.declared.numbers.GroupId.{GroupId}
use Rattle.vt_group.specs.Names.{Named, count_names, names_of}
use Rattle.vt_group.specs.Sets.{same_group}
use Rattle.vt_group.proofs.SetsLemmas.{same_number}

-- how many names there are

-- an entry has as many names as its list, in the place of those that the group had
pub count_inserted : (names : Named) (group : GroupId) (list : List GroupId)
    → count_names (insert_entry same_group names group list) + length (names_of names group)
    ≡ count_names names + length list
count_inserted [] group list = omega arith
count_inserted (entry ∷ names) group list = by (same_group group entry.0) (count_inserted names group list)
  where
    by : (b : Bool) → count_names (insert_entry same_group names group list) + length (names_of names group)
        ≡ count_names names + length list
        → count_names (if b then (entry.0, list) ∷ names else entry ∷ insert_entry same_group names group list)
        + length (unwrap_or (cond b (Some entry.1) (lookup (same_group group) names)) [])
        ≡ length entry.1 + count_names names + length list
    by true rest = omega arith
    by false rest = omega (arith, rest)

summed : (names : Named) → sum_by (λ entry. length entry.1) names ≡ count_names names
summed [] = refl
summed (entry ∷ names) =
    sum_by-cons (λ (e : GroupId × List GroupId). length e.1) entry names ∙ ap (λ n. length entry.1 + n) (summed names)

value_at : (names : Named) (i : ℕ) (default : GroupId × List GroupId) → i < length names
    → slice_get (values_of names) i ≡ Some (get_or names i default).1
value_at [] i default less = absurd (omega (arith, less))
value_at (entry ∷ names) zero default less = refl
value_at (entry ∷ names) (suc i) default less = value_at names i default (omega (arith, less))

-- an entry that is taken takes as many names as its list had
pub count_taken : (test : GroupId → Bool) (names : Named) (found : Option (List GroupId)) → found ≡ lookup test names
    → count_names (swap_remove_entry test names) + length (unwrap_or found []) ≡ count_names names
count_taken test names found is = by (position test (keys_of names)) refl
  where
    by : (place : Option ℕ) → position test (keys_of names) ≡ place
        → count_names (swap_remove_entry test names) + length (unwrap_or found []) ≡ count_names names
    by None at =
        let none : length (unwrap_or found []) ≡ 0 =
        ap (λ o. length (unwrap_or o [])) (is ∙ (Missing-position test names at).value) in
        omega (arith, none, ap count_names (swap_remove_entry-missing test names at))
    by (Some i) at =
        let default : GroupId × List GroupId = (record { count = 0 }, []) in
        let place = Found-position test names i at in
        let same : length (unwrap_or found []) ≡ length (get_or names i default).1 =
        ap (λ o. length (unwrap_or o [])) (is ∙ place.value ∙ value_at names i default place.within) in
        let left : count_names (swap_remove_entry test names)
        ≡ sum_by (λ entry. length entry.1) (swap_remove names i default) =
        ap count_names (swap_remove_entry-found test names i default at) ∙ sym (summed (swap_remove names i default)) in
        let removed = sum_by-swap_remove (λ (e : GroupId × List GroupId). length e.1) names i default place.within in
        omega (arith, left, removed, same, summed names)

-- and one that is written has as many as its new list
pub count_written : (test : GroupId → Bool) (names : Named) (list now : List GroupId) → lookup test names ≡ Some list
    → count_names (set_value test names now) + length list ≡ count_names names + length now
count_written test [] list now is = absurd cc
count_written test (entry ∷ names) list now is = by (test entry.0) (count_written test names list now) is
  where
    by : (b : Bool) → (lookup test names ≡ Some list
        → count_names (set_value test names now) + length list ≡ count_names names + length now)
        → cond b (Some entry.1) (lookup test names) ≡ Some list
        → count_names (cond b ((entry.0, now) ∷ names) (entry ∷ set_value test names now)) + length list
        ≡ length entry.1 + count_names names + length now
    by true later is = omega (arith, ap length (same_Some entry.1 list is))
    by false later is = omega (arith, later is)

-- a group has no more names than there are
pub names_within : (test : GroupId → Bool) (names : Named) (list : List GroupId) → lookup test names ≡ Some list
    → length list ≤ count_names names
names_within test names list is = let written = count_written test names list [] is in omega (arith, written)

-- which names a group has

module _ (old new : Named) (group : GroupId) (found : Option (List GroupId))
    (updates : (at : GroupId) → lookup (same_group at) new
    ≡ cond (same_group group at) found (lookup (same_group at) old)) where
  -- the names of a group whose entry is written are the new ones, and those of others stay
  pub names_updated : (at : GroupId)
      → names_of new at ≡ cond (same_group group at) (unwrap_or found []) (names_of old at)
  names_updated at = ap (λ o. unwrap_or o []) (updates at) ∙ by (same_group group at)
    where
      by : (b : Bool) → unwrap_or (cond b found (lookup (same_group at) old)) []
          ≡ cond b (unwrap_or found []) (names_of old at)
      by true = refl
      by false = refl

  -- other groups keep their names
  pub others_keep : (at : GroupId) (test : GroupId → Bool) → same_group group at ≡ false
      → list_any test (names_of old at) ≡ true → list_any test (names_of new at) ≡ true
  others_keep at test apart any =
      ap (list_any test) (names_updated at ∙ ap (λ b. cond b (unwrap_or found []) (names_of old at)) apart) ∙ any

  -- each group keeps what this one does
  pub one_keeps : (test : GroupId → Bool) (at : GroupId)
      → (list_any test (names_of old group) ≡ true → list_any test (unwrap_or found []) ≡ true)
      → list_any test (names_of old at) ≡ true → list_any test (names_of new at) ≡ true
  one_keeps test at so any = by (same_group group at) refl
    where
      by : (b : Bool) → same_group group at ≡ b → list_any test (names_of new at) ≡ true
      by true same =
          ap (list_any test) (names_updated at ∙ ap (λ b. cond b (unwrap_or found []) (names_of old at)) same)
          ∙ so (ap (λ (g : GroupId). list_any test (names_of old g)) (sym (same_number group at same)) ∙ any)
      by false apart = others_keep at test apart any

  -- this group has what its new names have
  pub one_has : (test : GroupId → Bool) → list_any test (unwrap_or found []) ≡ true
      → list_any test (names_of new group) ≡ true
  one_has test any = ap (list_any test) (names_updated group
      ∙ ap (λ b. cond b (unwrap_or found []) (names_of old group)) (Rattle.std.proofs.Common.eq-eqb group.count group.count refl))
      ∙ any

-- an empty list has nothing to keep
pub none_kept : (list : List GroupId) (now : List GroupId) (test : GroupId → Bool) → list ≡ []
    → list_any test list ≡ true → list_any test now ≡ true
none_kept list now test empty any = absurd (true≢false (sym any ∙ ap (list_any test) empty))

-- names under which nothing is kept are dropped from a list of them, which may become empty

module _ (old mid : Named) (group : GroupId) (was now : List GroupId) (found : Some was ≡ lookup (same_group group) old)
    (updates : (at : GroupId) → lookup (same_group at) mid
    ≡ cond (same_group group at) (Some now) (lookup (same_group at) old))
    (test : GroupId → Bool) (so : list_any test was ≡ true → list_any test now ≡ true) where
  -- what is named stays so where what is not used goes
  pub shorter_keeps : (at : GroupId) → list_any test (names_of old at) ≡ true → list_any test (names_of mid at) ≡ true
  shorter_keeps at = one_keeps old mid group (Some now) updates test at
      (λ any. so (ap (λ o. list_any test (unwrap_or o [])) found ∙ any))

  -- and where the entry of a group without names goes
  pub empty_keeps : now ≡ [] → (new : Named) → ((at : GroupId) (test : GroupId → Bool) → same_group group at ≡ false
      → list_any test (names_of mid at) ≡ true → list_any test (names_of new at) ≡ true)
      → (at : GroupId) → list_any test (names_of old at) ≡ true → list_any test (names_of new at) ≡ true
  empty_keeps empty new others at any = by (same_group group at) refl
    where
      by : (b : Bool) → same_group group at ≡ b → list_any test (names_of new at) ≡ true
      by true same = none_kept (names_of mid at) (names_of new at) test
          (names_updated old mid group (Some now) updates at ∙ ap (λ b. cond b now (names_of old at)) same ∙ empty)
          (shorter_keeps at any)
      by false apart = others at test apart (shorter_keeps at any)

-- a list that was appended to another, if that did not fail

-- names are those of both lists where the step succeeds
pub all_of_both : {T E : Type 0} (own list now : List GroupId) (r : Result T E)
    → now ≡ (if is_ok r then own ++ list else own) → IsOk r → now ≡ own ++ list
all_of_both own list now (Ok t) is ok = is
all_of_both own list now (Err e) is ok = absurd (true≢false (sym ok))

-- what passes in the second list passes in both
pub any_of_second : (test : GroupId → Bool) (own list : List GroupId) → list_any test list ≡ true
    → list_any test (own ++ list) ≡ true
any_of_second test own list any = list_any-append test own list ∙ ap (λ b. list_any test own || b) any
    ∙ or-true (list_any test own)

-- what passes in the first list passes in what is left
pub any_of_first : {T E : Type 0} (test : GroupId → Bool) (own list now : List GroupId) (r : Result T E)
    → now ≡ (if is_ok r then own ++ list else own) → list_any test own ≡ true → list_any test now ≡ true
any_of_first test own list now (Ok t) is any =
    ap (list_any test) is ∙ list_any-append test own list ∙ ap (λ b. b || list_any test list) any
any_of_first test own list now (Err e) is any = ap (list_any test) is ∙ any

-- a list whose first name goes to its back
pub any_turned : (test : GroupId → Bool) (list : List GroupId) → list_any test list ≡ true
    → list_any test (drop 1 list ++ take 1 list) ≡ true
any_turned test [] any = any
any_turned test (name ∷ list) any = list_any-append test list (name ∷ []) ∙ by (test name) any
  where
    by : (b : Bool) → (b || list_any test list) ≡ true → (list_any test list || (b || false)) ≡ true
    by true any = or-true (list_any test list)
    by false any = ap (λ t. t || false) any

-- a list of length zero is empty
pub nil_from_none : (list : List GroupId) → (length list == 0) ≡ true → list ≡ []
nil_from_none [] none = refl
nil_from_none (name ∷ list) none = absurd (omega (arith, eqb-true (length (name ∷ list)) 0 none))
