-- What passes a test is taken out of a list, and the first such item is given back.
use Rattle.std.proofs.Common.{◌≡◌, refl, sym, ap, ◌∙◌, ℕ, Bool, true, false, cond, not, List, [], ◌∷◌, ◌++◌, length, filter, find, Some, None}
use Rattle.std.specs.List.{list_any, position, remove}
use Rattle.std.specs.Prelude.{slice_index_or}
use Rattle.std.proofs.lemmas.List.{get_or_at}
use Rattle.vt_spec.proofs.Common.{filter-append, or_parts}
use Rattle.vt_queues.proofs.Places.{found, none_found}

module _ {A : Type 0} (test : A → Bool) where
  abbrev fails : A → Bool
  fails a = not (test a)

  found_behind : (front : List A) (one : A) (back : List A) → list_any test front ≡ false → test one ≡ true
      → find test (front ++ one ∷ back) ≡ Some one
  found_behind [] one back none passes = ap (λ b. cond b (Some one) (find test back)) passes
  found_behind (a ∷ front) one back none passes =
      let parts = or_parts (test a) (list_any test front) none in
      ap (λ b. cond b (Some a) (find test (front ++ one ∷ back))) parts.0
      ∙ found_behind front one back parts.1 passes

  -- the first one is given back,
  pub taken_found : (list : List A) (place : ℕ) → position test list ≡ Some place → (one : A)
      → one ≡ slice_index_or list place one → Some one ≡ find test list
  taken_found list place e one at =
      let first = found test list place e in
      ap Some (at ∙ ap (λ (l : List A). slice_index_or l place one) first.is
      ∙ get_or_at first.front first.one first.back one place first.at)
      ∙ sym (found_behind first.front first.one first.back first.before first.passes)
      ∙ ap (find test) (sym first.is)

  one_less : (one : A) (back : List A) → test one ≡ true → filter fails (one ∷ back) ≡ filter fails back
  one_less one back passes = ap (λ b. cond (not b) (one ∷ filter fails back) (filter fails back)) passes

  -- and without it the same others are left.
  pub taken_left : (list : List A) (place : ℕ) → position test list ≡ Some place
      → filter fails (remove list place) ≡ filter fails list
  taken_left list place e =
      let first = found test list place e in
      ap (λ (l : List A). filter fails (remove l place)) first.is
      ∙ ap (λ n. filter fails (remove (first.front ++ first.one ∷ first.back) n)) (sym first.at)
      ∙ ap (filter fails) (removed_behind first.front first.one first.back)
      ∙ filter-append fails first.front first.back
      ∙ ap (λ l. filter fails first.front ++ l) (sym (one_less first.one first.back first.passes))
      ∙ sym (filter-append fails first.front (first.one ∷ first.back))
      ∙ ap (filter fails) (sym first.is)
    where
      removed_behind : (front : List A) (one : A) (back : List A)
          → remove (front ++ one ∷ back) (length front) ≡ front ++ back
      removed_behind [] one back = refl
      removed_behind (a ∷ front) one back = ap (λ l. a ∷ l) (removed_behind front one back)

  none_passes : (list : List A) → list_any test list ≡ false → None ≡ find test list
  none_passes [] none = refl
  none_passes (a ∷ list) none =
      let parts = or_parts (test a) (list_any test list) none in
      none_passes list parts.1 ∙ ap (λ b. cond b (Some a) (find test list)) (sym parts.0)

  all_fail : (list : List A) → list_any test list ≡ false → list ≡ filter fails list
  all_fail [] none = refl
  all_fail (a ∷ list) none =
      let parts = or_parts (test a) (list_any test list) none in
      ap (λ l. a ∷ l) (all_fail list parts.1)
      ∙ ap (λ b. cond (not b) (a ∷ filter fails list) (filter fails list)) (sym parts.0)

  -- Where there is none, nothing is.
  pub none_taken : (list : List A) → position test list ≡ None → None ≡ find test list
  none_taken list e = none_passes list (none_found test list e)

  pub all_left : (list : List A) → position test list ≡ None → list ≡ filter fails list
  all_left list e = all_fail list (none_found test list e)
