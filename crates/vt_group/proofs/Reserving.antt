-- A map in which room is reserved: what a change of its places does to the values.
use Rattle.std.proofs.Common.{◌≡◌, ℕ, Bool, true, false, cond, T, List, [], ◌∷◌, ◌||◌, Option, None, Some, is_some, nat_eq, refl, sym, ap, subst, ◌∙◌, eqb-true, is_eq, is_lt, nat_cmp, Ordering, Equal, Greater, Less}
use Rattle.vt_spec.proofs.Common.{AllByRecursion, T_and, T_and_left, T_and_right, below_all, find-put, insert_entry, is_sorted, is_sorted-put, keys_of, list_any, lookup, match_ordering, nat_cmp-IsAntisymmetric, nat_cmp_total, nat_eq-swapped, option_flatten, put, remove_entry, same_entries}
use Rattle.std.proofs.lemmas.Cmp.{eq_by_cmp_equiv}
use Rattle.std.proofs.lemmas.Map.{lookup-remove_entry}
use Rattle.std.proofs.lemmas.Map.Keys.{IsDistinct-from_sorted}
use Rattle.std.specs.BTreeMap.{is_at}
use Rattle.std.specs.FinMap.Entries.{find}
use Rattle.std.specs.List.Sorted.{IsStrictlySortedBy}
use Rattle.vt_location.specs.InOrder.{in_order_by}
use Rattle.vt_location.proofs.OrderLemmas as kept
use Rattle.vt_group.specs.ByNumber.{entries_of, has_room, values_of}
use Rattle.vt_group.proofs.Invariant.{at_nat}

-- each number of these is above that one
abbrev Above : {X : Type 0} → ℕ → List (ℕ × X) → Type 0
Above number es = AllByRecursion (λ other. nat_cmp number other ≡ Less) (keys_of es)

abbrev Ordered : {X : Type 0} → List (ℕ × X) → Type 0
Ordered es = IsStrictlySortedBy nat_cmp (keys_of es)

-- the numbers rise, as a test says
abbrev Rises : {X : Type 0} → List (ℕ × X) → Type 0
Rises es = T (is_sorted nat_cmp es)

-- the test of a number
abbrev here : ℕ → ℕ → Bool
here number = is_at (nat_cmp number)

-- the places in the order of their numbers
abbrev in_turn : {X : Type 0} → List (ℕ × X) → List (ℕ × X)
in_turn places = in_order_by (λ number. number) places

same_number : (a b : ℕ) → is_at (nat_cmp a) b ≡ true → a ≡ b
same_number a b is = eqb-true a b (sym (at_nat a b) ∙ is)

here-swapped : (a b : ℕ) → here a b ≡ here b a
here-swapped a b = at_nat a b ∙ sym (nat_eq-swapped a b (nat_eq a b) refl) ∙ sym (at_nat b a)

less : (o : Ordering) → T (is_lt o) → o ≡ Less
less Less is = refl
less Equal is = absurd is
less Greater is = absurd is

-- Entries whose numbers rise

module _ {X : Type 0} where
  above_all : (number : ℕ) (es : List (ℕ × X)) → T (below_all nat_cmp number es) → Above number es
  above_all number [] below = tt
  above_all number (e ∷ es) below =
      (less (nat_cmp number e.0) (T_and_left _ _ below), above_all number es (T_and_right _ _ below))

  ordered : (es : List (ℕ × X)) → Rises es → Ordered es
  unfolding IsStrictlySortedBy
  ordered [] rising = tt
  ordered (e ∷ es) rising = (above_all e.0 es (T_and_left _ _ rising), ordered es (T_and_right _ _ rising))

  found_here : (number : ℕ) (es : List (ℕ × X)) → find nat_cmp number es ≡ lookup (here number) es
  found_here number [] = refl
  found_here number (e ∷ es) = ap (cond (here number e.0) (Some e.1)) (found_here number es)

  -- those that rise and find the same are the same
  same_found : (es fs : List (ℕ × X)) → Rises es → Rises fs
      → ((number : ℕ) → lookup (here number) es ≡ lookup (here number) fs) → es ≡ fs
  same_found es fs rising rising_too same =
      same_entries nat_cmp nat_cmp_total nat_cmp-IsAntisymmetric es fs rising rising_too
      (λ number. found_here number es ∙ same number ∙ sym (found_here number fs))

  put_is : (number : ℕ) (value : X) (es : List (ℕ × X)) → put nat_cmp number value es ≡ insert_entry nat_cmp es number value
  put_is number value [] = refl
  put_is number value (e ∷ es) = by (nat_cmp number e.0) (put_is number value es)
    where
      by : (o : Ordering) → put nat_cmp number value es ≡ insert_entry nat_cmp es number value
          → Rattle.std.specs.FinMap.Entries.by_order o ((number, value) ∷ e ∷ es) ((e.0, value) ∷ es)
          (e ∷ put nat_cmp number value es)
          ≡ match_ordering o ((number, value) ∷ e ∷ es) ((e.0, value) ∷ es) (e ∷ insert_entry nat_cmp es number value)
      by Less rest = refl
      by Equal rest = refl
      by Greater rest = ap (λ l. e ∷ l) rest

  rises_put : (number : ℕ) (value : X) (es : List (ℕ × X)) → Rises es → Rises (insert_entry nat_cmp es number value)
  rises_put number value es rising =
      subst Rises (put_is number value es) (is_sorted-put nat_cmp nat_cmp_total number value es rising)

  found_put : (number : ℕ) (value : X) (es : List (ℕ × X)) (other : ℕ)
      → lookup (here other) (insert_entry nat_cmp es number value)
      ≡ cond (here number other) (Some value) (lookup (here other) es)
  found_put number value es other = ap (lookup (here other)) (sym (put_is number value es))
      ∙ sym (found_here other (put nat_cmp number value es)) ∙ find-put nat_cmp nat_cmp_total other number value es
      ∙ (λ i. cond (here-swapped other number i) (Some value) (found_here other es i))

  below_left : (low number : ℕ) (es : List (ℕ × X)) → T (below_all nat_cmp low es)
      → T (below_all nat_cmp low (remove_entry (here number) es))
  below_left low number [] below = tt
  below_left low number (e ∷ es) below = by (here number e.0) (below_left low number es (T_and_right _ _ below))
    where
      by : (b : Bool) → T (below_all nat_cmp low (remove_entry (here number) es))
          → T (below_all nat_cmp low (cond b es (e ∷ remove_entry (here number) es)))
      by true rest = T_and_right _ _ below
      by false rest = T_and _ _ (T_and_left _ _ below) rest

  rises_left : (number : ℕ) (es : List (ℕ × X)) → Rises es → Rises (remove_entry (here number) es)
  rises_left number [] rising = tt
  rises_left number (e ∷ es) rising = by (here number e.0) (rises_left number es (T_and_right _ _ rising))
    where
      by : (b : Bool) → Rises (remove_entry (here number) es) → Rises (cond b es (e ∷ remove_entry (here number) es))
      by true rest = T_and_right _ _ rising
      by false rest = T_and _ _ (below_left e.0 number es (T_and_left _ _ rising)) rest

  found_left : (number : ℕ) (es : List (ℕ × X)) → Rises es → (other : ℕ)
      → lookup (here other) (remove_entry (here number) es) ≡ cond (here number other) None (lookup (here other) es)
  found_left number es rising other = lookup-remove_entry (eq_by_cmp_equiv nat_cmp_total) (here number)
      (λ x y is. ap (λ n. here n y) (same_number number x is)) other es
      (IsDistinct-from_sorted nat_cmp (keys_of es) (ordered es rising))

  -- a number is among the keys where it is found
  among_keys : (number : ℕ) (es : List (ℕ × X))
      → list_any (here number) (keys_of es) ≡ is_some (lookup (here number) es)
  among_keys number [] = refl
  among_keys number (e ∷ es) = by (here number e.0) (among_keys number es)
    where
      by : (b : Bool) → list_any (here number) (keys_of es) ≡ is_some (lookup (here number) es)
          → (b || list_any (here number) (keys_of es)) ≡ is_some (cond b (Some e.1) (lookup (here number) es))
      by true rest = refl
      by false rest = rest

  not_found : (number : ℕ) (es : List (ℕ × X)) → Above number es → lookup (here number) es ≡ None
  not_found number [] above = refl
  not_found number (e ∷ es) above =
      ap (λ o. cond (is_eq o) (Some e.1) (lookup (here number) es)) above.0 ∙ not_found number es above.1

  -- the places in their order find what they find in any
  found_in_turn : (number : ℕ) (es : List (ℕ × X)) → lookup (here number) (in_turn es) ≡ lookup (nat_eq number) es
  found_in_turn number es =
      (λ i. lookup (λ other. at_nat number other i) (in_turn es)) ∙ kept.looked-in_order (λ number. number) number es

  rises_in_turn : (es : List (ℕ × X)) → Rises (in_turn es)
  rises_in_turn es = kept.rises-in_order (λ number. number) es

-- Places and their values

module _ {V : Type 0} where
  below_values : (low : ℕ) (es : List (ℕ × Option V)) → T (below_all nat_cmp low es)
      → T (below_all nat_cmp low (entries_of es))
  below_values low [] below = tt
  below_values low (e ∷ es) below = by e.1 (below_values low es (T_and_right _ _ below))
    where
      by : (value : Option V) → T (below_all nat_cmp low (entries_of es))
          → T (below_all nat_cmp low (entries_of ((e.0, value) ∷ es)))
      by None rest = rest
      by (Some value) rest = T_and _ _ (T_and_left _ _ below) rest

  rises_values : (es : List (ℕ × Option V)) → Rises es → Rises (entries_of es)
  rises_values [] rising = tt
  rises_values (e ∷ es) rising = by e.1 (rises_values es (T_and_right _ _ rising))
    where
      by : (value : Option V) → Rises (entries_of es) → Rises (entries_of ((e.0, value) ∷ es))
      by None rest = rest
      by (Some value) rest = T_and _ _ (below_values e.0 es (T_and_left _ _ rising)) rest

  value_in_turn : (number : ℕ) (es : List (ℕ × Option V)) → Rises es
      → lookup (here number) (entries_of es) ≡ option_flatten (lookup (here number) es)
  value_in_turn number [] rising = refl
  value_in_turn number (e ∷ es) rising = by (here number e.0) refl e.1 (value_in_turn number es (T_and_right _ _ rising))
    where
      after : here number e.0 ≡ true → lookup (here number) (entries_of es) ≡ None
      after is = ap (λ n. lookup (here n) (entries_of es)) (same_number number e.0 is)
          ∙ not_found e.0 (entries_of es) (above_all e.0 (entries_of es) (below_values e.0 es (T_and_left _ _ rising)))

      by : (b : Bool) → here number e.0 ≡ b → (value : Option V)
          → lookup (here number) (entries_of es) ≡ option_flatten (lookup (here number) es)
          → lookup (here number) (entries_of ((e.0, value) ∷ es))
          ≡ option_flatten (cond b (Some value) (lookup (here number) es))
      by true is None rest = after is
      by true is (Some value) rest = ap (λ b. cond b (Some value) (lookup (here number) (entries_of es))) is
      by false is None rest = rest
      by false is (Some value) rest = ap (λ b. cond b (Some value) (lookup (here number) (entries_of es))) is ∙ rest

  rises_all : (es : List (ℕ × Option V)) → Rises (values_of es)
  rises_all es = rises_values (in_turn es) (rises_in_turn es)

  -- the numbers of values ascend
  pub values_ascend : (es : List (ℕ × Option V)) → Ordered (values_of es)
  values_ascend es = ordered (values_of es) (rises_all es)

  -- the value of a number is that of its place
  pub value_found : (number : ℕ) (es : List (ℕ × Option V))
      → lookup (here number) (values_of es) ≡ option_flatten (lookup (nat_eq number) es)
  value_found number es =
      value_in_turn number (in_turn es) (rises_in_turn es) ∙ ap option_flatten (found_in_turn number es)

  -- there is room for the value of a number that has a place
  pub room_found : (number : ℕ) (es : List (ℕ × Option V))
      → has_room (record { entries = values_of es; room = keys_of es }) number ≡ is_some (lookup (nat_eq number) es)
  room_found number es = (λ i. is_some (value_found number es i)
      || (among_keys number es ∙ ap is_some (λ j. lookup (λ other. at_nat number other j) es)) i)
      ∙ by (lookup (nat_eq number) es)
    where
      by : (place : Option (Option V)) → (is_some (option_flatten place) || is_some place) ≡ is_some place
      by None = refl
      by (Some None) = refl
      by (Some (Some value)) = refl

  module _ (number : ℕ) (old new : List (ℕ × Option V)) (place : Option (Option V))
      (updates : (other : ℕ) → lookup (nat_eq other) new
      ≡ cond (nat_eq number other) place (lookup (nat_eq other) old)) where
    -- what the values are once a place is changed
    pub values_updated : (other : ℕ) → lookup (here other) (values_of new)
        ≡ cond (here number other) (option_flatten place) (lookup (here other) (values_of old))
    values_updated other = value_found other new ∙ ap option_flatten (updates other) ∙ by (nat_eq number other)
        ∙ (λ i. cond (sym (at_nat number other) i) (option_flatten place) (sym (value_found other old) i))
      where
        by : (b : Bool) → option_flatten (cond b place (lookup (nat_eq other) old))
            ≡ cond b (option_flatten place) (option_flatten (lookup (nat_eq other) old))
        by true = refl
        by false = refl

    -- a place that is filled puts in its value
    pub values_set : (value : V) → option_flatten place ≡ Some value
        → values_of new ≡ insert_entry nat_cmp (values_of old) number value
    values_set value is = same_found (values_of new) (insert_entry nat_cmp (values_of old) number value) (rises_all new)
        (rises_put number value (values_of old) (rises_all old))
        (λ other. values_updated other ∙ ap (λ o. cond (here number other) o (lookup (here other) (values_of old))) is
        ∙ sym (found_put number value (values_of old) other))

    -- one that is emptied, or goes, takes its value with it
    pub values_removed : option_flatten place ≡ None → values_of new ≡ remove_entry (here number) (values_of old)
    values_removed is = same_found (values_of new) (remove_entry (here number) (values_of old)) (rises_all new)
        (rises_left number (values_of old) (rises_all old))
        (λ other. values_updated other ∙ ap (λ o. cond (here number other) o (lookup (here other) (values_of old))) is
        ∙ sym (found_left number (values_of old) (rises_all old) other))

    -- one that has the value which was there changes none
    pub values_kept : option_flatten place ≡ option_flatten (lookup (nat_eq number) old) → values_of new ≡ values_of old
    values_kept is = same_found (values_of new) (values_of old) (rises_all new) (rises_all old)
        (λ other. values_updated other ∙ by other (here number other) refl)
      where
        by : (other : ℕ) (b : Bool) → here number other ≡ b
            → cond b (option_flatten place) (lookup (here other) (values_of old)) ≡ lookup (here other) (values_of old)
        by other true same =
            is ∙ sym (value_found number old) ∙ ap (λ n. lookup (here n) (values_of old)) (same_number number other same)
        by other false apart = refl

    -- where a place stays, room does
    pub room_stays : is_some place ≡ true → (other : ℕ)
        → has_room (record { entries = values_of old; room = keys_of old }) other ≡ true
        → has_room (record { entries = values_of new; room = keys_of new }) other ≡ true
    room_stays is other room = room_found other new ∙ ap is_some (updates other)
        ∙ by (nat_eq number other) (sym (room_found other old) ∙ room)
      where
        by : (b : Bool) → is_some (lookup (nat_eq other) old) ≡ true
            → is_some (cond b place (lookup (nat_eq other) old)) ≡ true
        by true rest = is
        by false rest = rest

  -- a value that is not there may be said to be emptied
  pub none_updated : (number : ℕ) (es : List (ℕ × Option V)) → option_flatten (lookup (nat_eq number) es) ≡ None
      → (other : ℕ) → lookup (here other) (values_of es)
      ≡ cond (here number other) None (lookup (here other) (values_of es))
  none_updated number es none other = by (here number other) refl
    where
      by : (b : Bool) → here number other ≡ b → lookup (here other) (values_of es)
          ≡ cond b None (lookup (here other) (values_of es))
      by true is = ap (λ n. lookup (here n) (values_of es)) (sym (same_number number other is))
          ∙ value_found number es ∙ none
      by false is = refl

  -- nothing changes where a number that has no place loses its value
  pub none_removed : (number : ℕ) (es : List (ℕ × Option V)) → option_flatten (lookup (nat_eq number) es) ≡ None
      → values_of es ≡ remove_entry (here number) (values_of es)
  none_removed number es none = same_found (values_of es) (remove_entry (here number) (values_of es)) (rises_all es)
      (rises_left number (values_of es) (rises_all es))
      (λ other. none_updated number es none other ∙ sym (found_left number (values_of es) (rises_all es) other))
