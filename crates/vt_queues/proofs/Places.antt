-- A queue that is found by its place.
use Rattle.std.proofs.Common.{◌≡◌, refl, sym, ap, subst, ◌∙◌, ℕ, ◌+◌, Bool, true, false, List, [], ◌∷◌, ◌++◌, ◌||◌, length, map, cond, Some, None, arith, find, unwrap_or, option_map}
use Rattle.std.specs.List.{list_any, position, position_from}
use Rattle.std.specs.Prelude.{slice_index_or, slice_set}
use Rattle.std.proofs.lemmas.List.{get_or_at, map-append, set_at}
use Rattle.vt_spec.specs.Language.Script.{Who}
use Rattle.vt_spec.specs.Machine.Turns.{Queue, Queued, queue_of, same_who, with_item_last}
use Rattle.vt_spec.proofs.Common.{or_parts}
use Rattle.std.proofs.lemmas.Iterator.Adapters.{position_from-zero}

module _ {A : Type 0} (test : A → Bool) where
  -- the first of a list that passes, between what is before it and what is behind it
  pub record IsFirst (list : List A) (place : ℕ) : Type 0 where
    pub front : List A
    pub one : A
    pub back : List A
    pub is : list ≡ front ++ one ∷ back
    pub at : length front ≡ place
    pub passes : test one ≡ true
    pub before : list_any test front ≡ false

  -- the place counted from a number on
  IsFirstFrom : List A → ℕ → ℕ → Type 0
  IsFirstFrom list from place = (within : ℕ) × (within + from ≡ place) × IsFirst list within

  behind_one : (one : A) (list : List A) (within : ℕ) → test one ≡ false → IsFirst list within
      → IsFirst (one ∷ list) (within + 1)
  behind_one one list within fails first = record {
    front = one ∷ first.front;
    one = first.one;
    back = first.back;
    is = ap (λ rest. one ∷ rest) first.is;
    at = omega (arith, first.at);
    passes = first.passes;
    before = ap (λ b. b || list_any test first.front) fails ∙ first.before;
  }

  found_from : (list : List A) (from place : ℕ) → position_from test from list ≡ Some place
      → IsFirstFrom list from place
  unfolding IsFirstFrom
  found_from [] from place e = absurd cc
  found_from (one ∷ list) from place e = by (found_from list (from + 1) place) (test one) refl e
    where
      by : (position_from test (from + 1) list ≡ Some place → IsFirstFrom list (from + 1) place) → (b : Bool)
          → test one ≡ b → cond b (Some from) (position_from test (from + 1) list) ≡ Some place → (within : ℕ) × (within + from ≡ place) × IsFirst (one ∷ list) within
      by further true passes e =
          let same : from ≡ place = cc in (
            0,
            omega (arith, same),
            record {
              front = [];
              one = one;
              back = list;
              is = refl;
              at = refl;
              passes = passes;
              before = refl;
            },
          )
      by further false fails e =
          let rest = further e in
          (rest.0 + 1, omega (arith, rest.1), behind_one one list rest.0 fails rest.2)

  pub found : (list : List A) (place : ℕ) → position test list ≡ Some place → IsFirst list place
  unfolding IsFirstFrom
  found list place e =
      let first = found_from list 0 place (sym (position_from-zero test list) ∙ e) in
      subst (IsFirst list) (omega (arith, first.1)) first.2

  none_from : (list : List A) (from : ℕ) → position_from test from list ≡ None → list_any test list ≡ false
  none_from [] from e = refl
  none_from (one ∷ list) from e = by (none_from list (from + 1)) (test one) refl e
    where
      by : (position_from test (from + 1) list ≡ None → list_any test list ≡ false) → (b : Bool) → test one ≡ b → cond b (Some from) (position_from test (from + 1) list) ≡ None
          → (test one || list_any test list) ≡ false
      by further true passes e = absurd cc
      by further false fails e = ap (λ b. b || list_any test list) fails ∙ further e

  pub none_found : (list : List A) → position test list ≡ None → list_any test list ≡ false
  none_found list e = none_from list 0 (sym (position_from-zero test list) ∙ e)

-- Queues whose meanings are these
module _ {A : Type 0} (meaning : A → Queue) (who : Who) where
  abbrev pub is_its : A → Bool
  is_its a = same_who who (meaning a).who

  last_behind : (front back : List A) (one : A) (queued : Queued) → list_any is_its front ≡ false
      → is_its one ≡ true → with_item_last (map meaning (front ++ one ∷ back)) (who, queued)
      ≡ map meaning front ++ record (meaning one) { items = (meaning one).items ++ queued ∷ [] } ∷ map meaning back
  last_behind [] back one queued before passes =
      ap (λ b. cond b (record (meaning one) { items = (meaning one).items ++ queued ∷ [] } ∷ map meaning back)
      (meaning one ∷ with_item_last (map meaning back) (who, queued))) passes
  last_behind (first ∷ front) back one queued before passes =
      let parts = or_parts (is_its first) (list_any is_its front) before in
      ap (λ b. cond b (record (meaning first) { items = (meaning first).items ++ queued ∷ [] }
      ∷ map meaning (front ++ one ∷ back)) (meaning first ∷ with_item_last (map meaning (front ++ one ∷ back)) (who, queued)))
      parts.0 ∙ ap (λ rest. meaning first ∷ rest) (last_behind front back one queued parts.1 passes)

  -- an item is put last in the queue that is found
  pub put_last : (list : List A) (place : ℕ) (now : A) (queued : Queued) → (first : IsFirst is_its list place)
      → meaning now ≡ record (meaning first.one) { items = (meaning first.one).items ++ queued ∷ [] }
      → map meaning (slice_set list place now) ≡ with_item_last (map meaning list) (who, queued)
  put_last list place now queued first is =
      ap (map meaning) (ap (λ l. slice_set l place now) first.is
      ∙ set_at first.front first.one first.back now place first.at)
      ∙ map-append meaning first.front (now ∷ first.back)
      ∙ ap (λ q. map meaning first.front ++ q ∷ map meaning first.back) is
      ∙ sym (last_behind first.front first.back first.one queued first.before first.passes)
      ∙ ap (λ l. with_item_last (map meaning l) (who, queued)) (sym first.is)

  -- where nothing is put, the queues mean what they meant
  pub put_nothing : (list : List A) (place : ℕ) (now : A) → (first : IsFirst is_its list place)
      → meaning now ≡ meaning first.one → map meaning (slice_set list place now) ≡ map meaning list
  put_nothing list place now first is =
      ap (map meaning) (ap (λ l. slice_set l place now) first.is
      ∙ set_at first.front first.one first.back now place first.at)
      ∙ map-append meaning first.front (now ∷ first.back)
      ∙ ap (λ q. map meaning first.front ++ q ∷ map meaning first.back) is
      ∙ sym (map-append meaning first.front (first.one ∷ first.back)) ∙ ap (map meaning) (sym first.is)

  -- where there is none, a queue is made
  pub put_new : (list : List A) (now : A) (queued : Queued) → list_any is_its list ≡ false
      → meaning now ≡ record { who = who; items = queued ∷ [] }
      → map meaning (list ++ now ∷ []) ≡ with_item_last (map meaning list) (who, queued)
  put_new [] now queued none is = ap (λ q. q ∷ []) is
  put_new (first ∷ list) now queued none is =
      let parts = or_parts (is_its first) (list_any is_its list) none in
      ap (λ rest. meaning first ∷ rest) (put_new list now queued parts.1 is)
      ∙ sym (ap (λ b. cond b (record (meaning first) { items = (meaning first).items ++ queued ∷ [] } ∷ map meaning list)
      (meaning first ∷ with_item_last (map meaning list) (who, queued))) parts.0)

  -- the queue that is found
  pub queue_found : (list : List A) (place : ℕ) → (first : IsFirst is_its list place)
      → queue_of (map meaning list) who ≡ (meaning first.one).items
  queue_found list place first =
      ap (λ l. queue_of (map meaning l) who) first.is ∙ among first.front first.before
    where
      among : (front : List A) → list_any is_its front ≡ false
          → queue_of (map meaning (front ++ first.one ∷ first.back)) who ≡ (meaning first.one).items
      among [] before = ap (λ b. unwrap_or (option_map (λ (q : Queue). q.items) (cond b (Some (meaning first.one))
          (find (λ (q : Queue). same_who who q.who) (map meaning first.back)))) []) first.passes
      among (other ∷ front) before =
          let parts = or_parts (is_its other) (list_any is_its front) before in
          ap (λ b. unwrap_or (option_map (λ (q : Queue). q.items) (cond b (Some (meaning other))
          (find (λ (q : Queue). same_who who q.who) (map meaning (front ++ first.one ∷ first.back))))) []) parts.0
          ∙ among front parts.1

  pub no_queue : (list : List A) → list_any is_its list ≡ false → queue_of (map meaning list) who ≡ []
  no_queue [] none = refl
  no_queue (other ∷ list) none =
      let parts = or_parts (is_its other) (list_any is_its list) none in
      ap (λ b. unwrap_or (option_map (λ (q : Queue). q.items) (cond b (Some (meaning other))
      (find (λ (q : Queue). same_who who q.who) (map meaning list)))) []) parts.0 ∙ no_queue list parts.1

  -- what stands at its place
  pub at_place : (list : List A) (place : ℕ) (one : A) → (first : IsFirst is_its list place)
      → one ≡ slice_index_or list place one → one ≡ first.one
  at_place list place one first is = is ∙ ap (λ l. slice_index_or l place one) first.is
      ∙ get_or_at first.front first.one first.back one place first.at
