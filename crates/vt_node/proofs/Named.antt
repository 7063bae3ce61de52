-- The name that leads to a number, among entries as they are kept.
use Rattle.std.proofs.Common.{◌≡◌, ℕ, zero, suc, nat_eq, nat_lt, length, ◌<◌, ◌≤◌, ltb-false, ltb-true, arith, eq-eqb, eqb-true, Bool, true, false, cond, List, [], ◌∷◌, Option, None, Some, is_some, option_map, refl, sym, ap, subst, ◌∙◌, true≢false, find, position, slice_get, Less, Equal, Greater, is_eq}
use Rattle.vt_spec.proofs.Common.{Entries, and_true_left, and_true_right, below_all, by_order, entry_named, entry_named-below, eq_by_cmp, found_passes, is_sorted, name_cmp, nat_list_cmp_total, same_Some, tied_itself, values_of, with_entry}
use Rattle.std.specs.List.{position_or_len}
use Rattle.std.proofs.lemmas.List.Folds.{find_at}
use Rattle.std.specs.declared.vec.Vec.{Vec}
use Rattle.vt_node.specs.Listed.{HasOneName, listed}
use Rattle.vt_spec.proofs.Nodes.{same_name}

abbrev pub leads : ℕ → List ℕ × ℕ → Bool
leads id entry = nat_eq id entry.1

pub found_is_named : (id : ℕ) (entries : Entries ℕ) (entry : List ℕ × ℕ) → is_sorted name_cmp entries ≡ true
    → find (leads id) entries ≡ Some entry → entry_named entry.0 entries ≡ Some id
found_is_named id [] entry sorted e = absurd (true≢false (sym (ap is_some e)))
found_is_named id (first ∷ entries) entry sorted e = by (nat_eq id first.1) refl e (λ rest.
    found_is_named id entries entry (and_true_right (below_all name_cmp first.0 entries) _ sorted) rest)
  where
    later : (is : Bool) → eq_by_cmp name_cmp entry.0 first.0 ≡ is → entry_named entry.0 entries ≡ Some id
        → cond is (Some first.1) (entry_named entry.0 entries) ≡ Some id
    later true t named =
        absurd (true≢false (sym (ap is_some (sym (ap (λ n. entry_named n entries) (same_name entry.0 first.0 t)
        ∙ entry_named-below first.0 entries (and_true_left (below_all name_cmp first.0 entries) _ sorted)) ∙ named))))
    later false t named = named

    by : (b : Bool) → nat_eq id first.1 ≡ b → cond b (Some first) (find (leads id) entries) ≡ Some entry
        → (find (leads id) entries ≡ Some entry → entry_named entry.0 entries ≡ Some id)
        → entry_named entry.0 (first ∷ entries) ≡ Some id
    by true t e rest =
        subst (λ (found : List ℕ × ℕ). entry_named found.0 (first ∷ entries) ≡ Some id) (same_Some first entry e)
        (ap (λ o. cond (is_eq o) (Some first.1) (entry_named first.0 entries)) (tied_itself nat_list_cmp_total first.0)
        ∙ ap Some (sym (eqb-true id first.1 t)))
    by false t e rest = later (eq_by_cmp name_cmp entry.0 first.0) refl (rest e)

-- what a name leads to is found
named_is_found : (id : ℕ) (name : List ℕ) (entries : Entries ℕ) → entry_named name entries ≡ Some id
    → is_some (find (leads id) entries) ≡ true
named_is_found id name [] e = absurd (true≢false (sym (ap is_some e)))
named_is_found id name (first ∷ entries) e = by (eq_by_cmp name_cmp name first.0) e (named_is_found id name entries)
  where
    right : (b : Bool) → is_some (find (leads id) entries) ≡ true
        → is_some (cond b (Some first) (find (leads id) entries)) ≡ true
    right true e = refl
    right false e = e

    by : (b : Bool) → cond b (Some first.1) (entry_named name entries) ≡ Some id
        → (entry_named name entries ≡ Some id → is_some (find (leads id) entries) ≡ true)
        → is_some (cond (nat_eq id first.1) (Some first) (find (leads id) entries)) ≡ true
    by true e rest = ap (λ b. is_some (cond b (Some first) (find (leads id) entries)))
        (eq-eqb id first.1 (sym (same_Some first.1 id e)))
    by false e rest = right (nat_eq id first.1) (rest e)

-- the one name of a number is the first
pub first_name : (id : ℕ) (name : List ℕ) (entries : Entries ℕ) → is_sorted name_cmp entries ≡ true
    → HasOneName id entries
    → entry_named name entries ≡ Some id → Some name ≡ option_map (λ entry. entry.0) (find (leads id) entries)
first_name id name entries sorted one named = by (find (leads id) entries) refl (named_is_found id name entries named)
  where
    by : (o : Option (List ℕ × ℕ)) → find (leads id) entries ≡ o → is_some o ≡ true
        → Some name ≡ option_map (λ entry. entry.0) o
    by None e some = absurd (true≢false (sym some))
    by (Some entry) e some = ap Some (one name entry.0 named (found_is_named id entries entry sorted e))

-- entries that lead elsewhere

unlisted_with : (id : ℕ) (name : List ℕ) (other : ℕ) (entries : Entries ℕ) → nat_eq id other ≡ false
    → find (leads id) entries ≡ None → find (leads id) (with_entry name other entries) ≡ None
unlisted_with id name other [] apart none = ap (λ b. cond b (Some (name, other)) None) apart
unlisted_with id name other (first ∷ entries) apart none =
    by (nat_eq id first.1) refl none (unlisted_with id name other entries apart)
  where
    by : (b : Bool) → nat_eq id first.1 ≡ b → cond b (Some first) (find (leads id) entries) ≡ None
        → (find (leads id) entries ≡ None → find (leads id) (with_entry name other entries) ≡ None)
        → find (leads id) (with_entry name other (first ∷ entries)) ≡ None
    by true e some rest = absurd (true≢false (ap is_some some))
    by false e none rest = elim (name_cmp name first.0)
        as (λ o. find (leads id) (by_order o ((name, other) ∷ first ∷ entries) ((first.0, other) ∷ entries)
        (first ∷ with_entry name other entries)) ≡ None) [
          | Less ↦ ap (λ b. cond b (Some (name, other))
              (cond (nat_eq id first.1) (Some first) (find (leads id) entries))) apart
              ∙ ap (λ b. cond b (Some first) (find (leads id) entries)) e ∙ none
          | Equal ↦ ap (λ b. cond b (Some (first.0, other)) (find (leads id) entries)) apart ∙ none
          | Greater ↦ ap (λ b. cond b (Some first) (find (leads id) (with_entry name other entries))) e ∙ rest none
        ]

-- the first place that passes

past : {X : Type 0} (xs : List X) (n : ℕ) → length xs ≤ n → slice_get xs n ≡ None
past [] n far = refl
past (x ∷ xs) zero far = absurd (omega (arith, far))
past (x ∷ xs) (suc n) far = past xs n (omega (arith, far))

within : {X : Type 0} (xs : List X) (n : ℕ) → n < length xs → is_some (slice_get xs n) ≡ true
within [] n near = absurd (omega (arith, near))
within (x ∷ xs) zero near = refl
within (x ∷ xs) (suc n) near = within xs n (omega (arith, near))

no_place : {X : Type 0} (test : X → Bool) (xs : List X) → position test xs ≡ None → find test xs ≡ None
no_place test xs none = find_at test xs ∙ by (nat_lt (position_or_len test xs) (length xs)) refl none
  where
    by : (b : Bool) → nat_lt (position_or_len test xs) (length xs) ≡ b
        → cond b (Some (position_or_len test xs)) None ≡ None → slice_get xs (position_or_len test xs) ≡ None
    by true e none = absurd (true≢false (ap is_some none))
    by false e none = past xs (position_or_len test xs) (ltb-false (position_or_len test xs) (length xs) e)

pub record IsPlace {X : Type 0} (test : X → Bool) (xs : List X) (i : ℕ) : Type 0 where
  pub near : i < length xs
  pub found : find test xs ≡ slice_get xs i

is_place : {X : Type 0} (test : X → Bool) (xs : List X) (i : ℕ) → position test xs ≡ Some i → IsPlace test xs i
is_place test xs i at = by (nat_lt (position_or_len test xs) (length xs)) refl at
  where
    by : (b : Bool) → nat_lt (position_or_len test xs) (length xs) ≡ b
        → cond b (Some (position_or_len test xs)) None ≡ Some i → IsPlace test xs i
    by true e at =
        let same : position_or_len test xs ≡ i = cc in
        record {
          near = subst (λ n. n < length xs) same (ltb-true (position_or_len test xs) (length xs) e);
          found = find_at test xs ∙ ap (slice_get xs) same;
        }
    by false e at = absurd (true≢false (sym (ap is_some at)))

abbrev pub is_number : ℕ → ℕ → Bool
is_number id number = nat_eq number id

module _ {A : Type 0} where
  -- where no kept entry leads to a number, none that is listed does
  unlisted_from : (id : ℕ) (es : List (Vec ℕ A × ℕ)) → find (is_number id) (values_of es) ≡ None
      → find (leads id) (listed es) ≡ None
  unlisted_from id [] none = refl
  unlisted_from id (e ∷ es) none = by (nat_eq e.1 id) refl none (unlisted_from id es)
    where
      turned : nat_eq e.1 id ≡ false → (b : Bool) → nat_eq id e.1 ≡ b → b ≡ false
      turned apart true same = absurd (true≢false (sym (eq-eqb e.1 id (sym (eqb-true id e.1 same))) ∙ apart))
      turned apart false same = refl

      by : (b : Bool) → nat_eq e.1 id ≡ b → cond b (Some e.1) (find (is_number id) (values_of es)) ≡ None
          → (find (is_number id) (values_of es) ≡ None → find (leads id) (listed es) ≡ None)
          → find (leads id) (with_entry e.0.items e.1 (listed es)) ≡ None
      by true is none rest = absurd (true≢false (ap is_some none))
      by false is none rest = unlisted_with id e.0.items e.1 (listed es) (turned is (nat_eq id e.1) refl) (rest none)

  pub unlisted : (id : ℕ) (es : List (Vec ℕ A × ℕ)) → position (is_number id) (values_of es) ≡ None
      → find (leads id) (listed es) ≡ None
  unlisted id es none = unlisted_from id es (no_place (is_number id) (values_of es) none)

  value_at : (es : List (Vec ℕ A × ℕ)) (i : ℕ) → slice_get (values_of es) i ≡ option_map (λ e. e.1) (slice_get es i)
  value_at [] i = refl
  value_at (e ∷ es) zero = refl
  value_at (e ∷ es) (suc i) = value_at es i

  -- the entry at the place of a number leads to it
  pub leads_there : (id i : ℕ) (es : List (Vec ℕ A × ℕ)) → position (is_number id) (values_of es) ≡ Some i
      → (e : Vec ℕ A × ℕ) → slice_get es i ≡ Some e → e.1 ≡ id
  leads_there id i es at e found =
      let place = is_place (is_number id) (values_of es) i at in
      eqb-true e.1 id (found_passes (is_number id) (values_of es) e.1
      (place.found ∙ value_at es i ∙ ap (option_map (λ (x : Vec ℕ A × ℕ). x.1)) found))

  pub is_there : (id i : ℕ) (es : List (Vec ℕ A × ℕ)) → position (is_number id) (values_of es) ≡ Some i
      → slice_get es i ≡ None → ⊥
  is_there id i es at none =
      let place = is_place (is_number id) (values_of es) i at in
      true≢false (sym (within (values_of es) i place.near)
      ∙ ap is_some (value_at es i ∙ ap (option_map (λ (x : Vec ℕ A × ℕ). x.1)) none))
