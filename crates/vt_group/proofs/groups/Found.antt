-- The groups that are found from one downwards.
use Rattle.std.proofs.Common.{◌≡◌, ℕ, Bool, true, false, ◌+◌, ◌-◌, ◌<◌, ◌≤◌, ◌⊎◌, ◌||◌, List, [], ◌∷◌, ◌++◌, get_or, length, map, nat_eq, zero, suc, Option, None, Some, is_some, option_map, refl, sym, ap, subst, take, ◌∙◌, append-nil, arith, eq-eqb, inl, inr, true≢false, ⊎_elim, eqb-true, if◌then◌else◌}
use Rattle.vt_spec.proofs.Common.{AllByRecursion, chain_goes_on, holds_of, is_among, list_any, nat_eq-swapped, nat_eq_equiv, or-false, or-true, or_cases, take-append-le, take_more}
use Rattle.std.proofs.lemmas.Map.Steps.{length-le_from_keys}
use Rattle.std.specs.List.{IsDistinct}
use Rattle.std.specs.Option.{option_eq}
use Rattle.indexmap.specs.IndexSet.{insert_key}
use Rattle.vt_location.specs.declared.numbers.GroupId.{GroupId}
use Rattle.vt_location.specs.Numbers.{counted, group_number}
use Rattle.vt_group.specs.Grouping.{Grouping, master_in}
use Rattle.vt_group.specs.Receiving.{IsLonger, Reaches, is_in}
use Rattle.vt_group.specs.Sets.{same_group}
use Rattle.vt_group.proofs.Listing.{counted_same}
use Rattle.vt_group.proofs.SetsLemmas.{same_number}
use Rattle.vt_location.proofs.NumberLemmas.{counted_test}

-- groups in lists

or_assoc : (a b c : Bool) → (a || (b || c)) ≡ ((a || b) || c)
or_assoc true b c = refl
or_assoc false b c = refl

-- a group is in two lists put together where it is in one of them
pub in_both : (old more : List GroupId) (one : ℕ) → is_in (old ++ more) one ≡ (is_in old one || is_in more one)
in_both [] more one = refl
in_both (group ∷ old) more one = ap (λ b. nat_eq one (group_number group) || b) (in_both old more one)
    ∙ or_assoc (nat_eq one (group_number group)) (is_in old one) (is_in more one)

-- a group stays in a list that grows
pub in_longer : (old new : List GroupId) → IsLonger old new → (one : ℕ) → is_in old one ≡ true → is_in new one ≡ true
in_longer old new longer one is =
    ap (λ list. is_in list one) longer.1 ∙ in_both old longer.0 one ∙ ap (λ b. b || is_in longer.0 one) is

-- a group is in a list with one more where it is in it or is the one
pub in_push : (list : List GroupId) (group : GroupId) (one : ℕ)
    → is_in (list ++ group ∷ []) one ≡ (is_in list one || nat_eq one (group_number group))
in_push list group one =
    in_both list (group ∷ []) one ∙ ap (λ b. is_in list one || b) (or-false (nat_eq one (group_number group)))

-- what a list has at an index is in it
pub in_at : (list : List GroupId) (i : ℕ) (default : GroupId) → i < length list
    → is_in list (group_number (get_or list i default)) ≡ true
in_at [] i default less = absurd (omega (arith, less))
in_at (group ∷ list) zero default less =
    ap (λ b. b || is_in list (group_number group)) (eq-eqb (group_number group) (group_number group) refl)
in_at (group ∷ list) (suc i) default less =
    ap (λ b. nat_eq (group_number (get_or list i default)) (group_number group) || b) (in_at list i default (omega (arith, less)))
    ∙ or-true (nat_eq (group_number (get_or list i default)) (group_number group))

-- a group is in a list by its number where it is by itself
pub groups_among : (group : GroupId) (list : List GroupId) → is_in list (counted group.count) ≡ list_any (same_group group) list
groups_among group [] = refl
groups_among group (one ∷ list) = λ i. counted_test group.count one.count i || groups_among group list i

-- a list is no shorter than itself
pub not_longer : (list : List GroupId) → IsLonger list list
not_longer list = ([], sym (append-nil list))

-- a list that grows twice grows
pub longer_still : (old now new : List GroupId) → IsLonger old now → IsLonger now new → IsLonger old new
longer_still old now new first later = (
  first.0 ++ later.0,
  later.1 ∙ ap (λ list. list ++ later.0) first.1 ∙ Rattle.std.proofs.Common.append_assoc old first.0 later.0,
)

-- a group that is inserted

module _ (keys new : List GroupId) (lower : GroupId) (is : new ≡ insert_key same_group keys lower) where
  -- a list grows where a group is put in
  pub inserted_longer : IsLonger keys new
  inserted_longer = by (list_any (same_group lower) keys) is
    where
      by : (b : Bool) → new ≡ (if b then keys else keys ++ lower ∷ []) → IsLonger keys new
      by true is = subst (IsLonger keys) (sym is) (not_longer keys)
      by false is = (lower ∷ [], is)

  -- what is in it then was in it, or is that group
  pub inserted_in : (one : ℕ) → is_in new one ≡ true → (is_in keys one ≡ true) ⊎ (one ≡ group_number lower)
  inserted_in one inside = by (list_any (same_group lower) keys) is
    where
      by : (b : Bool) → new ≡ (if b then keys else keys ++ lower ∷ [])
          → (is_in keys one ≡ true) ⊎ (one ≡ group_number lower)
      by true is = inl (ap (λ list. is_in list one) (sym is) ∙ inside)
      by false is = ⊎_elim (λ before. inl before) (λ same. inr (eqb-true one (group_number lower) same))
          (or_cases (is_in keys one) (nat_eq one (group_number lower))
          (sym (in_push keys lower one) ∙ ap (λ list. is_in list one) (sym is) ∙ inside))

  -- and that group is in it
  pub inserted_there : is_in new (group_number lower) ≡ true
  inserted_there = by (list_any (same_group lower) keys) refl is
    where
      by : (b : Bool) → list_any (same_group lower) keys ≡ b → new ≡ (if b then keys else keys ++ lower ∷ [])
          → is_in new (group_number lower) ≡ true
      by true among is = ap (λ list. is_in list (group_number lower)) is ∙ groups_among lower keys ∙ among
      by false among is = ap (λ list. is_in list (group_number lower)) is ∙ in_push keys lower (group_number lower)
          ∙ ap (λ b. is_in keys (group_number lower) || b) (eq-eqb (group_number lower) (group_number lower) refl)
          ∙ or-true (is_in keys (group_number lower))

-- a master that is found to be the group is it
pub own_master : (found : Option GroupId) (group : GroupId) → option_eq same_group found (Some group) ≡ true
    → option_map group_number found ≡ Some (group_number group)
own_master None group same = absurd (true≢false (sym same))
own_master (Some one) group same = ap (λ (g : GroupId). Some (group_number g)) (sym (same_number one group same))

-- one that is found not to be the group is not
pub other_master : (found : Option GroupId) (group : GroupId) → option_eq same_group found (Some group) ≡ false
    → option_map group_number found ≡ Some (group_number group) → ⊥
other_master None group apart is = absurd cc
other_master (Some one) group apart is = true≢false (sym (counted_same group.count one.count
    (sym (Rattle.std.proofs.lemmas.Option.same_Some (group_number one) (group_number group) is))) ∙ apart)

-- each group that is found is another, and has a master or is the first

apart_numbers : (group : GroupId) (list : List GroupId) → AllByRecursion (λ one. same_group group one ≡ false) list
    → AllByRecursion (λ one. nat_eq (group_number group) one ≡ false) (map group_number list)
apart_numbers group [] all = tt
apart_numbers group (one ∷ list) all = (counted_test group.count one.count ∙ all.0, apart_numbers group list all.1)

distinct_numbers : (list : List GroupId) → IsDistinct same_group list → IsDistinct nat_eq (map group_number list)
unfolding IsDistinct
distinct_numbers [] distinct = tt
distinct_numbers (group ∷ list) distinct = (apart_numbers group list distinct.0, distinct_numbers list distinct.1)

numbers_length : (list : List GroupId) → length (map group_number list) ≡ length list
numbers_length [] = refl
numbers_length (group ∷ list) = ap suc (numbers_length list)

-- groups that are found, each once, are no more than those with masters, and the first
pub few_found : (groups : Grouping) (first : ℕ) (list : List GroupId) → IsDistinct same_group list
    → ((one : ℕ) → is_in list one ≡ true → (one ≡ first) ⊎ (is_some (master_in groups one) ≡ true))
    → length list ≤ suc (length groups.masters)
few_found groups first list distinct known =
    let few = length-le_from_keys nat_eq_equiv (map group_number list) ((first, 0) ∷ groups.masters)
    (distinct_numbers list distinct)
    (λ one inside. ⊎_elim (λ same. is_first one same) (λ some. has_master one (nat_eq one first) some) (known one inside)) in
    omega (arith, few, numbers_length list)
  where
    has_master : (one : ℕ) (b : Bool) → is_some (master_in groups one) ≡ true
        → is_some (Rattle.std.proofs.Common.cond b (Some 0) (master_in groups one)) ≡ true
    has_master one true some = refl
    has_master one false some = some

    is_first : (one : ℕ) → one ≡ first
        → is_some (Rattle.std.proofs.Common.cond (nat_eq one first) (Some 0) (master_in groups one)) ≡ true
    is_first one same = ap (λ b. is_some (Rattle.std.proofs.Common.cond b (Some 0) (master_in groups one))) (eq-eqb one first same)

-- one step down

-- a group reaches itself
pub reaches_first : (groups : Grouping) (group : ℕ) → Reaches groups group group
reaches_first groups group = (0, ap (λ b. b || false) (eq-eqb group group refl))

-- what reaches a group reaches those whose master it is
pub reaches_lower : (groups : Grouping) (group one upper : ℕ) → master_in groups one ≡ Some upper
    → Reaches groups group upper → Reaches groups group one
reaches_lower groups group one upper is reaches = (
  suc reaches.0,
  ap (is_among nat_eq group) (chain_goes_on (master_in groups) reaches.0 one upper is)
      ∙ ap (λ b. nat_eq group one || b) reaches.1 ∙ or-true (nat_eq group one),
)

-- one more of a list that grows is what it had there
pub taken_more : (keys new : List GroupId) (i : ℕ) (default : GroupId) → i < length keys → IsLonger keys new
    → take (i + 1) new ≡ take i keys ++ get_or keys i default ∷ []
taken_more keys new i default less longer =
    ap (take (i + 1)) longer.1 ∙ take-append-le (i + 1) keys longer.0 (omega (arith, less)) ∙ take_more keys i default less

-- the mounts that receive from one more group

-- a source is one of those found, or of those found more
pub source_more : (found more all : ℕ → Bool) → ((group : ℕ) → all group ≡ (found group || more group))
    → (source : Option ℕ) → (holds_of more source || holds_of found source) ≡ holds_of all source
source_more found more all either None = refl
source_more found more all either (Some group) = turned (more group) (found group) ∙ sym (either group)
  where
    turned : (a b : Bool) → (a || b) ≡ (b || a)
    turned true true = refl
    turned true false = refl
    turned false true = refl
    turned false false = refl

-- what is known after one more step of the walk

module _ (groups : Grouping) (group : ℕ) (keys new : List GroupId) (next : ℕ) (here : GroupId)
    (there : is_in keys (group_number here) ≡ true) (taken : take (next + 1) new ≡ take next keys ++ here ∷ [])
    (longer : IsLonger keys new) (below : (one : ℕ) → is_in new one ≡ true
    → (is_in keys one ≡ true) ⊎ (master_in groups one ≡ Some (group_number here))) where
  -- groups that are found are known, with those found more
  pub known_more : ((one : ℕ) → is_in keys one ≡ true → (one ≡ group) ⊎ (is_some (master_in groups one) ≡ true))
      → (one : ℕ) → is_in new one ≡ true → (one ≡ group) ⊎ (is_some (master_in groups one) ≡ true)
  known_more known one inside =
      ⊎_elim (λ before. known one before) (λ master. inr (ap is_some master)) (below one inside)

  -- and reached from the first
  pub reaches_more : ((one : ℕ) → is_in keys one ≡ true → Reaches groups group one)
      → (one : ℕ) → is_in new one ≡ true → Reaches groups group one
  reaches_more reaches one inside = ⊎_elim (λ before. reaches one before)
      (λ master. reaches_lower groups group one (group_number here) master (reaches (group_number here) there))
      (below one inside)

  -- with each group those are found whose master it is
  pub lower_more : ((one : ℕ) → master_in groups one ≡ Some (group_number here) → is_in new one ≡ true)
      → ((one upper : ℕ) → master_in groups one ≡ Some upper → is_in (take next keys) upper ≡ true
      → is_in keys one ≡ true)
      → (one upper : ℕ) → master_in groups one ≡ Some upper → is_in (take (next + 1) new) upper ≡ true
      → is_in new one ≡ true
  lower_more all lower one upper master inside =
      ⊎_elim (λ before. in_longer keys new longer one (lower one upper master before))
      (λ same. all one (master ∙ ap Some (eqb-true upper (group_number here) same)))
      (or_cases (is_in (take next keys) upper) (nat_eq upper (group_number here))
      (sym (in_push (take next keys) here upper) ∙ ap (λ list. is_in list upper) (sym taken) ∙ inside))

  -- a mount receives from the groups up to this one
  pub each_more : (source : Option ℕ)
      → (holds_of (nat_eq (group_number here)) source || holds_of (is_in (take next keys)) source)
      ≡ holds_of (is_in (take (next + 1) new)) source
  each_more = source_more (is_in (take next keys)) (nat_eq (group_number here)) (is_in (take (next + 1) new))
      (λ one. ap (λ list. is_in list one) taken ∙ in_push (take next keys) here one
      ∙ ap (λ b. is_in (take next keys) one || b)
      (sym (nat_eq-swapped one (group_number here) (nat_eq one (group_number here)) refl)))
