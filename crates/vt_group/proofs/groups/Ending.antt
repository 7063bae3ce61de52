-- A group ends, by the maps that keep the groups.
use Rattle.std.proofs.Common.{◌≡◌, ℕ, Bool, true, false, cond, List, map, nat_eq, Option, None, Some, is_some, option_map, refl, sym, ap, ◌∙◌, true≢false, nat_cmp, filter_map, if◌then◌else◌}
use Rattle.vt_spec.proofs.Common.{keys_of, lookup, nat_eq-swapped, then_some}
use Rattle.std.specs.BTreeMap.{is_at}
use Rattle.std.specs.List.Sorted.{IsStrictlySortedBy}
use Rattle.vt_location.specs.Numbers.{counted}
use Rattle.vt_group.proofs.CountLemmas.{at_count, lookup-numbered, numbered}
use Rattle.vt_group.proofs.EndedTypes.{changed_entry, lookup-changed, rising_numbers, rising-changed}
use Rattle.vt_group.proofs.Listing.{found_count}
use Rattle.vt_group.proofs.Showing.{same_entries}
use Rattle.vt_location.proofs.NumberLemmas.{counted_test}

module _ {V W : Type 0} (see : V → W) (change : ℕ → W → Option W) (old new : List (ℕ × V))
    (ordered : IsStrictlySortedBy nat_cmp (keys_of old)) (ordered_new : IsStrictlySortedBy nat_cmp (keys_of new))
    (each : (count : ℕ) → option_map see (lookup (is_at (nat_cmp count)) new)
    ≡ then_some (option_map see (lookup (is_at (nat_cmp count)) old)) (change (counted count))) where
  at_number : (number : ℕ) → lookup (nat_eq number) (map (numbered see) new)
      ≡ then_some (lookup (nat_eq number) (map (numbered see) old)) (change number)
  at_number number = by (is_some (lookup (nat_eq number) (map (numbered see) new))) refl
      (is_some (lookup (nat_eq number) (map (numbered see) old))) refl
    where
      at_one : (count : ℕ) → number ≡ counted count → lookup (nat_eq number) (map (numbered see) new)
          ≡ then_some (lookup (nat_eq number) (map (numbered see) old)) (change number)
      at_one count same = ap (λ n. lookup (nat_eq n) (map (numbered see) new)) same
          ∙ lookup-numbered see count new ∙ each count
          ∙ ap (λ found. then_some found (change (counted count))) (sym (lookup-numbered see count old))
          ∙ ap (λ n. then_some (lookup (nat_eq n) (map (numbered see) old)) (change n)) (sym same)

      none : {A : Type 0} (found : Option A) → is_some found ≡ false → found ≡ None
      none None is = refl
      none (Some a) is = absurd (true≢false is)

      by : (a : Bool) → is_some (lookup (nat_eq number) (map (numbered see) new)) ≡ a
          → (b : Bool) → is_some (lookup (nat_eq number) (map (numbered see) old)) ≡ b
          → lookup (nat_eq number) (map (numbered see) new)
          ≡ then_some (lookup (nat_eq number) (map (numbered see) old)) (change number)
      by true is b was = let at = found_count see number new is in at_one at.0 at.1
      by false is true was = let at = found_count see number old was in at_one at.0 at.1
      by false is false was = none _ is ∙ sym (ap (λ found. then_some found (change number)) (none _ was))

  -- the entries that are left are the changed ones
  pub entries_ended : map (numbered see) new ≡ filter_map (changed_entry change) (map (numbered see) old)
  entries_ended = same_entries (map (numbered see) new) (filter_map (changed_entry change) (map (numbered see) old))
      (rising_numbers see new ordered_new)
      (rising-changed change (map (numbered see) old) (rising_numbers see old ordered)) (λ number. at_number number
      ∙ sym (lookup-changed change (map (numbered see) old) (rising_numbers see old ordered) number))

-- what is found was found before it was handed
pub was_handed : {A : Type 0} (hand : A → Option A) (old new : Option A) (among : Bool) (value : A)
    → new ≡ (if among then then_some old hand else old)
    → ((one : A) → old ≡ Some one → among ≡ false → hand one ≡ Some one) → new ≡ Some value
    → (was : A) × (old ≡ Some was) × (hand was ≡ Some value)
was_handed {A} hand old new among value is unhanded at = by among refl old refl (sym is ∙ at)
  where
    by : (b : Bool) → among ≡ b → (found : Option A) → old ≡ found
        → (if b then then_some found hand else found) ≡ Some value
        → (was : A) × (old ≡ Some was) × (hand was ≡ Some value)
    by true is None from at = absurd (true≢false (sym (ap is_some at)))
    by true is (Some was) from at = (was, from, at)
    by false is None from at = absurd (true≢false (sym (ap is_some at)))
    by false is (Some was) from at = (was, from, unhanded was from is ∙ at)

-- what is found where one entry is removed was there, and is another
pub not_removed : {A : Type 0} (b : Bool) (found new : Option A) (value : A) → new ≡ cond b None found → new ≡ Some value
    → (found ≡ Some value) × (b ≡ false)
not_removed true found new value is at = absurd (true≢false (sym (ap is_some (sym is ∙ at))))
not_removed false found new value is at = (sym is ∙ at, refl)

-- one that holds would be among them
pub held_not : (held among : Bool) → (held ≡ true → among ≡ true) → among ≡ false → held ≡ false
held_not true among is not = absurd (true≢false (sym (is refl) ∙ not))
held_not false among is not = refl

-- a choice of nothing before a step is one in the step
pub none_or : {A B : Type 0} (b : Bool) (found : Option A) (next : A → Option B)
    → then_some found (λ value. if b then None else next value) ≡ (if b then None else then_some found next)
none_or true None next = refl
none_or true (Some value) next = refl
none_or false found next = refl

-- the lost group has no master any longer
pub removed_at : {V W : Type 0} (see : V → W) (next : W → Option W) (lost count : ℕ) (old mid new : Option V)
    → new ≡ cond (is_at (nat_cmp lost) count) None mid → option_map see mid ≡ then_some (option_map see old) next
    → option_map see new
    ≡ then_some (option_map see old) (λ value. if nat_eq (counted count) (counted lost) then None else next value)
removed_at {V} see next lost count old mid new is each = ap (option_map see) (is ∙ ap (λ b. cond b None mid)
    (at_count lost count ∙ counted_test lost count)) ∙ by (nat_eq lost count) refl
    ∙ sym (none_or (nat_eq (counted count) (counted lost)) (option_map see old) next)
  where
    by : (b : Bool) → nat_eq lost count ≡ b → option_map see (cond b None mid)
        ≡ (if nat_eq (counted count) (counted lost) then None else then_some (option_map see old) next)
    by true same = ap (λ b. if b then None else then_some (option_map see old) next)
        (sym (counted_test count lost ∙ nat_eq-swapped lost count true same))
    by false apart = each ∙ ap (λ b. if b then None else then_some (option_map see old) next)
        (sym (counted_test count lost ∙ nat_eq-swapped lost count false apart))
