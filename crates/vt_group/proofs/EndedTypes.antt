-- Entries in order that a group's end changes or drops, found by their keys.
use Rattle.std.proofs.Common.{◌≡◌, ℕ, Bool, true, false, cond, List, [], ◌∷◌, map, nat_eq, nat_lt, Option, None, Some, option_map, refl, sym, ap, ◌∙◌, eqb-true, filter_map, if◌then◌else◌, unwrap_or, nat_cmp, Less, Equal, Greater}
use Rattle.vt_spec.proofs.Common.{AllByRecursion, Private, Propagation, Shared, Slave, Unbindable, and_from, and_parts, cons_option, keys_of, list_all, lookup, sorted_head, sorted_tail, then_some}
use Rattle.std.specs.List.Sorted.{IsStrictlySortedBy}
use Rattle.vt_spec.specs.Machine.Receives.{slave_of_heir}
use Rattle.vt_location.specs.Numbers.{counted}
use Rattle.vt_group.specs.Grouping.{are_rising}
use Rattle.vt_group.specs.Leaving.{type_after_end}
use Rattle.vt_group.specs.Steps.{handed_peer, handed_type}
use Rattle.vt_group.proofs.Regrouping.{keys, lookup-low}
use Rattle.vt_location.proofs.NumberLemmas.{counted_less}

-- the keys of a map rise

pub less_nat : (a b : ℕ) → nat_cmp a b ≡ Less → nat_lt a b ≡ true
less_nat a b e = by (nat_lt a b) (nat_eq a b) e
  where
    by : (less same : Bool) → cond less Less (cond same Equal Greater) ≡ Less → less ≡ true
    by true same e = refl
    by false true e = cc
    by false false e = cc

low_counted : {V W : Type 0} (f : V → W) (low : ℕ) (es : List (ℕ × V))
    → AllByRecursion (λ key. nat_cmp low key ≡ Less) (keys_of es)
    → list_all (nat_lt (counted low)) (keys (map (λ (e : ℕ × V). (counted e.0, f e.1)) es)) ≡ true
low_counted f low [] all = refl
low_counted f low (e ∷ es) all =
    and_from _ _ (counted_less low e.0 ∙ less_nat low e.0 all.0) (low_counted f low es all.1)

-- the numbers of entries in order rise
pub rising_numbers : {V W : Type 0} (f : V → W) (es : List (ℕ × V)) → IsStrictlySortedBy nat_cmp (keys_of es)
    → are_rising (keys (map (λ (e : ℕ × V). (counted e.0, f e.1)) es)) ≡ true
rising_numbers f [] sorted = refl
rising_numbers f (e ∷ es) sorted = and_from _ _ (low_counted f e.0 es (sorted_head nat_cmp e.0 (keys_of es) sorted))
    (rising_numbers f es (sorted_tail nat_cmp e.0 (keys_of es) sorted))

-- entries that a function changes or drops

module _ {V : Type 0} (change : ℕ → V → Option V) where
  -- an entry with another value, or none
  abbrev pub changed_entry : ℕ × V → Option (ℕ × V)
  changed_entry entry = option_map (λ value. (entry.0, value)) (change entry.0 entry.1)

  low-changed : (low : ℕ) (es : List (ℕ × V)) → list_all (nat_lt low) (keys es) ≡ true
      → list_all (nat_lt low) (keys (filter_map changed_entry es)) ≡ true
  low-changed low [] all = refl
  low-changed low (e ∷ es) all = by (change e.0 e.1) (low-changed low es (and_parts _ _ all).1)
    where
      by : (o : Option V) → list_all (nat_lt low) (keys (filter_map changed_entry es)) ≡ true
          → list_all (nat_lt low) (keys (cons_option (option_map (λ value. (e.0, value)) o) (filter_map changed_entry es)))
          ≡ true
      by None later = later
      by (Some v) later = and_from _ _ (and_parts _ _ all).0 later

  -- entries stay in order where values change and some go
  pub rising-changed : (es : List (ℕ × V)) → are_rising (keys es) ≡ true
      → are_rising (keys (filter_map changed_entry es)) ≡ true
  rising-changed [] rising = refl
  rising-changed (e ∷ es) rising =
      by (change e.0 e.1) (low-changed e.0 es (and_parts _ _ rising).0) (rising-changed es (and_parts _ _ rising).1)
    where
      by : (o : Option V) → list_all (nat_lt e.0) (keys (filter_map changed_entry es)) ≡ true
          → are_rising (keys (filter_map changed_entry es)) ≡ true
          → are_rising (keys (cons_option (option_map (λ value. (e.0, value)) o) (filter_map changed_entry es))) ≡ true
      by None low later = later
      by (Some v) low later = and_from _ _ low later

  -- what is found then is the changed value of what was
  pub lookup-changed : (es : List (ℕ × V)) → are_rising (keys es) ≡ true → (key : ℕ)
      → lookup (nat_eq key) (filter_map changed_entry es) ≡ then_some (lookup (nat_eq key) es) (change key)
  lookup-changed [] rising key = refl
  lookup-changed (e ∷ es) rising key = by (nat_eq key e.0) refl (lookup-changed es (and_parts _ _ rising).1 key)
    where
      here : (o : Option V) → change e.0 e.1 ≡ o → lookup (nat_eq key) (filter_map changed_entry es) ≡ None
          → nat_eq key e.0 ≡ true
          → lookup (nat_eq key) (cons_option (option_map (λ value. (e.0, value)) o) (filter_map changed_entry es)) ≡ o
      here None f absent same = absent
      here (Some v) f absent same = ap (λ b. cond b (Some v) (lookup (nat_eq key) (filter_map changed_entry es))) same

      there : (o : Option V) → nat_eq key e.0 ≡ false
          → lookup (nat_eq key) (cons_option (option_map (λ value. (e.0, value)) o) (filter_map changed_entry es))
          ≡ lookup (nat_eq key) (filter_map changed_entry es)
      there None apart = refl
      there (Some v) apart = ap (λ b. cond b (Some v) (lookup (nat_eq key) (filter_map changed_entry es))) apart

      by : (b : Bool) → nat_eq key e.0 ≡ b
          → lookup (nat_eq key) (filter_map changed_entry es) ≡ then_some (lookup (nat_eq key) es) (change key)
          → lookup (nat_eq key) (cons_option (option_map (λ value. (e.0, value)) (change e.0 e.1))
          (filter_map changed_entry es)) ≡ then_some (cond b (Some e.1) (lookup (nat_eq key) es)) (change key)
      by true is later = here (change e.0 e.1) refl (lookup-low key (filter_map changed_entry es)
          (ap (λ k. list_all (nat_lt k) (keys (filter_map changed_entry es))) (eqb-true key e.0 is)
          ∙ low-changed e.0 es (and_parts _ _ rising).0)) is ∙ ap (λ k. change k e.1) (sym (eqb-true key e.0 is))
      by false is later = there (change e.0 e.1) is ∙ later

-- what a mount's type is after a group ended
pub once_ended : (lost : ℕ) (heir : Option ℕ) (found : Option (Propagation ℕ))
    → unwrap_or (then_some found (handed_type lost heir)) Private ≡ type_after_end lost heir (unwrap_or found Private)
once_ended lost heir None = refl
once_ended lost heir (Some (Shared group)) = refl
once_ended lost heir (Some (Slave master)) = by (nat_eq master lost) heir
  where
    by : (b : Bool) (o : Option ℕ) → unwrap_or (option_map Slave (if b then o else Some master)) Private
        ≡ (if b then slave_of_heir o else Slave master)
    by true None = refl
    by true (Some above) = refl
    by false o = refl
once_ended lost heir (Some Private) = refl
once_ended lost heir (Some Unbindable) = refl

-- once a group has ended each mount has the type that the end of the group leaves it
pub type-ended : (lost : ℕ) (heir : Option ℕ) (peers : List (ℕ × Propagation ℕ)) → are_rising (keys peers) ≡ true
    → (mount : ℕ) → unwrap_or (lookup (nat_eq mount) (filter_map (handed_peer lost heir) peers)) Private
    ≡ type_after_end lost heir (unwrap_or (lookup (nat_eq mount) peers) Private)
type-ended lost heir peers rising mount =
    ap (λ o. unwrap_or o Private) (lookup-changed (λ number. handed_type lost heir) peers rising mount)
    ∙ once_ended lost heir (lookup (nat_eq mount) peers)
