-- Descriptors in the order of their numbers.
use Rattle.std.proofs.Common.{Bool, List, [], arith, cond, false, le-leb, leb-true, nat_le, refl, true, ℕ, ◌+◌, ◌==◌, ◌∷◌, ◌≡◌, ◌≤◌}
use Rattle.std.proofs.lemmas.Bool.{and_from, and_parts}
use Rattle.std.specs.List.{filter}
use Rattle.vt_spec.specs.Machine.Invariants.{are_ascending_from}
use Rattle.vt_spec.specs.Machine.Descriptors.{free_from}
use Rattle.vt_spec.specs.Machine.World.{Descriptor}

-- descriptors above a number are above a lower one
pub ascending_lower : (lower least : ℕ) (list : List (Descriptor ℕ)) → lower ≤ least
    → are_ascending_from least list ≡ true → are_ascending_from lower list ≡ true
ascending_lower lower least [] le h = refl
ascending_lower lower least (descriptor ∷ list) le h =
    let above = leb-true least descriptor.number
    ((and_parts (nat_le least descriptor.number) (are_ascending_from (descriptor.number + 1) list) h).0) in
    and_from (nat_le lower descriptor.number) (are_ascending_from (descriptor.number + 1) list)
    (le-leb lower descriptor.number (omega (arith, above, le)))
    ((and_parts (nat_le least descriptor.number) (are_ascending_from (descriptor.number + 1) list) h).1)

-- those that are kept stay in order
pub ascending-filter : (stays : Descriptor ℕ → Bool) (least : ℕ) (list : List (Descriptor ℕ))
    → are_ascending_from least list ≡ true → are_ascending_from least (filter stays list) ≡ true
ascending-filter stays least [] h = refl
ascending-filter stays least (descriptor ∷ list) h = by (stays descriptor)
    (ascending-filter stays (descriptor.number + 1) list
    ((and_parts (nat_le least descriptor.number) (are_ascending_from (descriptor.number + 1) list) h).1))
  where
    low : nat_le least descriptor.number ≡ true
    low = (and_parts (nat_le least descriptor.number) (are_ascending_from (descriptor.number + 1) list) h).0

    by : (b : Bool) → are_ascending_from (descriptor.number + 1) (filter stays list) ≡ true
        → are_ascending_from least (cond b (descriptor ∷ filter stays list) (filter stays list)) ≡ true
    by true rest = and_from (nat_le least descriptor.number)
        (are_ascending_from (descriptor.number + 1) (filter stays list)) low rest
    by false rest =
        let above = leb-true least descriptor.number low in
        ascending_lower least (descriptor.number + 1) (filter stays list) (omega (arith, above)) rest

-- a free number is no lower than where the search began
pub free_above : (number : ℕ) (list : List (Descriptor ℕ)) → number ≤ free_from number list
free_above number [] = omega arith
free_above number (descriptor ∷ list) = by (descriptor.number == number) (free_above (number + 1) list)
  where
    by : (b : Bool) → number + 1 ≤ free_from (number + 1) list → number ≤ cond b (free_from (number + 1) list) number
    by true h = omega arith
    by false h = omega arith
