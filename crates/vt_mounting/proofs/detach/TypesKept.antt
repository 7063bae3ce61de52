-- Events that change types of mounts keep to the numbers that the world had, and to those of the groups that are made.
use Rattle.std.proofs.Common.{◌≡◌, ◌<◌, refl, sym, ap, subst, ◌∙◌, ℕ, ◌+◌, ◌*◌, ◌%◌, ◌/◌, ◌==◌, nat_eq, nat_lt, eq-eqb, ne_eqb, ltb-true, lt-ltb, Bool, true, false, cond, ◌||◌, ◌&&◌, List, [], ◌∷◌, ◌++◌, length, map, flat_map, Option, None, Some, arith}
use Rattle.vt_spec.proofs.Common.{Fresh, Mount, Namespace, Propagation, TaskName, ToSetType, TypeWord, common_steps, group_of, has_members, index_of, is_among, list_any-append, named_mounts, numbers_by, or_parts, retyped, settled, used_by_filesystem, used_by_mount}
use Rattle.vt_mounting.proofs.Common.{Grouping, Has, IsHeld, KeepsTo, WorldValue, counted_later, counts_from, index_bound, is_counted_before, mounts_in, permits_keep_to_numbers, world_of}
use Rattle.vt_group.specs.Grouping.{LacksGroup}
use Rattle.vt_retype.specs.Retyping.{retyped as retyped_entry}
use Rattle.vt_mounting.specs.Detach.Events.{Permits}
use Rattle.vt_mounting.proofs.detach.FileEvents.{permit_fits}
use Rattle.vt_mounting.proofs.detach.Staying.{IsDone}
use Rattle.vt_mounting.proofs.detach.TypesChanged.{IsRetyped, retyped_value, types_are_set, types_settled}
use Rattle.vt_mounting.proofs.detach.TypesSet.{attached_named}

-- Numbers that are no group's

abbrev pub group_count : Option ℕ → ℕ
group_count None = 0
group_count (Some group) = group

abbrev pub group_total : List (Mount ℕ) → ℕ
group_total [] = 0
group_total (mount ∷ rest) = group_count (group_of mount.propagation) + group_total rest

-- one that is greater than all together
beyond : (number : ℕ) (mounts : List (Mount ℕ)) → group_total mounts < number → has_members nat_eq mounts number ≡ false
beyond number [] more = refl
beyond number (mount ∷ rest) more = grind (arith, common_steps, beyond number rest, ne_eqb)

-- one that is not in use
unused_lacks : (number : ℕ) (mounts : List (Mount ℕ)) → is_among nat_eq number (flat_map used_by_mount mounts) ≡ false
    → has_members nat_eq mounts number ≡ false
unused_lacks number [] none = refl
unused_lacks number (mount ∷ rest) none = grind (arith, common_steps, unused_lacks number rest, list_any-append)

-- how a change of types is seen, whichever new numbers its groups have
abbrev pub SeenAs : WorldValue → TypeWord → List (Mount ℕ) → (ℕ → Propagation ℕ → Propagation ℕ) → Grouping → Type 0
SeenAs value word named kind groups = (group : ℕ → ℕ) → ((number : ℕ) → LacksGroup (world_of value) (group number))
    → (mounts_in (map (retyped_entry kind) value.mounts) ≡ (retyped nat_eq (world_of value) group word named).mounts)
    × Has (retyped nat_eq (world_of value) group word named) groups

module _ (value : WorldValue) (whole : IsHeld value) (name : TaskName) (number : ℕ) (word : TypeWord) (recursive : Bool)
    (permits : Permits value name (ToSetType number word recursive)) (kind : ℕ → Propagation ℕ → Propagation ℕ)
    (groups : Grouping) where
  abbrev named : List (Mount ℕ)
  named = named_mounts nat_eq (world_of value) number recursive

  abbrev pub group : ℕ → ℕ
  group = numbers_by nat_eq (counts_from value.next) (named_mounts nat_eq (world_of value) number recursive)

  pub counts_lack : (k : ℕ) → LacksGroup (world_of value) (counts_from value.next k)
  counts_lack k =
      let used = flat_map used_by_mount (world_of value).mounts in
      let files = flat_map used_by_filesystem (world_of value).filesystems in
      let spaces = map (λ (namespace : Namespace ℕ). namespace.number) (world_of value).namespaces in
      let all = sym (list_any-append (nat_eq (counts_from value.next k)) (used ++ files) spaces)
      ∙ permits.given.serves.unused k in
      let some = sym (list_any-append (nat_eq (counts_from value.next k)) used files) ∙ (or_parts _ _ all).0 in
      unused_lacks (counts_from value.next k) (world_of value).mounts (or_parts _ _ some).0

  pub groups_lack : (one : ℕ) → LacksGroup (world_of value) (group one)
  groups_lack one = counts_lack (index_of nat_eq named one)

  named_number : is_counted_before value.next number ≡ true
  named_number = attached_named value whole number permits.task.namespace
      (permit_fits value whole name (ToSetType number word recursive) permits).names

  -- an even number that is no group's
  abbrev pub even : ℕ
  even = 2 * (1 + group_total (world_of value).mounts)

  pub is_even : is_counted_before value.next even ≡ true
  is_even = ap (λ b. b || (even % 4 == 1 && nat_lt (even / 4) value.next)) (eq-eqb (even % 2) 0 (omega arith))

  pub even_lacks : (one : ℕ) → LacksGroup (world_of value) even
  even_lacks one = beyond even (world_of value).mounts (omega arith)

  module _ (seen : SeenAs value word (named_mounts nat_eq (world_of value) number recursive) kind groups) where
    abbrev here : IsRetyped value group word named kind groups
    here = let both = seen group groups_lack in record { whole = whole; mounts = both.0; has = both.1 }

    abbrev pub changed_value : ℕ → WorldValue
    changed_value next = retyped_value here next

    -- no number is taken: the numbers of the groups may be any
    pub keeps_numbers : KeepsTo (is_counted_before value.next) (world_of (changed_value value.next))
    keeps_numbers =
        let there = seen (λ one. even) even_lacks in
        subst (KeepsTo (is_counted_before value.next))
        (types_settled (record { whole = whole; mounts = there.0; has = there.1 }))
        (permits_keep_to_numbers (is_counted_before value.next) (λ k. even) (world_of value) permits.task
        (ToSetType number word recursive) permits.given.called whole.given (λ k. is_even) named_number)

    pub types_are_changed : IsDone value name (ToSetType number word recursive) (changed_value value.next)
    types_are_changed = types_are_set permits here value.next keeps_numbers

  -- mounts that become shared take a number each
  module _ (mounts : mounts_in (map (retyped_entry kind) value.mounts)
      ≡ (retyped nat_eq (world_of value) group word named).mounts)
      (has : Has (retyped nat_eq (world_of value) group word named) groups)
      (some : 0 < length (named_mounts nat_eq (world_of value) number recursive)) where
    abbrev retypes : IsRetyped value group word named kind groups
    retypes = record { whole = whole; mounts = mounts; has = has }

    abbrev pub later : ℕ
    later = value.next + length (named_mounts nat_eq (world_of value) number recursive)

    abbrev supply : Fresh ℕ
    supply k = cond (nat_lt k (length named)) (counts_from value.next k) even

    supply_is : (one : ℕ) → numbers_by nat_eq supply named one ≡ group one
    supply_is one = ap (λ b. cond b (counts_from value.next (index_of nat_eq named one)) even)
        (lt-ltb (index_of nat_eq named one) (length named) (index_bound named one some))

    counted_low : (k : ℕ) (b : Bool) → nat_lt k (length named) ≡ b
        → is_counted_before later (cond b (counts_from value.next k) even) ≡ true
    counted_low k true e = grind (arith, common_steps, eq-eqb, lt-ltb, ltb-true)
    counted_low k false e = counted_later value.next later even (omega arith) is_even

    keeps_taken : KeepsTo (is_counted_before later)
        (world_of (retyped_value retypes value.next))
    keeps_taken = subst (KeepsTo (is_counted_before later))
        (ap (λ numbers. settled nat_eq (retyped nat_eq (world_of value) numbers word named)) (λ i one. supply_is one i)
        ∙ types_settled retypes)
        (permits_keep_to_numbers (is_counted_before later) supply (world_of value) permits.task
        (ToSetType number word recursive) permits.given.called (λ renaming leaves. whole.given renaming
        (λ n is. leaves n (counted_later value.next later n (omega arith) is)))
        (λ k. counted_low k (nat_lt k (length named)) refl)
        (counted_later value.next later number (omega arith) named_number))

    pub types_are_shared : IsDone value name (ToSetType number word recursive)
        (retyped_value retypes later)
    types_are_shared =
        types_are_set permits retypes later keeps_taken
