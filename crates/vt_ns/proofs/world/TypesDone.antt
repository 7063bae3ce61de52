-- The event of a change of types, as code does it.
use Rattle.std.proofs.Common.{◌≡◌, ◌<◌, refl, sym, ap, subst, ◌∙◌, ⊎_elim, ℕ, ◌+◌, nat_eq, Bool, true, false, List, [], ◌∷◌, length, map, Some, is_some, arith, All, Contains}
use Rattle.vt_spec.proofs.Common.{Mount, Propagation, TaskName, ToPrivate, ToSetType, ToShared, ToSlave, ToUnbindable, TypeWord, World, contains_from_among, index_of, length-map, map_twice, mount_numbered, named_mounts, numbers_by, retyped as policy_retyped, common_steps}
use Rattle.vt_ns.proofs.Common.{Among, Grouping, Has, IsDone, IsHeld, MountEntry, Permits, WorldValue, all_from_among, counts_from, found_is_there, is_seen, mounts_in, numbers_of, permit_fits, retyped as retyped_entry, world_of}
use Rattle.vt_group.specs.Grouping.{LacksGroup}
use Rattle.vt_laws_mounts.proofs.mounts.Standing.{trees_have_each_once}
use Rattle.vt_mounting.proofs.detach.TypesKept.{counts_lack, group, types_are_changed, types_are_shared}
use Rattle.vt_mounting.proofs.detach.TreesInNamespaces.{in_tree}
use Rattle.vt_ns.specs.Retyped.{IsRetyped, NumbersGroups, counted_after, with_counts}
use Rattle.vt_ns.proofs.RetypedMounts.{places_are_counted}
use Rattle.vt_laws_mounts.specs.Mounts.Attaching.{OneNumberAMount}

module _ (value : WorldValue) (whole : IsHeld value) (name : TaskName) (number : ℕ) (word : TypeWord) (recursive : Bool)
    (permits : Permits value name (ToSetType number word recursive)) where
  abbrev world : World ℕ
  world = world_of value

  abbrev named : List (Mount ℕ)
  named = named_mounts nat_eq (world_of value) number recursive

  own : (mount_numbered nat_eq (world_of value) number).namespace ≡ Some permits.task.namespace
  own = (permit_fits value whole name (ToSetType number word recursive) permits).names

  -- the mounts that the call names are mounts of the world
  named_contained : All (Contains (mounts_in value.mounts)) (named_mounts nat_eq (world_of value) number recursive)
  named_contained = by recursive
    where
      by : (b : Bool) → All (Contains (mounts_in value.mounts)) (named_mounts nat_eq (world_of value) number b)
      by true = all_from_among (Contains (mounts_in value.mounts)) (named_mounts nat_eq world number true) (λ mount m.
          contains_from_among (mounts_in value.mounts) mount
          (in_tree value whole number permits.task.namespace own mount m).0)
      by false =
          all_from_among (Contains (mounts_in value.mounts)) (mount_numbered nat_eq world number ∷ []) (λ mount m.
          ⊎_elim (λ same. contains_from_among (mounts_in value.mounts) mount
          (subst (λ one. Among one (mounts_in value.mounts)) (sym same)
          (found_is_there (mounts_in value.mounts) number (ap is_some own)))) (λ none. absurd none) m)

  once : OneNumberAMount (named_mounts nat_eq (world_of value) number recursive)
  once = by recursive
    where
      by : (b : Bool) → OneNumberAMount (named_mounts nat_eq (world_of value) number b)
      by true = trees_have_each_once world number whole.in_world.mounts.one_number whole.in_world.mounts.standing
      by false = refl

  -- and there is one at least
  named_some : 0 < length (named_mounts nat_eq (world_of value) number recursive)
  named_some = grind (arith, common_steps)

  module _ (mounts : List MountEntry) (groups : Grouping) (next : ℕ)
      (retyped : IsRetyped word value.next next (numbers_of
      (named_mounts nat_eq (world_of value) number recursive)) value.groups groups value.mounts mounts) where
    kinds : (kind : ℕ → Propagation ℕ → Propagation ℕ) × (mounts ≡ map (retyped_entry kind) value.mounts)
    kinds = retyped.kinds world (is_seen value whole)

    abbrev counted : ℕ → ℕ
    counted = group value whole name number word recursive permits kinds.0 groups

    lacking : (one : ℕ) → LacksGroup (world_of value) (counted one)
    lacking one = counts_lack value whole name number word recursive permits kinds.0 groups (index_of nat_eq named one)

    seen_by : (numbers : ℕ → ℕ) → ((one : ℕ) → LacksGroup (world_of value) (numbers one))
        → NumbersGroups word value.next (numbers_of (named_mounts nat_eq (world_of value) number recursive)) numbers
        → (mounts_in (map (retyped_entry kinds.0) value.mounts)
        ≡ (policy_retyped nat_eq (world_of value) numbers word named).mounts)
        × Has (policy_retyped nat_eq (world_of value) numbers word named) groups
    seen_by numbers lacks are =
        let seen = retyped.seen world numbers named (is_seen value whole) named_contained refl lacks are in
        (ap mounts_in (sym kinds.1) ∙ seen.mounts, seen.groups)

    abbrev IsDoneBy : ℕ → Type 0
    IsDoneBy later = IsDone value name (ToSetType number word recursive)
        (record value { mounts = map (retyped_entry kinds.0) value.mounts; groups = groups; next = later })

    done_after : (later : ℕ) → counted_after word value.next (numbers_of named) ≡ later → IsDoneBy later
        → IsDone value name (ToSetType number word recursive)
        (record value { mounts = mounts; groups = groups; next = next })
    done_after later same is = grind (arith, common_steps)

    -- where no mount becomes shared
    unshared_done : ((numbers : ℕ → ℕ)
        → NumbersGroups word value.next (numbers_of (named_mounts nat_eq (world_of value) number recursive)) numbers)
        → counted_after word value.next (numbers_of named) ≡ value.next
        → IsDone value name (ToSetType number word recursive)
        (record value { mounts = mounts; groups = groups; next = next })
    unshared_done any same = done_after value.next same
        (types_are_changed value whole name number word recursive permits kinds.0 groups
        (λ numbers lacks. seen_by numbers lacks (any numbers)))

    -- where each takes the number of a group
    shared_done : NumbersGroups word value.next (numbers_of named) counted
        → counted_after word value.next (numbers_of named) ≡ value.next + length named
        → IsDone value name (ToSetType number word recursive)
        (record value { mounts = mounts; groups = groups; next = next })
    shared_done are same =
        let seen = seen_by counted lacking are in
        done_after (value.next + length named) same
        (types_are_shared value whole name number word recursive permits kinds.0 groups seen.0 seen.1 named_some)

-- the named mounts get their type
pub types_done : (value : WorldValue) → IsHeld value → (name : TaskName) (number : ℕ) (word : TypeWord) (recursive : Bool)
    → Permits value name (ToSetType number word recursive) → (mounts : List MountEntry) (groups : Grouping) (next : ℕ)
    → IsRetyped word value.next next (numbers_of
    (named_mounts nat_eq (world_of value) number recursive)) value.groups groups value.mounts mounts
    → IsDone value name (ToSetType number word recursive)
    (record value { mounts = mounts; groups = groups; next = next })
types_done value whole name number ToShared recursive permits mounts groups next is =
    shared_done value whole name number ToShared recursive permits mounts groups next is
    (map_twice numbered (λ (mount : Mount ℕ). mount.number) named
    ∙ places_are_counted value.next 0 named (once value whole name number ToShared recursive permits)
    ∙ ap (λ n. with_counts n (numbers_of named)) none)
    (ap (λ n. value.next + n) (length-map named (λ (mount : Mount ℕ). mount.number)))
  where
    named : List (Mount ℕ)
    named = named_mounts nat_eq (world_of value) number recursive

    numbered : ℕ → ℕ × ℕ
    numbered one = (one, numbers_by nat_eq (counts_from value.next) named one)

    none : value.next + 0 ≡ value.next
    none = omega arith
types_done value whole name number ToSlave recursive permits mounts groups next is =
    unshared_done value whole name number ToSlave recursive permits mounts groups next is (λ numbers. tt) refl
types_done value whole name number ToPrivate recursive permits mounts groups next is =
    unshared_done value whole name number ToPrivate recursive permits mounts groups next is (λ numbers. tt) refl
types_done value whole name number ToUnbindable recursive permits mounts groups next is =
    unshared_done value whole name number ToUnbindable recursive permits mounts groups next is (λ numbers. tt) refl
