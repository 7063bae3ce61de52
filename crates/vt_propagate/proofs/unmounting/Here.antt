-- Where no other mount stands on an inode, an unmount there detaches none at receivers.
use Rattle.std.proofs.Common.{◌≡◌, ◌&&◌, ◌∷◌, ◌∙◌, Bool, List, None, Option, Some, [], ap, arith, eq-eqb, eqb-true, false, filter, filter_map, is_some, length, nat_eq, nat_lt, not, option_map, refl, subst, suc, sym, true, true≢false, zero, ℕ, ⊎_elim}
use Rattle.vt_spec.proofs.Common.{Among, Location, Mount, Private, Propagation, Shared, Slave, Unbindable, World, and_parts, chain, common_steps, going, group_of, groups_up, holds_of, is_among, or_false_left, or_false_right, same_location, source_of, when, list_all, list_any, mount_numbered, receives, same_Some, stands_at, then_some}
use Rattle.vt_group.specs.Grouping.{Grouping}
use Rattle.vt_laws_mounts.proofs.letting_go.Lists.{find_none}
use Rattle.vt_laws_mounts.specs.Mounts.Attaching.{numbers_of}
use Rattle.vt_mount.specs.MountsValue.{MountEntry, are_ascending, mounts_in, stands_over}
use Rattle.vt_propagate.specs.Going.{free_at, free_on, is_free, group_at, shared_point}
use Rattle.vt_propagate.specs.Seen.{IsSeen}
use Rattle.vt_propagate.proofs.Found.{numbered, numbered_among}
use Rattle.vt_propagate.proofs.Leaving.{going-everywhere}

-- Of mounts with numbers of their own at most one has this number

module _ (f : ℕ → Option (Mount ℕ)) (test : Mount ℕ → Bool) (number : ℕ)
    (none : (other : ℕ) → nat_eq number other ≡ false → f other ≡ None) where
  none_later : (later : List (Mount ℕ)) → list_all (λ mount. nat_lt number mount.number) later ≡ true
      → filter_map f (numbers_of (filter test later)) ≡ []
  none_later [] above = refl
  none_later (mount ∷ later) above = grind (arith, common_steps, none_later later, none mount.number)

  just_one : (mounts : List (Mount ℕ)) → are_ascending mounts ≡ true → (one : Mount ℕ)
      → numbered mounts number ≡ Some one → test one ≡ true
      → filter_map f (numbers_of (filter test mounts)) ≡ filter_map f (number ∷ [])
  just_one [] up one found passes = cc
  just_one (mount ∷ mounts) up one found passes =
      grind (arith, common_steps, just_one mounts, none_later mounts, none mount.number, eqb-true)

-- What stands there, and on which mount

record Stands (mounts : List (Mount ℕ)) (number : ℕ) (place : Location ℕ) (group : ℕ) : Type 0 where
  mount : Mount ℕ
  found : numbered mounts number ≡ Some mount
  at : mount.mount_point ≡ Some place
  parent : Mount ℕ
  below : numbered mounts place.mount ≡ Some parent
  shared : parent.propagation ≡ Shared group

stands : (mounts : List (Mount ℕ)) (number : ℕ) (found : Location ℕ × ℕ) → shared_point mounts number ≡ Some found
    → Stands mounts number found.0 found.1
stands mounts number found is = by (numbered mounts number) refl is
  where
    kind : (mount parent : Mount ℕ) (place : Location ℕ) → numbered mounts number ≡ Some mount
        → mount.mount_point ≡ Some place → numbered mounts place.mount ≡ Some parent
        → (type : Propagation ℕ) → parent.propagation ≡ type
        → option_map (λ group. (place, group)) (group_of type) ≡ Some found → Stands mounts number found.0 found.1
    kind mount parent place there at below (Shared group) shared is =
        subst (λ (it : Location ℕ × ℕ). Stands mounts number it.0 it.1) (same_Some (place, group) found is)
        (record { mount = mount; found = there; at = at; parent = parent; below = below; shared = shared })
    kind mount parent place there at below (Slave group) shared is = absurd (true≢false (sym (ap is_some is)))
    kind mount parent place there at below Private shared is = absurd (true≢false (sym (ap is_some is)))
    kind mount parent place there at below Unbindable shared is = absurd (true≢false (sym (ap is_some is)))

    over : (mount : Mount ℕ) (place : Location ℕ) → numbered mounts number ≡ Some mount
        → mount.mount_point ≡ Some place → (parent : Option (Mount ℕ)) → numbered mounts place.mount ≡ parent
        → option_map (λ group. (place, group)) (then_some parent (λ (m : Mount ℕ). group_of m.propagation)) ≡ Some found
        → Stands mounts number found.0 found.1
    over mount place there at None below is = absurd (true≢false (sym (ap is_some is)))
    over mount place there at (Some parent) below is =
        kind mount parent place there at below parent.propagation refl is

    point : (mount : Mount ℕ) → numbered mounts number ≡ Some mount → (at : Option (Location ℕ))
        → mount.mount_point ≡ at → then_some at (group_at mounts) ≡ Some found → Stands mounts number found.0 found.1
    point mount there None at is = absurd (true≢false (sym (ap is_some is)))
    point mount there (Some place) at is = over mount place there at (numbered mounts place.mount) refl is

    by : (mount : Option (Mount ℕ)) → numbered mounts number ≡ mount
        → then_some (then_some mount (λ (m : Mount ℕ). m.mount_point)) (group_at mounts) ≡ Some found
        → Stands mounts number found.0 found.1
    by None there is = absurd (true≢false (sym (ap is_some is)))
    by (Some mount) there is = point mount there mount.mount_point refl is

none_at : {A : Type 0} (test : A → Bool) (list : List A) → list_any test list ≡ false → (a : A) → Among a list
    → test a ≡ false
none_at test [] none a m = absurd m
none_at test (first ∷ rest) none a m = ⊎_elim (λ same. ap test same ∙ or_false_left _ _ none)
    (none_at test rest (or_false_right _ _ none) a) m

module _ {mounts : List (Mount ℕ)} {number : ℕ} {place : Location ℕ} {group : ℕ} (here : Stands mounts number place group)
    (up : are_ascending mounts ≡ true)
    (alone : list_any (λ other. stands_over place.node other && not (nat_eq number other.number)) mounts ≡ false) where
  elsewhere : (other : ℕ) → nat_eq place.mount other ≡ false
      → free_at mounts (record { mount = other; node = place.node }) ≡ None
  elsewhere other apart = ap (λ child. then_some child (λ child. when (is_free mounts child) child))
      (find_none (stands_at nat_eq (record { mount = other; node = place.node })) mounts
      (λ mount m. by mount m mount.mount_point refl))
    where
      none_there : (mount : Mount ℕ) → Among mount mounts → (point : Location ℕ) → mount.mount_point ≡ Some point
          → (b : Bool) → same_location nat_eq (record { mount = other; node = place.node }) point ≡ b → b ≡ false
      none_there mount m point at false is = refl
      none_there mount m point at true is = absurd (true≢false (sym stands_apart ∙ apart))
        where
          on_it : stands_over place.node mount ≡ true
          on_it = grind (arith, common_steps, and_parts, at, is)

          its_number : number ≡ mount.number
          its_number = grind (arith, common_steps, on_it, none_at _ mounts alone mount m, eqb-true)

          same : here.mount ≡ mount
          same = same_Some here.mount mount (sym here.found ∙ ap (numbered mounts) its_number
              ∙ numbered_among mounts up mount m)

          stands_apart : nat_eq place.mount other ≡ true
          stands_apart = grind (
            arith,
            common_steps,
            and_parts,
            is,
            same_Some place point
                (sym here.at ∙ ap (λ (m : Mount ℕ). m.mount_point) same ∙ at),
          )

      by : (mount : Mount ℕ) → Among mount mounts → (point : Option (Location ℕ)) → mount.mount_point ≡ point
          → stands_at nat_eq (record { mount = other; node = place.node }) mount ≡ false
      by mount m None at = ap (holds_of (same_location nat_eq (record { mount = other; node = place.node }))) at
      by mount m (Some point) at = ap (holds_of (same_location nat_eq (record { mount = other; node = place.node }))) at
          ∙ none_there mount m point at (same_location nat_eq (record { mount = other; node = place.node }) point) refl

own : (world : World ℕ) (group : ℕ) (mount : Mount ℕ) → mount.propagation ≡ Shared group
    → receives nat_eq world group mount ≡ true
own world group mount shared =
    ap (λ type. holds_of (λ source. is_among nat_eq group (groups_up world source)) (source_of type)) shared
    ∙ first (length world.mounts)
  where
    first : (n : ℕ) → is_among nat_eq group (chain n world.master group) ≡ true
    first zero = grind (arith, common_steps, eq-eqb)
    first (suc n) = grind (arith, common_steps, eq-eqb)

module _ {world : World ℕ} {kept : List MountEntry} {grouping : Grouping} (seen : IsSeen world kept grouping) where
  -- the mount goes if it is free, and none at another receiver
  pub going-here : (number : ℕ) (found : Location ℕ × ℕ) → shared_point (mounts_in kept) number ≡ Some found
      → are_ascending (mounts_in kept) ≡ true
      → list_any (λ other. stands_over found.0.node other && not (nat_eq number other.number)) (mounts_in kept) ≡ false
      → numbers_of (free_on (mounts_in kept) found.0.node (found.0.mount ∷ []))
      ≡ going nat_eq world (mount_numbered nat_eq world number)
  going-here number found is up alone =
      let here = stands (mounts_in kept) number found is in
      let test = receives nat_eq world found.1 in
      ap numbers_of (sym (just_one (λ receiver. free_at (mounts_in kept) (record { mount = receiver; node = found.0.node }))
      test found.0.mount (elsewhere here up alone) (mounts_in kept) up here.parent here.below
      (own world found.1 here.parent here.shared)))
      ∙ going-everywhere seen number found is (numbers_of (filter test (mounts_in kept)))
      (ap (λ mounts. numbers_of (filter test mounts)) seen.mounts)
