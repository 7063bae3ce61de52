-- The groups that an attachment makes, against the types of its copies.
use Rattle.std.proofs.Common.{◌≡◌, ◌⊎◌, refl, sym, ap, subst, ◌∙◌, true≢false, inl, inr, ℕ, nat_eq, eq-eqb, eqb-true, Bool, true, false, cond, not, List, map, Option, Some, None, is_some, option_map, unwrap_or, filter_map, arith}
use Rattle.vt_spec.proofs.Common.{Among, Copies, Graft, Location, Mount, Private, Propagation, Shared, Slave, Twig, Unbindable, World, all_from_among, among-filter_map, among-flat_map, among-from_filter_map, among-from_flat_map, among-from_map, among-map, any_among, any_from_among, common_steps, contains_from_among, copies_at, copy_at, copy_type, graft_of, group_made, group_of, has_members, holds_of, image, is_among, is_among_numbers, is_destination, is_member_of, is_shared, master_after, mount_at, image_of_nearest_group, none_is_some, parts_of, then_some, twig_master, twig_of, type_at, type_at_part, when}
use Rattle.vt_mounting.proofs.Common.{HasGroup}
use Rattle.vt_laws_mounts.proofs.mounts.MountsFound.{number-mount_in}
use Rattle.vt_mounting.specs.Attach.AttachedGroups.{FormedGroupsBegin, GroupsOfCopiesAreNamed, HasGroupsOf, all_copies, groups_formed}
use Rattle.vt_laws_mounts.proofs.Groups.{no_group_of_heir}

-- the first of a pair, where it is given
first_given : {A B : Type 0} (f : A → B) (o : Option A) (entry : A × B) → option_map (λ a. (a, f a)) o ≡ Some entry
    → o ≡ Some entry.0
first_given f None entry e = none_is_some entry e
first_given f (Some a) entry e = ap (option_map (λ x. x.0)) e

some_given : (o : Option ℕ) (default : ℕ) → is_some o ≡ true → o ≡ Some (unwrap_or o default)
some_given None default e = absurd (true≢false (sym e))
some_given (Some a) default e = refl

module _ (new : Copies ℕ) where
  -- a shared mount keeps its group, and at a shared destination each mount has one
  same_group : (o : Option ℕ) (mount : Mount ℕ) → is_shared mount.propagation ≡ true
      → group_of (type_at new o mount) ≡ group_of mount.propagation
  same_group None mount shared = refl
  same_group (Some group) mount shared = grind (arith, common_steps)

  has_group : (o : Option ℕ) (mount : Mount ℕ) → is_some o ≡ true → is_some (group_of (type_at new o mount)) ≡ true
  has_group None mount some = absurd (true≢false (sym some))
  has_group (Some group) mount some = grind (arith, common_steps)

module _ (world : World ℕ) (new : Copies ℕ) (place : Location ℕ) (moves : Bool) (tree : List (Mount ℕ)) where
  abbrev target : Mount ℕ
  target = mount_at nat_eq world place

  abbrev graft : Graft ℕ
  graft = graft_of nat_eq world new place moves tree

  abbrev parts : List (Mount ℕ)
  parts = parts_of nat_eq world place

  is_first : is_destination nat_eq graft target.number ≡ true
  is_first = eq-eqb target.number place.mount (number-mount_in world.mounts place.mount)

  copy_in : (part : Mount ℕ) (twig : Twig ℕ) → Among part parts → Among twig graft.twigs → (group : ℕ)
      → group_of (type_at_part nat_eq world new graft parts part twig) ≡ Some group
      → has_members nat_eq (all_copies world new place moves tree) group ≡ true
  copy_in part twig m t group is = any_from_among (is_member_of nat_eq group) (all_copies world new place moves tree)
      (copy_at nat_eq world new graft parts part twig)
      (among-flat_map (copies_at nat_eq world new graft parts) parts part
      (copy_at nat_eq world new graft parts part twig) m
      (among-map (copy_at nat_eq world new graft parts part) graft.twigs twig t))
      (ap (holds_of (nat_eq group)) is ∙ eq-eqb group group refl)

  -- a group is made for a type of its own
  begun : (part : Mount ℕ) (twig : Twig ℕ) (entry : ℕ × Option ℕ)
      → group_made nat_eq world new graft parts part twig ≡ Some entry
      → group_of (type_at_part nat_eq world new graft parts part twig) ≡ Some entry.0
  begun part twig entry = grind (arith, common_steps)

  made_in : (part : Mount ℕ) (twig : Twig ℕ) (entry : ℕ × Option ℕ) → Among part parts → Among twig graft.twigs
      → group_made nat_eq world new graft parts part twig ≡ Some entry
      → is_among nat_eq entry.0 (map (λ (other : ℕ × Option ℕ). other.0) (groups_formed world new place moves tree))
      ≡ true
  made_in part twig entry m t is =
      is_among_numbers (map (λ (other : ℕ × Option ℕ). other.0) (groups_formed world new place moves tree)) entry.0
      (among-map (λ (other : ℕ × Option ℕ). other.0) (groups_formed world new place moves tree) entry
      (among-flat_map (λ one. filter_map (group_made nat_eq world new graft parts one) graft.twigs) parts part entry m
      (among-filter_map (group_made nat_eq world new graft parts part) graft.twigs twig entry t is)))

  module _ (there : HasGroupsOf world tree) where
    abbrev IsNamed : ℕ → Type 0
    IsNamed group = HasGroup world group
        ⊎ (is_among nat_eq group (map (λ (other : ℕ × Option ℕ). other.0) (groups_formed world new place moves tree))
        ≡ true)

    at_destination : (twig : Twig ℕ) → Among twig graft.twigs → (group : ℕ) → group_of twig.propagation ≡ Some group
        → IsNamed group
    at_destination twig t group is = by (is_shared twig.origin.propagation) refl
      where
        by : (b : Bool) → is_shared twig.origin.propagation ≡ b → IsNamed group
        by true e =
            let from = among-from_map (twig_of new (group_of target.propagation)) tree twig t in
            let origin : twig.origin ≡ from.0 = ap (λ (x : Twig ℕ). x.origin) from.2 in
            inl (there from.0 (contains_from_among tree from.0 from.1) group
            (sym (same_group new (group_of target.propagation) from.0
            (ap (λ (x : Mount ℕ). is_shared x.propagation) (sym origin) ∙ e))
            ∙ ap (λ (x : Twig ℕ). group_of x.propagation) (sym from.2) ∙ is))
        by false e = inr (made_in target twig (group, master_after twig.origin.propagation) (inl refl) t
            ((λ i. cond (is_first i) (twig_master twig)
            (then_some (group_of target.propagation) (λ other. when (not (is_member_of nat_eq other target)) (
              image nat_eq new target twig other,
              image_of_nearest_group nat_eq world new parts target twig (world.master other),
            )))) ∙ (λ i. cond (e i) None (option_map (λ other. (other, master_after twig.origin.propagation)) (is i)))))

    named_at : (part : Mount ℕ) (twig : Twig ℕ) → Among part parts → Among twig graft.twigs → (group : ℕ)
        → group_of (type_at_part nat_eq world new graft parts part twig) ≡ Some group → IsNamed group
    named_at part twig m t group = by (is_destination nat_eq graft part.number) refl
      where
        as_first : (own : ℕ) → is_member_of nat_eq own target ≡ true
            → Some (unwrap_or (group_of twig.propagation) (new.image own twig.origin.number)) ≡ Some group
            → IsNamed group
        as_first own member is =
            let from = among-from_map (twig_of new (group_of target.propagation)) tree twig t in
            at_destination twig t group (some_given (group_of twig.propagation) (new.image own twig.origin.number)
            (ap (λ (x : Twig ℕ). is_some (group_of x.propagation)) from.2
            ∙ has_group new (group_of target.propagation) from.0 (by_holds (group_of target.propagation) member)) ∙ is)
          where
            by_holds : (o : Option ℕ) → holds_of (nat_eq own) o ≡ true → is_some o ≡ true
            by_holds None e = e
            by_holds (Some a) e = refl

        elsewhere : (own : ℕ) → part.propagation ≡ Shared own → is_destination nat_eq graft part.number ≡ false
            → Some (image nat_eq new target twig own) ≡ Some group → IsNamed group
        elsewhere own kind other is = by_member (is_member_of nat_eq own target) refl
          where
            above : Option ℕ
            above = image_of_nearest_group nat_eq world new parts target twig (world.master own)

            by_member : (b : Bool) → is_member_of nat_eq own target ≡ b → IsNamed group
            by_member true e = as_first own e
                (ap (λ b. Some (cond b (unwrap_or (group_of twig.propagation) (new.image own twig.origin.number))
                (new.image own twig.origin.number))) (sym e) ∙ is)
            by_member false e = subst IsNamed (ap (λ o. unwrap_or o group) is)
                (inr (made_in part twig (image nat_eq new target twig own, above) m t
                ((λ i. cond (other i) (twig_master twig)
                (then_some (group_of (kind i)) (λ one. when (not (is_member_of nat_eq one target)) (
                  image nat_eq new target twig one,
                  image_of_nearest_group nat_eq world new parts target twig (world.master one),
                )))) ∙ ap (λ b. when (not b) (image nat_eq new target twig own, above)) e)))

        by_kind : (kind : Propagation ℕ) → part.propagation ≡ kind → is_destination nat_eq graft part.number ≡ false
            → group_of (copy_type nat_eq world new parts target twig kind) ≡ Some group → IsNamed group
        by_kind (Shared own) kind other is = elsewhere own kind other is
        by_kind (Slave master) kind other is = none_is_some group (sym (no_group_of_heir
            (image_of_nearest_group nat_eq world new parts target twig (Some master))) ∙ is)
        by_kind Private kind other is = none_is_some group is
        by_kind Unbindable kind other is = none_is_some group is

        by : (b : Bool) → is_destination nat_eq graft part.number ≡ b
            → group_of (cond b twig.propagation (copy_type nat_eq world new parts target twig part.propagation))
            ≡ Some group → IsNamed group
        by true e is = at_destination twig t group is
        by false e is = by_kind part.propagation refl e is

pub formed_groups_begin : FormedGroupsBegin
formed_groups_begin world new place moves tree =
    all_from_among (λ (entry : ℕ × Option ℕ). has_members nat_eq (all_copies world new place moves tree) entry.0 ≡ true)
    (groups_formed world new place moves tree) (λ entry m.
    let graft = graft_of nat_eq world new place moves tree in
    let parts = parts_of nat_eq world place in
    let part = among-from_flat_map
    (λ one. filter_map (group_made nat_eq world new graft parts one) graft.twigs) parts entry m in
    let twig = among-from_filter_map (group_made nat_eq world new graft parts part.0) graft.twigs entry part.2 in
    copy_in world new place moves tree part.0 twig.0 part.1 twig.1 entry.0
    (begun world new place moves tree part.0 twig.0 entry twig.2))

pub groups_of_copies_are_named : GroupsOfCopiesAreNamed
groups_of_copies_are_named world new place moves tree there group has =
    let graft = graft_of nat_eq world new place moves tree in
    let parts = parts_of nat_eq world place in
    let copy = any_among (is_member_of nat_eq group) (all_copies world new place moves tree) has in
    let part = among-from_flat_map (copies_at nat_eq world new graft parts) parts copy.0 copy.1 in
    let twig = among-from_map (copy_at nat_eq world new graft parts part.0) graft.twigs copy.0 part.2 in
    named_at world new place moves tree there part.0 twig.0 part.1 twig.1 group
    (ap (λ (x : Mount ℕ). group_of x.propagation) (sym twig.2) ∙ member (group_of copy.0.propagation) copy.2)
  where
    member : (o : Option ℕ) → holds_of (nat_eq group) o ≡ true → o ≡ Some group
    member None e = absurd (true≢false (sym e))
    member (Some a) e = ap Some (sym (eqb-true group a e))
