-- The groups of copies, and those that they form with their masters: groups of what is copied, and new ones.
use Rattle.std.proofs.Common.{arith, ◌≡◌, sym, ap, subst, ◌∙◌, ℕ, nat_eq, Bool, true, false, cond, List, Option, Some, None, find, not, option_map, filter_map}
use Rattle.vt_spec.proofs.Common.{Among, Copies, Graft, Location, Mount, Propagation, Twig, World, all_groups_made, among-from_filter_map, among-from_flat_map, among-from_map, common_steps, copy_at, copy_type, graft_of, group_made, group_of, groups_up, has_members, image, is_destination, is_member_of, master_after, mount_at, image_of_nearest_group, none_is_some, parts_of, same_Some, source_of, then_some, twig_master, twig_of, type_at, when}
use Rattle.vt_laws_mounts.proofs.GroupsUp.{source_from_group}

-- a group with its master
abbrev pub AreOf : (ℕ → Type 0) → ℕ × Option ℕ → Type 0
AreOf Ours entry = Ours entry.0 × ((group : ℕ) → entry.1 ≡ Some group → Ours group)

module _ (base : World ℕ) (new : Copies ℕ) (place : Location ℕ) (moves : Bool) (origins : List (Mount ℕ))
    (Ours : ℕ → Type 0) (new_groups : (a b : ℕ) → Ours (new.image a b))
    (sources : (o : Mount ℕ) → Among o origins → (g : ℕ) → source_of o.propagation ≡ Some g → Ours g) where
  abbrev destination : Mount ℕ
  destination = mount_at nat_eq base place

  abbrev tree : Graft ℕ
  tree = graft_of nat_eq base new place moves origins

  abbrev parts : List (Mount ℕ)
  parts = parts_of nat_eq base place

  abbrev twig : Mount ℕ → Twig ℕ
  twig = twig_of new (group_of destination.propagation)

  -- at the destination
  twig_ours : (o : Mount ℕ) → Among o origins → (g : ℕ)
      → source_of (type_at new (group_of destination.propagation) o) ≡ Some g → Ours g
  twig_ours o m g = grind (arith, common_steps, same_Some)

  image_ours : (o : Mount ℕ) → Among o origins → (group : ℕ) → Ours (image nat_eq new destination (twig o) group)
  image_ours o m group = grind (arith, common_steps, twig_ours, source_from_group)

  found_ours : (o : Mount ℕ) → Among o origins → (found : Option ℕ) (g : ℕ)
      → option_map (image nat_eq new destination (twig o)) found ≡ Some g → Ours g
  found_ours o m None g e = none_is_some g e
  found_ours o m (Some group) g e = subst Ours (same_Some _ g e) (image_ours o m group)

  nearest_ours : (o : Mount ℕ) → Among o origins → (above : Option ℕ) (g : ℕ)
      → image_of_nearest_group nat_eq base new parts destination (twig o) above ≡ Some g → Ours g
  nearest_ours o m None g e = none_is_some g e
  nearest_ours o m (Some group) g e = found_ours o m (find (has_members nat_eq parts) (groups_up base group)) g e

  -- at a receiver
  type_ours : (o : Mount ℕ) → Among o origins → (kind : Propagation ℕ) (g : ℕ)
      → source_of (copy_type nat_eq base new parts destination (twig o) kind) ≡ Some g → Ours g
  type_ours o m kind g h = grind (arith, common_steps, same_Some, image_ours, none_is_some, nearest_ours)

  pub copy_ours : (p o : Mount ℕ) → Among o origins → (g : ℕ)
      → source_of (copy_at nat_eq base new tree parts p (twig o)).propagation ≡ Some g → Ours g
  copy_ours p o m g = grind (arith, common_steps, twig_ours, type_ours)

  -- groups that copies form
  after_ours : (o : Mount ℕ) → Among o origins → (g : ℕ) → master_after o.propagation ≡ Some g → Ours g
  after_ours o m g e = grind (arith, common_steps, none_is_some)

  made_there : (o : Mount ℕ) → Among o origins → (entry : ℕ × Option ℕ) → twig_master (twig o) ≡ Some entry
      → AreOf Ours entry
  made_there o m entry e =
      grind (arith, common_steps, none_is_some, same_Some, twig_ours, source_from_group, after_ours)

  made_elsewhere : (o : Mount ℕ) → Among o origins → (entry : ℕ × Option ℕ) (kind : Option ℕ)
      → then_some kind (λ group. when (not (is_member_of nat_eq group destination)) (
        image nat_eq new destination (twig o) group,
        image_of_nearest_group nat_eq base new parts destination (twig o) (base.master group),
      )) ≡ Some entry → AreOf Ours entry
  made_elsewhere o m entry kind e = grind (arith, common_steps, none_is_some, same_Some, image_ours, nearest_ours)

  pub made_ours : (entry : ℕ × Option ℕ) → Among entry (all_groups_made nat_eq base new tree parts) → AreOf Ours entry
  made_ours entry m =
      let part = among-from_flat_map (λ p. filter_map (group_made nat_eq base new tree parts p) tree.twigs) parts entry
      m in
      let its_twig = among-from_filter_map (group_made nat_eq base new tree parts part.0) tree.twigs entry part.2 in
      let origin = among-from_map twig origins its_twig.0 its_twig.1 in
      by part.0 origin.0 origin.1 (is_destination nat_eq tree part.0.number)
      (ap (group_made nat_eq base new tree parts part.0) (sym origin.2) ∙ its_twig.2)
    where
      by : (p o : Mount ℕ) → Among o origins → (b : Bool) → cond b (twig_master (twig o))
          (then_some (group_of p.propagation) (λ group. when (not (is_member_of nat_eq group destination)) (
            image nat_eq new destination (twig o) group,
            image_of_nearest_group nat_eq base new parts destination (twig o) (base.master group),
          ))) ≡ Some entry → AreOf Ours entry
      by p o n true h = made_there o n entry h
      by p o n false h = made_elsewhere o n entry (group_of p.propagation) h
