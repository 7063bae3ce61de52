-- A tree of mounts moves: what its plans say of the world then.
use Rattle.std.proofs.Common.{◌≡◌, ℕ, Bool, true, false, ◌&&◌, List, [], ◌∷◌, ◌⊎◌, inl, inr, ⊎_elim, map, nat_eq, Option, None, Some, is_some, refl, sym, ap, subst, true≢false, ◌∙◌, eq-eqb, Contains, if◌then◌else◌, option_map, unwrap_or, arith}
use Rattle.vt_spec.proofs.Common.{Among, Copies, Location, Mount, Twig, World, among-from_map, among-map, among_from_all, common_steps, contains_from_among, copies_at, copy_at, copy_number, first_of_list, folded, group_of, holds_of, is_top, mount_at, mount_point_on_copy, nat_eq-swapped, number-mount_in, or_else, parts_of, pushed_onto, moved_onto_copy, replaced_if_same, rest_of, same_location, stands_at, twig_of, with_mount}
use Rattle.vt_spec.specs.Machine.Attach as meant
use Rattle.vt_location.specs.Locations.{location_of}
use Rattle.vt_location.specs.MountValue.{mount_of}
use Rattle.vt_propagate.specs.declared.copying.Counts.{Counts}
use Rattle.vt_propagate.specs.declared.copying.Graft.{Graft}
use Rattle.vt_propagate.specs.Attaching.{IsMoved}
use Rattle.vt_propagate.specs.Falling.{moved_by}
use Rattle.vt_propagate.specs.Planned.{graft_in, numbers_at}
use Rattle.vt_propagate.specs.Pushing.{KeepsLeaver, PushesBy, leaver}
use Rattle.vt_propagate.proofs.Pushed.{receivers_apart}
use Rattle.vt_laws_mounts.proofs.letting_go.Lists.{find_none}

-- each mount is one of the new ones, or it was there and has the number of none of them
among-folded : (new mounts : List (Mount ℕ)) (mount : Mount ℕ) → Among mount (folded (with_mount nat_eq) mounts new)
    → Among mount new ⊎ (Among mount mounts
    × ((one : Mount ℕ) → Among one new → nat_eq mount.number one.number ≡ false))
among-folded [] mounts mount m = inr (m, λ one none. absurd none)
among-folded (a ∷ new) mounts mount m =
    ⊎_elim (λ later. inl (inr later)) (λ t. by t.0 t.1) (among-folded new (with_mount nat_eq mounts a) mount m)
  where
    by : Among mount (map (replaced_if_same nat_eq a) mounts)
        → ((one : Mount ℕ) → Among one new → nat_eq mount.number one.number ≡ false)
        → Among mount (a ∷ new) ⊎ (Among mount mounts
        × ((one : Mount ℕ) → Among one (a ∷ new) → nat_eq mount.number one.number ≡ false))
    by n apart =
        let from = among-from_map (replaced_if_same nat_eq a) mounts mount n in
        chosen from.0 from.1 from.2 (nat_eq a.number from.0.number) refl
      where
        chosen : (old : Mount ℕ) → Among old mounts → mount ≡ replaced_if_same nat_eq a old → (b : Bool)
            → nat_eq a.number old.number ≡ b
            → Among mount (a ∷ new) ⊎ (Among mount mounts × ((one : Mount ℕ) → Among one (a ∷ new)
            → nat_eq mount.number one.number ≡ false))
        chosen old m is true e = inl (inl (is ∙ ap (λ b. if b then a else old) e))
        chosen old m is false e =
            let same : mount ≡ old = is ∙ ap (λ b. if b then a else old) e in
            inr (
              subst (λ x. Among x mounts) (sym same) m,
              λ one n. ⊎_elim
                  (λ here. (λ i. nat_eq (same i).number (here i).number) ∙ nat_eq-swapped a.number old.number false e)
                  (λ later. apart one later) n,
            )

not_first : (number : ℕ) (twigs : List (Twig ℕ))
    → ((twig : Twig ℕ) → Among twig twigs → nat_eq number twig.origin.number ≡ false)
    → holds_of (λ twig. nat_eq number twig.origin.number) (first_of_list twigs) ≡ false
not_first number [] apart = refl
not_first number (twig ∷ twigs) apart = apart twig (inl refl)

in_rest : (new : Copies ℕ) (group : Option ℕ) (origin : Mount ℕ) (tree : List (Mount ℕ))
    → holds_of (λ twig. nat_eq origin.number twig.origin.number) (first_of_list (map (twig_of new group) tree)) ≡ false
    → Among origin tree → Among origin (rest_of tree)
in_rest new group origin [] e m = m
in_rest new group origin (top ∷ tree) e m =
    ⊎_elim (λ same. absurd (true≢false (sym (eq-eqb origin.number top.number (ap (λ x. x.number) same)) ∙ e)))
    (λ later. later) m

module _ {world : World ℕ} (graft : Graft) (counts : Counts) (points : List (ℕ × Location ℕ))
    (pushes : PushesBy world graft counts points) (keeps : KeepsLeaver graft points) (moves : graft.moves ≡ true)
    (is : IsMoved world (map mount_of graft.tree.now)) where
  abbrev place : Location ℕ
  place = location_of graft.place

  abbrev new : Copies ℕ
  new = numbers_at world graft counts

  abbrev seen : meant.Graft ℕ
  seen = graft_in world graft counts

  abbrev parts : List (Mount ℕ)
  parts = parts_of nat_eq world place

  abbrev destination : Mount ℕ
  destination = mount_at nat_eq world place

  -- a mount as the move leaves it
  abbrev pub pushed : Mount ℕ → Mount ℕ
  pushed = moved_onto_copy nat_eq world new seen parts

  -- the copies of the tree that moves, at its new place
  abbrev pub moved : List (Mount ℕ)
  moved = copies_at nat_eq world new seen parts destination

  abbrev twig : Mount ℕ → Twig ℕ
  twig = twig_of new (group_of destination.propagation)

  abbrev copy : Mount ℕ → Mount ℕ
  copy origin = copy_at nat_eq world new seen parts destination (twig origin)

  own : destination.number ≡ place.mount
  own = number-mount_in world.mounts place.mount

  -- a mount that moves keeps its number
  number_kept : (number : ℕ) → copy_number nat_eq new seen destination.number number ≡ number
  number_kept number =
      ap (λ b. if b && nat_eq destination.number place.mount then number else new.copy destination.number number) moves
      ∙ ap (λ b. if b then number else new.copy destination.number number) (eq-eqb destination.number place.mount own)

  top_leaves : (number : ℕ) → holds_of (nat_eq number) (leaver graft) ≡ is_top nat_eq seen number
  top_leaves number = grind (arith, common_steps)

  -- the first mount stands at the destination, which is no receiver's place
  first_stays : (origin : Mount ℕ) → is_top nat_eq seen origin.number ≡ true
      → pushed (copy origin) ≡ moved_by points (copy origin)
  first_stays origin e = ap (pushed_onto nat_eq world new seen parts (copy origin))
      (find_none at_part (rest_of parts) (λ part m. apart part m)) ∙ (λ i. record (copy origin) {
        mount_point = or_else (sym (keeps (copy origin).number
            (ap (λ n. holds_of (nat_eq n) (leaver graft)) (number_kept origin.number)
            ∙ top_leaves origin.number ∙ e)) i) (copy origin).mount_point;
      })
    where
      at_part : Mount ℕ → Bool
      at_part part = stands_at nat_eq (record { mount = part.number; node = place.node }) (copy origin)

      apart : (part : Mount ℕ) → Among part (rest_of parts) → at_part part ≡ false
      apart part m = ap (λ b. same_location nat_eq (record { mount = part.number; node = place.node })
          (if b then record { mount = destination.number; node = place.node }
          else unwrap_or (option_map (mount_point_on_copy nat_eq new seen destination.number) origin.mount_point) place)) e
          ∙ ap (λ n. nat_eq part.number n && nat_eq place.node place.node) own
          ∙ ap (λ b. b && nat_eq place.node place.node) (receivers_apart world place part m)

  -- the others stay on their parents
  other_stays : (origin : Mount ℕ) → Among origin (map mount_of graft.tree.now)
      → is_top nat_eq seen origin.number ≡ false → pushed (copy origin) ≡ moved_by points (copy origin)
  other_stays origin m e = pushes origin (copy origin) (among_from_all (Contains world.mounts)
      (map mount_of graft.tree.now) is.there origin m) (top_leaves origin.number ∙ e) (number_kept origin.number)
      (ap (λ b. Some (if b then record { mount = destination.number; node = place.node }
      else unwrap_or (option_map (mount_point_on_copy nat_eq new seen destination.number) origin.mount_point) place)) e
      ∙ by origin.mount_point (among_from_all (λ mount. is_some mount.mount_point ≡ true)
      (rest_of (map mount_of graft.tree.now)) is.standing origin
      (in_rest new (group_of destination.propagation) origin (map mount_of graft.tree.now) e m)))
    where
      by : (point : Option (Location ℕ)) → is_some point ≡ true
          → Some (unwrap_or (option_map (mount_point_on_copy nat_eq new seen destination.number) point) place) ≡ point
      by None some = absurd (true≢false (sym some))
      by (Some point) some = λ i. Some (record { mount = number_kept point.mount i; node = point.node })

  moved_stays : (mount : Mount ℕ) → Among mount moved → pushed mount ≡ moved_by points mount
  moved_stays mount m =
      let one = among-from_map (copy_at nat_eq world new seen parts destination) seen.twigs mount m in
      let origin = among-from_map twig (map mount_of graft.tree.now) one.0 one.1 in
      subst (λ mount. pushed mount ≡ moved_by points mount)
      (sym (one.2 ∙ ap (copy_at nat_eq world new seen parts destination) origin.2))
      (by origin.0 origin.1 (is_top nat_eq seen origin.0.number) refl)
    where
      by : (origin : Mount ℕ) → Among origin (map mount_of graft.tree.now) → (b : Bool)
          → is_top nat_eq seen origin.number ≡ b → pushed (copy origin) ≡ moved_by points (copy origin)
      by origin m true e = first_stays origin e
      by origin m false e = other_stays origin m e

  -- each mount is pushed up by the points that code has for it
  pub all_pushed : (mount : Mount ℕ) → Among mount (folded (with_mount nat_eq) world.mounts moved)
      → pushed mount ≡ moved_by points mount
  all_pushed mount m = ⊎_elim (moved_stays mount) (λ t. pushes mount mount (contains_from_among world.mounts mount t.0)
      (top_leaves mount.number ∙ not_first mount.number seen.twigs (λ one n.
      ap (nat_eq mount.number) (sym (number_kept one.origin.number))
      ∙ t.1 (copy_at nat_eq world new seen parts destination one)
      (among-map (copy_at nat_eq world new seen parts destination) seen.twigs one n))) refl refl)
      (among-folded moved world.mounts mount m)
