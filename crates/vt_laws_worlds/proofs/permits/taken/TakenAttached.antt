-- What is attached at a mount that is in no peer group: only the numbers of copies are taken.
use Rattle.std.proofs.Common.{eq-eqb, ◌≡◌, sym, subst, ◌∙◌, ℕ, ◌+◌, ◌*◌, ◌<◌, nat_eq, Bool, true, false, not, ◌&&◌, List, [], ◌∷◌, ◌++◌, length, map, filter, filter_map, Option, Some, None, option_map, if◌then◌else◌, arith, unwrap_or}
use Rattle.vt_spec.proofs.Common.{Copies, Fresh, Graft, Location, Mount, Propagation, Twig, World, added_mounts, attach, attached_at, common_steps, copies_from, copy_type, folded, group_of, image, index_from, index_in_rows, index_of, is_member_of, is_top, masters_with, mount_at, image_of_nearest_group, number-mount_in, receivers, takes_part, then_some, twig_master, twig_of, when, with_moved_mounts}

-- an index in a list is less than its length
place_bound : (test : Mount ℕ → Bool) (k : ℕ) (list : List (Mount ℕ)) (j : ℕ) → index_from test k list ≡ Some j
    → j < k + length list
place_bound test k [] j e = cc
place_bound test k (first ∷ rest) j e = grind (arith, common_steps, place_bound test (k + 1) rest j)

pub index_bound : (mounts : List (Mount ℕ)) (number : ℕ) → 0 < length mounts
    → index_of nat_eq mounts number < length mounts
index_bound mounts number some = grind (arith, common_steps, place_bound)

first_index : (mount : Mount ℕ) (number : ℕ) → index_of nat_eq (mount ∷ []) number ≡ 0
first_index mount number = grind (arith, common_steps)

module _ (world : World ℕ) (place : Location ℕ) (mounts : List (Mount ℕ)) where
  abbrev pub destination : Mount ℕ
  destination = mount_at nat_eq world place

  abbrev pub twigs : List (Twig ℕ)
  twigs = map (λ (mount : Mount ℕ). record { origin = mount; propagation = mount.propagation }) mounts

  abbrev pub graft : Bool → Graft ℕ
  graft moves = record { destination = place; twigs = twigs; moves = moves }

  -- the copy of a mount, by whether it is made at the destination
  abbrev pub number_by : Bool → Bool → Copies ℕ → ℕ → ℕ
  number_by there moves new origin = if moves && there then origin else new.copy destination.number origin

  abbrev pub place_by : Bool → Bool → Copies ℕ → Mount ℕ → Location ℕ
  place_by there moves new origin =
      if is_top nat_eq (graft moves) origin.number then record { mount = destination.number; node = place.node }
      else unwrap_or (option_map
      (λ (at : Location ℕ). record { mount = number_by there moves new at.mount; node = at.node })
      origin.mount_point) place

  abbrev pub type_by : Bool → Copies ℕ → Twig ℕ → Propagation ℕ
  type_by there new twig = if there then twig.propagation
      else copy_type nat_eq world new (destination ∷ []) destination twig destination.propagation

  abbrev pub copy_by : Bool → Bool → Copies ℕ → Twig ℕ → Mount ℕ
  copy_by there moves new twig = record twig.origin {
    number = number_by there moves new twig.origin.number;
    namespace = destination.namespace;
    mount_point = Some (place_by there moves new twig.origin);
    propagation = type_by there new twig;
  }

  abbrev pub group_by : Bool → Copies ℕ → Twig ℕ → Option (ℕ × Option ℕ)
  group_by there new twig = if there then twig_master twig else then_some (group_of destination.propagation) (λ group.
      when (not (is_member_of nat_eq group destination)) (
        image nat_eq new destination twig group,
        image_of_nearest_group nat_eq world new (destination ∷ []) destination twig (world.master group),
      ))

  abbrev pub attached_alone : Bool → Bool → Copies ℕ → World ℕ
  attached_alone there moves new = record world {
    mounts = map (λ (mount : Mount ℕ). mount)
        (with_moved_mounts nat_eq moves world.mounts (map (copy_by there moves new) twigs))
        ++ added_mounts moves (map (copy_by there moves new) twigs) ++ [];
    master = folded (masters_with nat_eq) world.master (filter_map (group_by there new) twigs ++ []);
  }

  module _ (alone : group_of destination.propagation ≡ None) (moves : Bool) where
    abbrev parts_by : Option ℕ → List (Mount ℕ)
    parts_by group =
        destination ∷ filter (takes_part nat_eq world place) (unwrap_or (option_map (receivers nat_eq world) group) [])

    at_one_part : (fresh : Fresh ℕ) → attach nat_eq world fresh place moves mounts
        ≡ attached_alone (nat_eq destination.number place.mount) moves
        (copies_from nat_eq fresh (destination ∷ []) mounts)
    at_one_part fresh = λ i. attached_at nat_eq world (copies_from nat_eq fresh (parts_by (alone i)) mounts) (record {
      destination = place;
      twigs = map (twig_of (copies_from nat_eq fresh (parts_by (alone i)) mounts) (alone i)) mounts;
      moves = moves;
    }) (parts_by (alone i))

    pub at_destination : (fresh : Fresh ℕ) → attach nat_eq world fresh place moves mounts
        ≡ attached_alone true moves (copies_from nat_eq fresh (destination ∷ []) mounts)
    at_destination fresh = cc (
      at_one_part fresh,
      eq-eqb destination.number place.mount (number-mount_in world.mounts place.mount),
    )

  module _ (alone : group_of destination.propagation ≡ None) (fresh again : Fresh ℕ) where
    -- what moves takes no number
    pub moved_same : attach nat_eq world fresh place true mounts ≡ attach nat_eq world again place true mounts
    moved_same = at_destination alone true fresh ∙ sym (at_destination alone true again)

    -- what is copied takes one for each
    module _ (some : 0 < length mounts) (same : (k : ℕ) → k < length mounts → fresh (2 * k) ≡ again (2 * k)) where
      copy_same : (part origin : ℕ) → (copies_from nat_eq fresh (destination ∷ []) mounts).copy part origin
          ≡ (copies_from nat_eq again (destination ∷ []) mounts).copy part origin
      copy_same part origin =
          same (index_in_rows (length mounts) (index_of nat_eq (destination ∷ []) part) (index_of nat_eq mounts origin))
          (subst (λ j. index_in_rows (length mounts) j (index_of nat_eq mounts origin) < length mounts)
          (sym (first_index destination part)) (let low = index_bound mounts origin some in omega arith))

      pub copied_same : attach nat_eq world fresh place false mounts ≡ attach nat_eq world again place false mounts
      copied_same = at_destination alone false fresh ∙ (λ i. attached_alone true false (record {
        copy = λ part origin. copy_same part origin i;
        image = (copies_from nat_eq fresh (destination ∷ []) mounts).image;
      })) ∙ sym (at_destination alone false again)
