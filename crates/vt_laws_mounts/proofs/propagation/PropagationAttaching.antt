-- Copies of a tree that is attached: that they are there, where they stand, and their types.
use Rattle.std.proofs.Common.{arith, ◌≡◌, refl, sym, ap, subst, ◌∙◌, true, false, nat_eq, ℕ, Bool, List, None, Some, inl, is_some, true≢false, ⊎_elim, ◌&&◌, ◌∷◌, Contains, if◌then◌else◌}
use Rattle.vt_spec.proofs.Common.{Among, Copies, Location, Mount, Private, Propagation, Shared, Slave, Unbindable, among-from_map, among_from_contains, among_numbers, any_from_among, common_steps, contains_from_among, copies_from, false_from_ne_true, found_or_none, group_of, holds_of, is_among, is_among_numbers, is_member_of, is_shared, list_any, number-mount_in, numbers_in_use, parts_of, rest_of, same_location, type_at, type_on_shared}
use Rattle.vt_laws_mounts.specs.Mounts.Attaching.{KeepsAllButMountPoint, is_mount, numbers_of, stands_at_a_receiver}
use Rattle.vt_laws_mounts.specs.Mounts.Copies.{ServeAsCopies, ServeAsImages}
use Rattle.vt_laws_mounts.specs.Mounts.Propagation.{Attachment, CanAttach, CopiesAreNew, CopiesAtLowerGroupsFollow, CopiesAtPeersArePeers, CopiesAtSlavesAreSlaves, EachIsCopied, FirstStandsOnItsPart, IsOfTree, IsPart, OthersStandOnCopies, PrivateOnShared, SharedOnShared, SlaveOnShared, TypeOnNotShared, copy_of, destination_of, moves_to, number_at, world_after}
use Rattle.vt_laws_mounts.proofs.GroupsKept.{shared_member}
use Rattle.vt_laws_mounts.proofs.mounts.MountsAttached.{is_pushed_by}
use Rattle.vt_laws_mounts.proofs.mounts.MountsNumbered.{is_one_of, number_in_use, supplies_serve_as_copies, supplies_serve_as_images}
use Rattle.vt_laws_mounts.proofs.propagation.PropagationCopies.{arrived, arrived_keeps, first_not_pushed, first_location, found_copy, made, not_pushed, other_place, tree}
use Rattle.vt_laws_mounts.proofs.propagation.PropagationTypes.{image_new, image_of, kind, kind_there, lower_master, private_there, shared_kind, slave_kind, slave_there, there_new}

module _ (it : Attachment) (can : CanAttach it) where
  abbrev pub supply : Copies ℕ
  supply = copies_from nat_eq it.fresh (parts_of nat_eq it.world it.mount_point) it.mounts

  pub serve_copies : ServeAsCopies it.world (parts_of nat_eq it.world it.mount_point) it.mounts supply
  serve_copies = supplies_serve_as_copies it.world it.fresh
      (parts_of nat_eq it.world it.mount_point) it.mounts can.serves

  pub serve_images : ServeAsImages it.world (parts_of nat_eq it.world it.mount_point) it.mounts supply
  serve_images = supplies_serve_as_images it.world it.fresh
      (parts_of nat_eq it.world it.mount_point) it.mounts can.serves

  pub part_among : (part : Mount ℕ) → IsPart it part → Among part (parts_of nat_eq it.world it.mount_point)
  part_among part c = among_from_contains (parts_of nat_eq it.world it.mount_point) part c

  pub tree_among : (origin : Mount ℕ) → IsOfTree it origin → Among origin it.mounts
  tree_among origin c = among_from_contains _ origin c

  pub moving_there : it.moves ≡ true → (origin : Mount ℕ) → Among origin it.mounts → Among origin it.world.mounts
  moving_there e origin m = among_from_contains _ origin (can.moving e origin (contains_from_among _ origin m))

  abbrev pub arrived_at : Mount ℕ → Mount ℕ → Mount ℕ
  arrived_at = arrived it.world supply it.mount_point it.moves it.mounts

  abbrev pub made_at : Mount ℕ → Mount ℕ → Mount ℕ
  made_at = made it.world supply it.mount_point it.moves it.mounts

  abbrev pub kind_of : Mount ℕ → Mount ℕ → Propagation ℕ
  kind_of = kind it.mount_point it.moves serve_images can.each_once

  abbrev pub image_group : Mount ℕ → ℕ → ℕ
  image_group = image_of it.mount_point it.moves serve_images can.each_once

  pub is_copy : (part origin : Mount ℕ) → IsPart it part → IsOfTree it origin
      → copy_of it part origin ≡ arrived_at part origin
  is_copy part origin c d = found_copy _ supply _ _ _ serve_copies can.each_once can.one_number moving_there part origin
      (part_among part c) (tree_among origin d)

  pub copy_keeps : (part origin : Mount ℕ) → IsPart it part → IsOfTree it origin
      → KeepsAllButMountPoint (made_at part origin) (copy_of it part origin)
  copy_keeps part origin c d = subst (KeepsAllButMountPoint (made_at part origin)) (sym (is_copy part origin c d))
      (arrived_keeps it.world supply it.mount_point it.moves it.mounts part origin)

  pub copy_kind : (part origin : Mount ℕ) → IsPart it part → IsOfTree it origin
      → (copy_of it part origin).propagation ≡ kind_of part origin
  copy_kind part origin c d = (copy_keeps part origin c d).propagation

  -- a copy has a place
  placed : (part origin : Mount ℕ) → is_some (arrived_at part origin).mount_point ≡ true
  placed part origin = grind (arith, common_steps)

  there : (part origin : Mount ℕ) → IsPart it part → IsOfTree it origin
      → Contains (world_after it).mounts (copy_of it part origin)
  there part origin c d = contains_from_among _ _ (⊎_elim (λ m. m) (λ none. absurd
      (true≢false (sym (placed part origin) ∙ ap (λ (x : Mount ℕ). is_some x.mount_point)
      (sym (is_copy part origin c d)) ∙ ap (λ (x : Mount ℕ). is_some x.mount_point) none))) (found_or_none _ _))

  number_new : (part origin : Mount ℕ) → IsPart it part → IsOfTree it origin
      → is_mount it.world (supply.copy part.number origin.number) ≡ false
  number_new part origin c d = false_from_ne_true (is_mount it.world (supply.copy part.number origin.number)) (λ is.
      let old = among-from_map (λ (x : Mount ℕ). x.number) it.world.mounts (supply.copy part.number origin.number)
      (among_numbers (numbers_of it.world.mounts) (supply.copy part.number origin.number) is) in
      true≢false (sym (is_among_numbers (numbers_in_use it.world) old.0.number (number_in_use it.world old.0 old.1))
      ∙ ap (λ n. is_among nat_eq n (numbers_in_use it.world)) (sym old.2)
      ∙ serve_copies.unused part.number origin.number
      (is_one_of (parts_of nat_eq it.world it.mount_point) part (part_among part c))
      (is_one_of it.mounts origin (tree_among origin d))))

  first_stands : (part first : Mount ℕ) (rest : List (Mount ℕ)) → IsPart it part → it.mounts ≡ first ∷ rest
      → (copy_of it part first).mount_point ≡ Some (record { mount = part.number; node = it.mount_point.node })
  first_stands part first rest c e = ap (λ (x : Mount ℕ). x.mount_point) (is_copy part first c
      (contains_from_among it.mounts first (subst (λ ms. Among first ms) (sym e) (inl refl)))
      ∙ first_not_pushed it.world supply it.mount_point it.moves it.mounts part first rest e)
      ∙ first_location it.world supply it.mount_point it.moves it.mounts part first rest e

  other_stands : (part first origin below : Mount ℕ) (rest : List (Mount ℕ)) (at : Location ℕ) → IsPart it part
      → it.mounts ≡ first ∷ rest → IsOfTree it origin → nat_eq origin.number first.number ≡ false → IsOfTree it below
      → origin.mount_point ≡ Some at → at.mount ≡ below.number
      → (moves_to it part && stands_at_a_receiver it.world it.mount_point origin) ≡ false
      → (copy_of it part origin).mount_point ≡ Some (record { mount = (copy_of it part below).number; node = at.node })
  other_stands part first origin below rest at c e d differ f stood on free = ap (λ (x : Mount ℕ). x.mount_point)
      (is_copy part origin c d
      ∙ not_pushed it.world supply it.mount_point it.moves it.mounts part origin (by (moves_to it part) refl)) ∙ place
      ∙ ap (λ n. Some (record { mount = n; node = at.node }))
      (sym (number-mount_in (world_after it).mounts (number_at it part below)))
    where
      takers : List (Mount ℕ)
      takers = rest_of (parts_of nat_eq it.world it.mount_point)

      place : (made_at part origin).mount_point ≡ Some (record { mount = number_at it part below; node = at.node })
      place =
          other_place it.world supply it.mount_point it.moves it.mounts part first origin below rest at e differ stood
          on

      by : (b : Bool) → moves_to it part ≡ b
          → (b && list_any (is_pushed_by it.world supply (tree it.world supply it.mount_point it.moves it.mounts)
          (parts_of nat_eq it.world it.mount_point) (made_at part origin))
          (rest_of (parts_of nat_eq it.world it.mount_point))) ≡ false
      by false g = refl
      by true g =
          let same : (made_at part origin).mount_point ≡ origin.mount_point = place ∙ ap (λ b. Some (record {
            mount = if b then below.number else supply.copy part.number below.number;
            node = at.node;
          })) g ∙ ap (λ n. Some (record { mount = n; node = at.node })) (sym on) ∙ sym stood in
          ap (λ p. list_any (λ (receiver : Mount ℕ).
          holds_of (same_location nat_eq (record { mount = receiver.number; node = it.mount_point.node })) p)
          (rest_of (parts_of nat_eq it.world it.mount_point))) same
          ∙ sym (ap (λ b. b && stands_at_a_receiver it.world it.mount_point origin) g) ∙ free

  destination_part : IsPart it (destination_of it)
  destination_part = contains_from_among (parts_of nat_eq it.world it.mount_point) (destination_of it) (inl refl)

pub each_is_copied : EachIsCopied
each_is_copied it part origin can c d = record {
  there = there it can part origin c d;
  number = number-mount_in (world_after it).mounts (number_at it part origin);
  namespace = (copy_keeps it can part origin c d).namespace;
  filesystem = (copy_keeps it can part origin c d).filesystem;
  root = (copy_keeps it can part origin c d).root;
  flags = (copy_keeps it can part origin c d).flags;
}

pub copies_are_new : CopiesAreNew
copies_are_new it part origin can c d e = cc (e, number_new it can part origin c d)

pub first_stands_on_its_part : FirstStandsOnItsPart
first_stands_on_its_part it part first rest can c e = first_stands it can part first rest c e

pub others_stand_on_copies : OthersStandOnCopies
others_stand_on_copies it part first origin below rest at can = other_stands it can part first origin below rest at

-- Types

not_shared : (kind : Propagation ℕ) → is_shared kind ≡ false → group_of kind ≡ None
not_shared (Shared group) e = absurd (true≢false e)
not_shared (Slave master) e = refl
not_shared Private e = refl
not_shared Unbindable e = refl

shared_group : (kind : Propagation ℕ) → is_shared kind ≡ true → (group : ℕ) × (group_of kind ≡ Some group)
shared_group (Shared group) e = (group, refl)
shared_group (Slave master) e = cc
shared_group Private e = cc
shared_group Unbindable e = cc

module _ (it : Attachment) (can : CanAttach it) (origin : Mount ℕ) (d : IsOfTree it origin) where
  pub kind_at_destination : (copy_of it (destination_of it) origin).propagation
      ≡ type_at (supply it can) (group_of (destination_of it).propagation) origin
  kind_at_destination = copy_kind it can (destination_of it) origin (destination_part it can) d
      ∙ kind_there it.mount_point it.moves (serve_images it can) can.each_once origin

  abbrev new_group : ℕ → ℕ
  new_group group = (supply it can).image group origin.number

  kind_on_shared : (group : ℕ) → group_of (destination_of it).propagation ≡ Some group
      → (copy_of it (destination_of it) origin).propagation ≡ type_on_shared (new_group group) origin.propagation
  kind_on_shared group e = cc kind_at_destination

pub type_on_not_shared : TypeOnNotShared
type_on_not_shared it origin can d e =
    cc (kind_at_destination it can origin d, not_shared (destination_of it).propagation e)

pub shared_on_shared : SharedOnShared
shared_on_shared it origin group can d e f =
    let own = shared_group _ e in
    cc (kind_on_shared it can origin d own.0 own.1, f)

pub private_on_shared : PrivateOnShared
private_on_shared it origin can d e f =
    let own = shared_group (destination_of it).propagation e in
    let m = tree_among it can origin d in (
      new_group it can origin d own.0,
      cc (kind_on_shared it can origin d own.0 own.1, f),
      there_new it.mount_point it.moves (serve_images it can) can.each_once origin m own.0 own.1,
      private_there it.mount_point it.moves (serve_images it can) can.each_once origin m own.0 own.1 f,
    )

pub slave_on_shared : SlaveOnShared
slave_on_shared it origin master can d e f =
    let own = shared_group (destination_of it).propagation e in
    let m = tree_among it can origin d in (
      new_group it can origin d own.0,
      cc (kind_on_shared it can origin d own.0 own.1, f),
      there_new it.mount_point it.moves (serve_images it can) can.each_once origin m own.0 own.1,
      slave_there it.mount_point it.moves (serve_images it can) can.each_once origin m own.0 master own.1 f,
    )

-- At receivers

-- the copy at a member of a group is a member of the image
pub copy_shared : (it : Attachment) (can : CanAttach it) (part origin : Mount ℕ) (group : ℕ) → IsPart it part
    → IsOfTree it origin → part.propagation ≡ Shared group
    → (copy_of it part origin).propagation ≡ Shared (image_group it can origin group)
copy_shared it can part origin group c d e = copy_kind it can part origin c d
    ∙ shared_kind it.mount_point it.moves (serve_images it can) can.each_once part origin
    (part_among it can part c) group e

pub copies_at_peers_are_peers : CopiesAtPeersArePeers
copies_at_peers_are_peers it one other origin group can c c_other d e e_other = (
  image_group it can origin group,
  copy_shared it can one origin group c d e,
  copy_shared it can other origin group c_other d e_other,
)

pub copies_at_slaves_are_slaves : CopiesAtSlavesAreSlaves
copies_at_slaves_are_slaves it one other origin master group can c c_other d away e near e_other = (
  image_group it can origin group,
  copy_kind it can one origin c d
      ∙ slave_kind it.mount_point it.moves (serve_images it can) can.each_once one origin master group away e near,
  copy_shared it can other origin group c_other d e_other,
)

pub copies_at_lower_groups_follow : CopiesAtLowerGroupsFollow
copies_at_lower_groups_follow it one other origin own master group can c c_other d e lacks up near e_other = (
  image_group it can origin group,
  copy_shared it can other origin group c_other d e_other,
  (
    image_group it can origin own,
    copy_shared it can one origin own c d e,
    image_new it.mount_point it.moves (serve_images it can) can.each_once origin
        (tree_among it can origin d) own
        (any_from_among (is_member_of nat_eq own) (parts_of nat_eq it.world it.mount_point) one
        (part_among it can one c) (shared_member own one e)) lacks,
    lower_master it.mount_point it.moves (serve_images it can) can.each_once one origin
        (part_among it can one c) (tree_among it can origin d) own master group e lacks up near,
  ),
)
