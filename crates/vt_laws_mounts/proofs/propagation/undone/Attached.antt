-- The attachment of one mount: the mounts that were there, some of them moved onto copies, and a copy on each part.
use Rattle.std.proofs.Common.{List, None, Option, Some, cond, eqb-true, false, find, flat_map, inl, inr, map, nat_eq, option_map, refl, sym, true, zero, ℕ, ⊎_elim, ◌++◌, ◌∷◌, ◌≡◌, [], ap, ◌∙◌}
use Rattle.vt_spec.proofs.Common.{Among, Copies, Filesystem, Fresh, Graft, Location, Mount, MountFlags, MountInvariants, Serves, Shared, World, among-append, among-filter, among-from_flat_map, among-from_map, among_from_contains, bound, chain_ends, child_at, contains_from_among, false_from_ne_true, graft_of, mount_at, mount_numbered, new_mount, number-mount_in, parts_of, pushed_onto, moved_onto_copy, receives, rest_of, root_of, stands_at, takes_part, topmost, with_new_filesystem}
use Rattle.vt_laws_mounts.specs.Mounts.Attaching.{KeepsAllButMountPoint, OneNumberAMount, is_mount}
use Rattle.vt_laws_mounts.specs.Mounts.MountPoints.{OneMountAMountPoint}
use Rattle.vt_laws_mounts.specs.Mounts.Propagation.{Attachment, CanAttach, IsOfTree, IsPart, copy_of, number_at, world_after}
use Rattle.vt_laws_mounts.specs.Mounts.Receivers.{GroupsLive}
use Rattle.vt_laws_mounts.specs.Mounts.Unmounting.{ChainsEnd}
use Rattle.vt_laws_mounts.proofs.attached.BindsStand.{binds_keep_numbers, binds_keep_places, binds_keep_standing, new_mounts_keep_numbers, new_mounts_keep_places, new_mounts_keep_standing}
use Rattle.vt_laws_mounts.proofs.ends.UnmountingGoes.{receivers_of_shared}
use Rattle.vt_laws_mounts.proofs.mounts.MountsAttached.{found_attached, push_keeps, supplied}
use Rattle.vt_laws_mounts.proofs.mounts.MountsFound.{found_in, found_there, unfound}
use Rattle.vt_laws_mounts.proofs.mounts.MountsNumbered.{attach_keeps_numbers, is_one_of}
use Rattle.vt_laws_mounts.proofs.mounts.MountsPlaces.{stands_there}
use Rattle.vt_laws_mounts.proofs.mounts.MountsReplaced.{found_itself}
use Rattle.vt_laws_mounts.proofs.mounts.Standing.{standing_is_computed}
use Rattle.vt_laws_mounts.proofs.namespaces.Unsharing.{stands_on_mount}
use Rattle.vt_laws_mounts.proofs.propagation.OneAttached.{later_number, one_of, part_old}
use Rattle.vt_laws_mounts.proofs.propagation.PropagationAttaching.{copies_are_new, each_is_copied, first_stands_on_its_part, is_copy}
use Rattle.vt_laws_mounts.proofs.propagation.PropagationCopies.{copies}
use Rattle.vt_laws_mounts.proofs.propagation.PropagationHeard.{groups_after}
use Rattle.vt_laws_mounts.proofs.propagation.PropagationPremises.{binds_can, new_mounts_can}

-- the world after the attachment of one mount,
unfoldable pub world_with : World ℕ → Fresh ℕ → Location ℕ → Mount ℕ → World ℕ
world_with world fresh place first = world_after (one_of world fresh place first)

-- One mount is attached at a place on a mount. Afterwards chains of mount points end, and mounts have mount points of
-- their own.
pub record AttachesOne (world : World ℕ) (fresh : Fresh ℕ) (place : Location ℕ) (first : Mount ℕ) : Type 0 where
  pub can : CanAttach (one_of world fresh place first)
  pub there : is_mount world place.mount ≡ true
  pub on_mounts : (mount : Mount ℕ) → Among mount world.mounts → (at : Location ℕ) → mount.mount_point ≡ Some at
      → is_mount world at.mount ≡ true
  pub chains_end : ChainsEnd (world_with world fresh place first)
  pub places : OneMountAMountPoint (world_with world fresh place first).mounts

pub new_mount_attaches : (world : World ℕ) (fresh : Fresh ℕ) (place : Location ℕ) (filesystem : Filesystem ℕ)
    (flags : MountFlags) → Serves nat_eq (with_new_filesystem world filesystem) fresh → MountInvariants nat_eq world
    → is_mount world place.mount ≡ true → child_at nat_eq world.mounts place ≡ None
    → AttachesOne (with_new_filesystem world filesystem) fresh place
    (new_mount filesystem.number filesystem.files.tree.root flags)
unfolding world_with
new_mount_attaches world fresh place filesystem flags serves mounts there free = record {
  can = new_mounts_can world fresh place filesystem flags serves mounts;
  there = there;
  on_mounts = stands_on_mount world mounts;
  chains_end = (standing_is_computed _
      (new_mounts_keep_numbers world fresh place filesystem flags serves mounts.one_number)).0
      (new_mounts_keep_standing world fresh place filesystem flags serves mounts.one_number mounts.nowhere
      mounts.standing there);
  places = new_mounts_keep_places world fresh place filesystem flags serves mounts.one_number mounts.nowhere
      mounts.standing there free mounts.one_child;
}

pub bind_attaches : (world : World ℕ) (fresh : Fresh ℕ) (source place : Location ℕ) → Serves nat_eq world fresh
    → MountInvariants nat_eq world → is_mount world place.mount ≡ true → child_at nat_eq world.mounts place ≡ None
    → AttachesOne world fresh place (bound nat_eq world source)
unfolding world_with
bind_attaches world fresh source place serves mounts there free = record {
  can = binds_can world fresh source place false serves mounts;
  there = there;
  on_mounts = stands_on_mount world mounts;
  chains_end = (standing_is_computed _
      (binds_keep_numbers world fresh source place false serves mounts.one_number mounts.standing)).0
      (binds_keep_standing world fresh source place false serves mounts.one_number mounts.nowhere mounts.standing
      there);
  places = binds_keep_places world fresh source place false serves mounts.one_number mounts.nowhere mounts.standing
      there free mounts.one_child;
}

-- a mount does not stand on itself if it stands on another
stands_at-root : (mount : Mount ℕ) (place : Location ℕ) → mount.mount_point ≡ Some place
    → nat_eq mount.number place.mount ≡ false → stands_at nat_eq (root_of mount) mount ≡ false
stands_at-root mount place e f = cc (e, f)

-- a mount that does not stand on itself is the topmost one over its root, where it is alone
topmost-alone : (mount : Mount ℕ) → stands_at nat_eq (root_of mount) mount ≡ false
    → topmost nat_eq (mount ∷ []) (root_of mount) ≡ root_of mount
topmost-alone mount e = cc (chain_ends (λ here. option_map root_of (child_at nat_eq (mount ∷ []) here)) zero
    (root_of mount) (ap (λ b. option_map root_of (cond b (Some mount) None)) e))

module _ {world : World ℕ} {fresh : Fresh ℕ} {place : Location ℕ} {first : Mount ℕ}
    (a : AttachesOne world fresh place first) where
  abbrev it : Attachment
  it = one_of world fresh place first

  abbrev pub after : World ℕ
  after = world_with world fresh place first

  abbrev pub destination : Mount ℕ
  destination = mount_at nat_eq world place

  abbrev pub parts : List (Mount ℕ)
  parts = parts_of nat_eq world place

  -- the node of the place, on a mount
  abbrev pub on : Mount ℕ → Location ℕ
  on mount = record { mount = mount.number; node = place.node }

  unfoldable pub copy : Mount ℕ → Mount ℕ
  copy part = copy_of it part first

  abbrev supply : Copies ℕ
  supply = supplied world fresh place (first ∷ [])

  abbrev tree : Graft ℕ
  tree = graft_of nat_eq world supply place false (first ∷ [])

  -- a mount as it is afterwards, if it was there
  unfoldable pub moved : Mount ℕ → Mount ℕ
  moved = moved_onto_copy nat_eq world supply tree parts

  pub groups_live : GroupsLive after
  unfolding world_with
  groups_live = groups_after it a.can

  pub one_number : OneNumberAMount after.mounts
  unfolding world_with
  one_number = attach_keeps_numbers world fresh place false (first ∷ []) a.can.serves refl a.can.one_number

  pub first_of_tree : IsOfTree it first
  first_of_tree = contains_from_among (first ∷ []) first (inl refl)

  -- The mounts that were there

  pub destination_among : Among destination world.mounts
  destination_among = found_there world.mounts place.mount a.there

  pub moved_keeps : (mount : Mount ℕ) → KeepsAllButMountPoint mount (moved mount)
  unfolding moved
  moved_keeps mount = push_keeps world supply tree parts mount

  pub numbered-moved : (number : ℕ) → is_mount world number ≡ true
      → mount_numbered nat_eq after number ≡ moved (mount_numbered nat_eq world number)
  unfolding world_with moved
  numbered-moved number is = found_attached world supply place false (first ∷ []) number is

  pub found-moved : (mount : Mount ℕ) → Among mount world.mounts
      → mount_numbered nat_eq after mount.number ≡ moved mount
  found-moved mount m = cc (numbered-moved mount.number (is_one_of _ mount m), found_itself _ a.can.one_number mount m)

  pub moved_among : (mount : Mount ℕ) → Among mount world.mounts → Among (moved mount) after.mounts
  unfolding world_with
  moved_among mount m = rw (← found-moved mount m) (found_there after.mounts mount.number
      (later_number world fresh place first a.there mount.number (is_one_of _ mount m)))

  pub destination_kind : (mount_numbered nat_eq after destination.number).propagation ≡ destination.propagation
  destination_kind = cc (found-moved destination destination_among, (moved_keeps destination).propagation)

  -- Copies

  pub part_there : (part : Mount ℕ) → IsPart it part → Among part world.mounts
  part_there = part_old world fresh place first a.there

  -- a receiver that takes part is a part
  pub receiver_among : (group : ℕ) (receiver : Mount ℕ) → destination.propagation ≡ Shared group
      → Among receiver world.mounts → receives nat_eq world group receiver ≡ true
      → takes_part nat_eq world place receiver ≡ true → Among receiver (rest_of parts)
  receiver_among group receiver e m hears takes = among-filter (takes_part nat_eq world place) _ receiver
      (rw (receivers_of_shared world destination group e)
      (among-filter (receives nat_eq world group) world.mounts receiver m hears)) takes

  pub destination_part : IsPart it destination
  destination_part = contains_from_among parts destination (inl refl)

  pub copy_among : (part : Mount ℕ) → IsPart it part → Among (copy part) after.mounts
  unfolding world_with copy
  copy_among part c = among_from_contains _ (copy part) (each_is_copied it part first a.can c first_of_tree).there

  pub copy_number : (part : Mount ℕ) → (copy part).number ≡ number_at it part first
  unfolding world_with copy
  copy_number part = number-mount_in after.mounts _

  pub copy_is_new : (part : Mount ℕ) → IsPart it part → is_mount world (copy part).number ≡ false
  unfolding copy
  copy_is_new part c = cc (copy_number part, copies_are_new it part first a.can c first_of_tree refl)

  pub copy_root : (part : Mount ℕ) → IsPart it part → (copy part).root ≡ first.root
  unfolding world_with copy
  copy_root part c = (each_is_copied it part first a.can c first_of_tree).root

  pub copy_stands : (part : Mount ℕ) → IsPart it part → (copy part).mount_point ≡ Some (on part)
  unfolding world_with copy
  copy_stands part c = first_stands_on_its_part it part first [] a.can c refl

  -- Each mount is one that was there, or a copy

  pub data Origin (mount : Mount ℕ) : Type 0 where
    was_there : (old : Mount ℕ) → Among old world.mounts → mount ≡ moved old → Origin mount
    is_new : (part : Mount ℕ) → IsPart it part → mount ≡ copy part → Origin mount

  pub origin : (mount : Mount ℕ) → Among mount after.mounts → Origin mount
  unfolding world_with copy moved
  origin mount m = ⊎_elim (λ front. ⊎_elim (λ pushed.
      let from = among-from_map moved world.mounts mount pushed in
      was_there from.0 from.1 from.2) (λ arrived. of_copies destination arrived (inl refl))
      (among-append (map moved world.mounts) (copies_at destination) mount front)) (λ rest.
      let from = among-from_flat_map copies_at (rest_of parts) mount rest in
      of_copies from.0 from.2 (inr from.1))
      (among-append (map moved world.mounts ++ copies_at destination) (flat_map copies_at (rest_of parts)) mount m)
    where
      copies_at : Mount ℕ → List (Mount ℕ)
      copies_at = copies world supply place false (first ∷ [])

      of_copies : (part : Mount ℕ) → Among mount (copies world supply place false (first ∷ []) part)
          → Among part parts → Origin mount
      of_copies part n p =
          let c = contains_from_among parts part p in
          is_new part c (⊎_elim (λ e. e) (λ none. absurd none) n ∙ sym (is_copy it a.can part first c first_of_tree))

  -- Where the mounts stand that were there: where they stood, at the place of no receiver that takes part, or on the
  -- root of the copy that came beneath them

  pub data StandsLater (mount : Mount ℕ) : Type 0 where
    stays : moved mount ≡ mount
        → ((part : Mount ℕ) → Among part (rest_of parts) → stands_at nat_eq (on part) mount ≡ false) → StandsLater mount
    rises : (part : Mount ℕ) → IsPart it part → mount.mount_point ≡ Some (on part)
        → (moved mount).mount_point ≡ Some (root_of (copy part)) → StandsLater mount

  -- a copy does not stand on itself
  copy_off_itself : (part : Mount ℕ) → IsPart it part → stands_at nat_eq (root_of (copy part)) (copy part) ≡ false
  copy_off_itself part c = stands_at-root (copy part) (on part) (copy_stands part c) (false_from_ne_true _ (λ same. cc (
    eqb-true (copy part).number part.number same,
    copy_is_new part c,
    is_one_of world.mounts part (part_there part c),
  )))

  pub stands_later : (mount : Mount ℕ) → StandsLater mount
  unfolding copy moved
  stands_later mount = by _ refl
    where
      by : (found : Option (Mount ℕ)) → find (λ part. stands_at nat_eq (on part) mount) (rest_of parts) ≡ found
          → StandsLater mount
      by None e = stays (ap (pushed_onto nat_eq world supply tree parts mount) e) (unfound _ (rest_of parts) e)
      by (Some part) e =
          let found = found_in _ (rest_of parts) part e in
          let c : IsPart it part = contains_from_among parts part (inr found.0) in
          rises part c (stands_there (on part) mount found.1)
          (ap (λ o. (pushed_onto nat_eq world supply tree parts mount o).mount_point) e
          ∙ ap (λ (x : Mount ℕ). Some (topmost nat_eq (x ∷ []) (root_of x)))
          (sym (is_copy it a.can part first c first_of_tree))
          ∙ ap Some (topmost-alone (copy part) (copy_off_itself part c)))
