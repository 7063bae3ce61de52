-- What an unmount takes of what one attachment brought: each copy, and some of what stood at receivers.
use Rattle.std.proofs.Common.{Contains, List, None, Option, Some, [], ap, eqb-true, false, filter, inl, inr, nat_eq, refl, subst, sym, true, ℕ, ⊎_elim, ◌∙◌, ◌∷◌, ◌≡◌}
use Rattle.vt_spec.proofs.Common.{Among, Fresh, Location, Mount, Shared, World, among-from_filter, among_from_contains, any_from_among, any_pair, child_at, contains_from_among, detached, group_of, is_member_of, list_any, may_go, mount_numbered, none_among, number-mount_in, only_cover, or_parts, pair-filter, receivers_of, receives, rest_of, root_of, same_truth, share_a_mount_point, source_of, stands_at, stands_on, takes_part}
use Rattle.vt_laws_mounts.specs.Mounts.MountPoints.{OneMountAMountPoint}
use Rattle.vt_laws_mounts.specs.Mounts.Propagation.{Attachment, IsPart, number_at}
use Rattle.vt_laws_mounts.specs.Mounts.Unmounting.{Goes, goes_with, mount_left}
use Rattle.vt_laws_mounts.specs.Mounts.Unmounting.Goes.{alone, at_receiver}
use Rattle.vt_laws_mounts.proofs.GroupsKept.{shared_member}
use Rattle.vt_laws_mounts.proofs.GroupsUp.{group_shared, lives_in}
use Rattle.vt_laws_mounts.proofs.ends.Unmounting.{what_goes_is_detached}
use Rattle.vt_laws_mounts.proofs.ends.UnmountingGoes.{what_goes_is_named}
use Rattle.vt_laws_mounts.proofs.mounts.MountsFound.{unfound}
use Rattle.vt_laws_mounts.proofs.mounts.MountsNumbered.{is_one_of}
use Rattle.vt_laws_mounts.proofs.mounts.MountsPlaces.{found_at_its_place, one_place_of_two, stands_at_its_place, stands_there}
use Rattle.vt_laws_mounts.proofs.mounts.MountsReplaced.{found_itself}
use Rattle.vt_laws_mounts.proofs.mounts.Receivers.{receives_soundly}
use Rattle.vt_laws_mounts.proofs.propagation.OneAttached.{hears_group, one_of}
use Rattle.vt_laws_mounts.proofs.propagation.PropagationAttaching.{serve_images}
use Rattle.vt_laws_mounts.proofs.propagation.PropagationHeard.{copies_hear_as_their_origins, only_part}
use Rattle.vt_laws_mounts.proofs.propagation.PropagationImages.{old_up, old_up_after}
use Rattle.vt_laws_mounts.proofs.propagation.PropagationUp.{heard, hears}
use Rattle.vt_laws_mounts.proofs.propagation.undone.Attached.{AttachesOne, Origin, StandsLater, after, copy, copy_among, copy_is_new, copy_root, copy_stands, destination, destination_among, destination_kind, destination_part, first_of_tree, found-moved, groups_live, moved, moved_among, moved_keeps, on, one_number, origin, part_there, parts, receiver_among, stands_later, world_with}
use Rattle.vt_laws_mounts.proofs.propagation.undone.Attached.Origin.{is_new, was_there}
use Rattle.vt_laws_mounts.proofs.propagation.undone.Attached.StandsLater.{rises, stays}

-- mounts that all stand at the root of another, no two at one mount point, are one at most
only_cover-at_root : (mount : Mount ℕ) (list : List (Mount ℕ)) → OneMountAMountPoint list
    → ((x : Mount ℕ) → Among x list → x.mount_point ≡ Some (root_of mount)) → only_cover nat_eq mount list ≡ true
only_cover-at_root mount [] apart all = refl
only_cover-at_root mount (x ∷ []) apart all = stands_at_its_place (root_of mount) x (all x (inl refl))
only_cover-at_root mount (x ∷ y ∷ rest) apart all = cc (
  one_place_of_two (root_of mount) x y (all x (inl refl)) (all y (inr (inl refl))),
  none_among (share_a_mount_point nat_eq x) (y ∷ rest) (or_parts (list_any (share_a_mount_point nat_eq x) (y ∷ rest))
      (any_pair (share_a_mount_point nat_eq) (y ∷ rest)) apart).0 y (inl refl),
)

-- a mount that stands on another has a mount point there
stands_on-point : (number : ℕ) (mount : Mount ℕ) → stands_on nat_eq number mount ≡ true
    → (at : Location ℕ) × (mount.mount_point ≡ Some at) × (at.mount ≡ number)
stands_on-point number mount on_it = by _ refl
  where
    by : (o : Option (Location ℕ)) → mount.mount_point ≡ o
        → (at : Location ℕ) × (mount.mount_point ≡ Some at) × (at.mount ≡ number)
    by None e = absurd (cc)
    by (Some at) e = (at, e, sym (eqb-true number at.mount (cc)))

module _ {world : World ℕ} {fresh : Fresh ℕ} {place : Location ℕ} {first : Mount ℕ}
    (a : AttachesOne world fresh place first) where
  abbrev it : Attachment
  it = one_of world fresh place first

  same_by_number : (x y : Mount ℕ) → Among x world.mounts → Among y world.mounts → x.number ≡ y.number → x ≡ y
  same_by_number x y m n e = cc (found_itself _ a.can.one_number x m, found_itself _ a.can.one_number y n)

  -- Mounts that were there hear the groups that they heard

  pub receives-moved : (mount : Mount ℕ) → Among mount world.mounts → (group : ℕ)
      → receives nat_eq (after a) group (moved a mount) ≡ receives nat_eq world group mount
  unfolding world_with
  receives-moved mount m group = same_truth _ _ back forth
    where
      back : receives nat_eq (after a) group (moved a mount) ≡ true → receives nat_eq world group mount ≡ true
      back r =
          let t = heard (after a) (moved a mount) group r in
          let e : source_of mount.propagation ≡ Some t.0 = cc ((moved_keeps a mount).propagation, t.1) in
          hears world a.can.groups mount m t.0 group e (old_up place false (serve_images it a.can) a.can.each_once t.0
          group (lives_in world a.can.groups mount m t.0 e) t.2)

      forth : receives nat_eq world group mount ≡ true → receives nat_eq (after a) group (moved a mount) ≡ true
      forth r =
          let t = heard world mount group r in
          hears (after a) (groups_live a) (moved a mount) (moved_among a mount m) t.0 group
          (cc ((moved_keeps a mount).propagation, t.1))
          (old_up_after place false (serve_images it a.can) a.can.each_once t.0 group
          (lives_in world a.can.groups mount m t.0 t.1) t.2)

  -- and a copy hears of a group just if what is attached did
  pub receives-copy : (part : Mount ℕ) → IsPart it part → (group : ℕ) → (destination a).propagation ≡ Shared group
      → receives nat_eq (after a) group (copy a part) ≡ receives nat_eq world group first
  unfolding world_with copy
  receives-copy part c group e = copies_hear_as_their_origins it part first group a.can c (first_of_tree a)
      (any_from_among (is_member_of nat_eq group) world.mounts (destination a) (destination_among a)
      (shared_member group (destination a) e))

  -- What stands on a copy covers its root, so each copy may leave

  covers : (part mount : Mount ℕ) → IsPart it part → (at : Location ℕ) → mount.mount_point ≡ Some at
      → at.mount ≡ (copy a part).number → Origin a mount → mount.mount_point ≡ Some (root_of (copy a part))
  covers part mount c at e same (is_new other d is) = cc (
    e,
    same,
    is,
    copy_stands a other d,
    copy_is_new a part c,
    is_one_of world.mounts other (part_there a other d),
  )
  covers part mount c at e same (was_there old m is) = by (stands_later a old)
    where
      by : StandsLater a old → mount.mount_point ≡ Some (root_of (copy a part))
      by (stays still off) = cc (a.on_mounts old m at (cc), same, copy_is_new a part c)
      by (rises other d was now) =
          let number : (copy a other).number ≡ (copy a part).number = cc in
          cc (
            is,
            now,
            found_itself (after a).mounts (one_number a) (copy a other) (copy_among a other d),
            found_itself (after a).mounts (one_number a) (copy a part) (copy_among a part c),
          )

  may_leave : (part : Mount ℕ) → IsPart it part → may_go nat_eq (after a) (copy a part) ≡ true
  may_leave part c = only_cover-at_root (copy a part) (filter (stands_on nat_eq (copy a part).number) (after a).mounts)
      (pair-filter (share_a_mount_point nat_eq) (stands_on nat_eq (copy a part).number) (after a).mounts a.places)
      (λ mount m.
      let from = among-from_filter (stands_on nat_eq (copy a part).number) (after a).mounts mount m in
      let t = stands_on-point (copy a part).number mount from.1 in
      covers part mount c t.0 t.1 t.2 (origin a mount from.0))

  -- What an unmount of the copy at the destination takes

  abbrev pub gone : ℕ
  gone = number_at it (destination a) first

  abbrev pub GoesWithIt : ℕ → Type 0
  GoesWithIt = Goes (after a) (copy a (destination a))

  -- what stands at the place on a mount that hears of the group of a shared destination, if it may
  goes_at_receiver : (group : ℕ) (receiver child : Mount ℕ) → (destination a).propagation ≡ Shared group
      → Among receiver (after a).mounts → receives nat_eq (after a) group receiver ≡ true
      → Among child (after a).mounts → child.mount_point ≡ Some (on a receiver)
      → may_go nat_eq (after a) child ≡ true → GoesWithIt child.number
  goes_at_receiver group receiver child e r hearing m stands may = at_receiver (on a (destination a)) group receiver
      child (copy_stands a _ (destination_part a)) (destination_kind a ∙ e)
      (contains_from_among (after a).mounts receiver r) (receives_soundly (after a) group receiver hearing)
      (found_at_its_place (after a).mounts a.places child m (on a receiver) stands) may

  -- each copy,
  copy_goes : (part : Mount ℕ) → IsPart it part → GoesWithIt (copy a part).number
  copy_goes part c = by _ refl
    where
      m : Among part world.mounts
      m = part_there a part c

      by : (own : Option ℕ) → group_of (destination a).propagation ≡ own → GoesWithIt (copy a part).number
      by None e = subst (λ x. GoesWithIt (copy a x).number) (sym (only_part it a.can e part c))
          (alone (on a (destination a)) (copy_stands a _ (destination_part a)) (cc (destination_kind a, e)))
      by (Some group) e =
          let shared = group_shared _ group e in
          goes_at_receiver group (moved a part) (copy a part) shared (moved_among a part m)
          (receives-moved part m group ∙ hears_group world fresh place first a.there part c group shared)
          (copy_among a part c) (cc (copy_stands a part c, (moved_keeps a part).number)) (may_leave part c)

  pub copies_go : (part : Mount ℕ) → IsPart it part → goes_with (after a) gone (copy a part).number ≡ true
  unfolding world_with copy
  copies_go part c = (what_goes_is_named (after a) gone _ (groups_live a)).1 (copy_goes part c)

  takes_old : (mount : Mount ℕ) → GoesWithIt (moved a mount).number
      → mount_left (after a) gone mount.number ≡ detached (mount_numbered nat_eq (after a) mount.number)
  unfolding world_with copy
  takes_old mount goes = what_goes_is_detached (after a) gone mount.number
      ((what_goes_is_named (after a) gone mount.number (groups_live a)).1
      (subst GoesWithIt (moved_keeps a mount).number goes))

  -- what stood at a receiver that takes part, if it may, where what is attached hears of the destination's group and
  -- its root is the node of the place,
  pub taken_along : (group : ℕ) (receiver mount : Mount ℕ) → (destination a).propagation ≡ Shared group
      → Contains world.mounts receiver → receives nat_eq world group receiver ≡ true → Contains world.mounts mount
      → stands_at nat_eq (on a receiver) mount ≡ true → takes_part nat_eq world place receiver ≡ true
      → receives nat_eq world group first ≡ true → nat_eq first.root place.node ≡ true
      → may_go nat_eq (after a) (mount_numbered nat_eq (after a) mount.number) ≡ true
      → mount_left (after a) gone mount.number ≡ detached (mount_numbered nat_eq (after a) mount.number)
  taken_along group receiver mount e r heard n stood takes hearing root may = takes_old mount (goes_at_receiver group
      (copy a receiver) (moved a mount) e (copy_among a receiver c) (receives-copy receiver c group e ∙ hearing)
      (moved_among a mount m) (stands (stands_later a mount)) (cc (found-moved a mount m)))
    where
      m : Among mount world.mounts
      m = among_from_contains world.mounts mount n

      p : Among receiver (rest_of (parts a))
      p = receiver_among a group receiver e (among_from_contains world.mounts receiver r) heard takes

      c : IsPart it receiver
      c = contains_from_among (parts a) receiver (inr p)

      stands : StandsLater a mount → (moved a mount).mount_point ≡ Some (on a (copy a receiver))
      stands (stays still off) = cc (stood, off receiver p)
      stands (rises other d was now) =
          let number : other.number ≡ receiver.number = cc (stands_there (on a receiver) mount stood) in
          let same = same_by_number other receiver (part_there a other d) (part_there a receiver c) number in
          cc (now, same, copy_root a receiver c, eqb-true first.root place.node root)

  -- and what stood at a receiver that takes no part, if it may.
  pub taken_beside : child_at nat_eq world.mounts place ≡ None → (group : ℕ) (receiver mount : Mount ℕ)
      → (destination a).propagation ≡ Shared group → Contains world.mounts receiver
      → receives nat_eq world group receiver ≡ true → Contains world.mounts mount
      → stands_at nat_eq (on a receiver) mount ≡ true → takes_part nat_eq world place receiver ≡ false
      → may_go nat_eq (after a) (mount_numbered nat_eq (after a) mount.number) ≡ true
      → mount_left (after a) gone mount.number ≡ detached (mount_numbered nat_eq (after a) mount.number)
  taken_beside free group receiver mount e c heard n stood apart may = takes_old mount (goes_at_receiver group
      (moved a receiver) (moved a mount) e (moved_among a receiver r) (receives-moved receiver r group ∙ heard)
      (moved_among a mount m) (stands (stands_later a mount)) (cc (found-moved a mount m)))
    where
      r : Among receiver world.mounts
      r = among_from_contains world.mounts receiver c

      m : Among mount world.mounts
      m = among_from_contains world.mounts mount n

      at : mount.mount_point ≡ Some (on a receiver)
      at = stands_there (on a receiver) mount stood

      stands : StandsLater a mount → (moved a mount).mount_point ≡ Some (on a (moved a receiver))
      stands (stays still off) = cc (still, at, (moved_keeps a receiver).number)
      stands (rises other d was now) = ⊎_elim (λ here.
          let at_place : mount.mount_point ≡ Some place = was ∙ ap (λ n. Some (record { mount = n; node = place.node }))
          (ap (λ (x : Mount ℕ). x.number) here ∙ number-mount_in world.mounts place.mount) in
          cc (stands_at_its_place place mount at_place, unfound (stands_at nat_eq place) world.mounts free mount m))
          (λ rest.
          let number : other.number ≡ receiver.number = cc (was, at) in
          let same = same_by_number other receiver (part_there a other d) r number in
          cc (among-from_filter (takes_part nat_eq world place) (receivers_of nat_eq world (destination a)) other
          rest).1) (among_from_contains (parts a) other d)
