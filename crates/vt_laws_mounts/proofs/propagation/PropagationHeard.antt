-- What the copies of a tree that is attached hear of.
use Rattle.std.proofs.Common.{arith, ◌≡◌, refl, sym, ap, subst, ◌∙◌, true, false, nat_eq, ℕ, Bool, List, None, Option, Some, [], option_map, true≢false, unwrap_or, ⊎_elim}
use Rattle.vt_spec.proofs.Common.{Among, Copies, Location, Mount, Private, Propagation, Shared, Slave, Unbindable, World, among-from_filter, among_from_contains, any_from_among, attached_by, common_steps, contains_from_among, group_of, groups_up, has_members, holds_of, is_among, is_member_of, parts_of, receivers, receives, same_truth, source_of}
use Rattle.vt_laws_mounts.specs.Mounts.Attaching.{OneNumberAMount}
use Rattle.vt_laws_mounts.specs.Mounts.Copies.{ServeAsImages}
use Rattle.vt_laws_mounts.specs.Mounts.Propagation.{Attachment, CanAttach, CopiesHearAsTheirOrigins, CopiesHearOneAnother, IsOfTree, IsPart, copy_of, destination_of, world_after}
use Rattle.vt_laws_mounts.specs.Mounts.Receivers.{GroupsLive}
use Rattle.vt_laws_mounts.proofs.attached.AttachedGroups.{groups_live_after}
use Rattle.vt_laws_mounts.proofs.attached.AttachedTypes.{copies_arrive, copies_there, members_move, members_stay, old_or_copies}
use Rattle.vt_laws_mounts.proofs.GroupsKept.{shared_member}
use Rattle.vt_laws_mounts.proofs.GroupsUp.{LivesIn, Up}
use Rattle.vt_laws_mounts.proofs.GroupsUp.Up.{here}
use Rattle.vt_laws_mounts.proofs.propagation.PropagationAttaching.{copy_kind, copy_shared, each_is_copied, image_group, kind_at_destination, kind_of, moving_there, part_among, serve_images, supply, tree_among}
use Rattle.vt_laws_mounts.proofs.propagation.PropagationCopies.{not_there}
use Rattle.vt_laws_mounts.proofs.propagation.PropagationImages.{AtSharedMount, Beyond, IsImageUp, above_image, beyond_group, group_has, has, hears_there, image, image_is, images_come_up, old_up, old_up_after, own_lives, part_lives, part_there, parts, same_image, sourced, there_shared, up, way_there}
use Rattle.vt_laws_mounts.proofs.propagation.PropagationTypes.{slave_kind}
use Rattle.vt_laws_mounts.proofs.propagation.PropagationUp.{Nearest, finds_some, found_nearest, heard, heard_up, hears, nearest_passes, nearest_up, up_among, up_further}
use Rattle.vt_laws_mounts.proofs.propagation.PropagationUp.Nearest.{itself}

-- groups live on, whether mounts move or not
keeps_groups : (world : World ℕ) (new : Copies ℕ) (place : Location ℕ) (moves : Bool) (mounts : List (Mount ℕ))
    → ServeAsImages world (parts_of nat_eq world place) mounts new → OneNumberAMount mounts
    → OneNumberAMount world.mounts → GroupsLive world
    → ((origin : Mount ℕ) → Among origin mounts → (source : ℕ) → source_of origin.propagation ≡ Some source
    → LivesIn world source) → (moves ≡ true → (origin : Mount ℕ) → Among origin mounts → Among origin world.mounts)
    → GroupsLive (attached_by nat_eq world new place moves mounts)
keeps_groups world new place false mounts serve own one live sourced moving =
    groups_live_after place false serve own live sourced (members_stay world new place mounts)
    (copies_there world new place mounts) (old_or_copies world new place false mounts)
keeps_groups world new place true mounts serve own one live sourced moving =
    groups_live_after place true serve own live sourced (members_move world new place mounts own one (moving refl))
    (copies_arrive world new place mounts own one (moving refl)) (old_or_copies world new place true mounts)

module _ (it : Attachment) (can : CanAttach it) where
  pub groups_after : GroupsLive (world_after it)
  groups_after =
      keeps_groups _ _ _ _ _ (serve_images it can) can.each_once can.one_number can.groups (sourced it can)
      (moving_there it can)

  copy_among : (part origin : Mount ℕ) → IsPart it part → IsOfTree it origin
      → Among (copy_of it part origin) (world_after it).mounts
  copy_among part origin c d = among_from_contains _ _ (each_is_copied it part origin can c d).there

  -- where the destination is in no group, it is all that takes part
  pub only_part : group_of (destination_of it).propagation ≡ None → (part : Mount ℕ) → IsPart it part
      → part ≡ destination_of it
  only_part e part c = ⊎_elim (λ same. same) (λ rest. absurd (subst
      (λ o. Among part (unwrap_or (option_map (receivers nat_eq it.world) o) [])) e
      (among-from_filter _ _ part rest).0)) (part_among it can part c)

  in_a_group : (part : Mount ℕ) (group : ℕ) → IsPart it part → part.propagation ≡ Shared group
      → (own : ℕ) × (group_of (destination_of it).propagation ≡ Some own)
  in_a_group part group c e = grind (arith, common_steps, true≢false, only_part)

-- Copies at a shared destination and its receivers hear one another as the parts do.
module _ {it : Attachment} {group : ℕ} {origin : Mount ℕ} (at : AtSharedMount it group origin) where
  abbrev after : World ℕ
  after = world_after it

  abbrev copy : Mount ℕ → Mount ℕ
  copy part = copy_of it part origin

  abbrev Near : ℕ → ℕ → Type 0
  Near = Nearest it.world.master (has at)

  of_tree : IsOfTree it origin
  of_tree = contains_from_among it.mounts origin at.of_tree

  -- a copy receives from the image of the nearest group up from what its part receives from
  record ReceivesByImage (part : Mount ℕ) : Type 0 where
    source : ℕ
    near : ℕ
    of_part : source_of part.propagation ≡ Some source
    nearest : Near source near
    of_copy : source_of (copy part).propagation ≡ Some (image at near)

  receives_by_image : (part : Mount ℕ) → IsPart it part → ReceivesByImage part
  receives_by_image part c = by _ refl
    where
      m : Among part (parts at)
      m = part_among it at.can part c

      same : (copy part).propagation ≡ kind_of it at.can part origin
      same = copy_kind it at.can part origin c of_tree

      none : source_of part.propagation ≡ None → ReceivesByImage part
      none e = absurd (cc ((heard it.world part group (hears_there at part m)).1, e))

      away : (master : ℕ) → part.propagation ≡ Slave master → nat_eq part.number it.mount_point.mount ≡ false
      away master e = ⊎_elim (λ is. absurd (cc (there_shared at, is, e)))
          (λ rest. not_there it.world (supply it at.can) it.mount_point it.moves it.mounts part rest) m

      by : (kind : Propagation ℕ) → part.propagation ≡ kind → ReceivesByImage part
      by (Shared one) e = record {
        source = one;
        near = one;
        of_part = ap source_of e;
        nearest = itself one (any_from_among (is_member_of nat_eq one) (parts at) part m (shared_member one part e));
        of_copy = ap source_of (copy_shared it at.can part origin one c of_tree e);
      }
      by (Slave master) e =
          let life = part_lives at part m master (ap source_of e) in
          let way = up_among it.world at.can.groups master group life (way_there at part m master (ap source_of e)) in
          let found = finds_some (has at) _ group way (group_has at) in
          let slave = slave_kind it.mount_point it.moves (serve_images it at.can) at.can.each_once part origin master
          found.0 (away master e) e found.1 in
          record {
            source = master;
            near = found.0;
            of_part = ap source_of e;
            nearest = found_nearest _ (has at) _ master _ found.1;
            of_copy = ap source_of (same ∙ slave);
          }
      by Private e = none (ap source_of e)
      by Unbindable e = none (ap source_of e)

  module _ (part : Mount ℕ) (c : IsPart it part) where
    abbrev its : ReceivesByImage part
    its = receives_by_image part c

    abbrev m : Among part (parts at)
    m = part_among it at.can part c

    near_has : has at its.near ≡ true
    near_has = nearest_passes _ (has at) its.source its.near its.nearest

    -- what a copy hears of comes up that image,
    copy_heard : (one : ℕ) → receives nat_eq after one (copy part) ≡ true → IsImageUp at its.near one
    copy_heard one r =
        above_image at (image at its.near) one (heard_up after (copy part) _ one its.of_copy r) its.near near_has refl

    -- and of all that does it hears
    copy_hears : (one : ℕ) → Up (up at) (image at its.near) one → receives nat_eq after one (copy part) ≡ true
    copy_hears one way = hears after (groups_after it at.can) (copy part)
        (copy_among it at.can part origin c of_tree) (image at its.near) one its.of_copy way

    -- the image of a group comes up that image if the group comes up what the part receives from
    image_above : (one : ℕ) → Up it.world.master its.source one → has at one ≡ true
        → Up (up at) (image at its.near) (image at one)
    image_above one way h = images_come_up at its.source
        (part_lives at part m its.source its.of_part) its.near one its.nearest way h

    -- it hears of the image of a group just where the part heard of the group,
    hears_images : (one : ℕ) → has at one ≡ true
        → receives nat_eq after (image at one) (copy part) ≡ receives nat_eq it.world one part
    hears_images one h = same_truth _ _ back forth
      where
        from_group : Up it.world.master its.near one → receives nat_eq it.world one part ≡ true
        from_group way = hears it.world at.can.groups part (part_there at part m) its.source one its.of_part
            (up_further _ its.source its.near one (nearest_up _ (has at) its.source its.near its.nearest) way)

        -- only the destination's group has an image that had members
        from_beyond : Beyond at (image at one) → receives nat_eq it.world one part ≡ true
        from_beyond (source, e, way) = ⊎_elim
            (λ own. subst (λ g. receives nat_eq it.world g part ≡ true) (sym own.0) (hears_there at part m))
            (λ new. absurd (cc (own_lives at source (image at one) e way, new.unused))) (image_is at one h)

        back : receives nat_eq after (image at one) (copy part) ≡ true → receives nat_eq it.world one part ≡ true
        back r = ⊎_elim
            (λ t. from_group (subst (Up it.world.master its.near) (sym (same_image at one t.0 h t.2 t.3)) t.1))
            from_beyond (copy_heard (image at one) r)

        forth : receives nat_eq it.world one part ≡ true → receives nat_eq after (image at one) (copy part) ≡ true
        forth r = copy_hears (image at one) (image_above one (heard_up it.world part its.source one its.of_part r) h)

    -- and of a group that had members just where the mount of the tree did
    hears_old : (one : ℕ) → has_members nat_eq it.world.mounts one ≡ true
        → receives nat_eq after one (copy part) ≡ receives nat_eq it.world one origin
    hears_old one lived = same_truth _ _ back forth
      where
        from_beyond : Beyond at one → receives nat_eq it.world one origin ≡ true
        from_beyond (source, e, way) = ap (holds_of (λ s. is_among nat_eq one (groups_up it.world s))) e
            ∙ up_among it.world at.can.groups source one (sourced it at.can origin at.of_tree source e) way

        back : receives nat_eq after one (copy part) ≡ true → receives nat_eq it.world one origin ≡ true
        back r = ⊎_elim (λ t. ⊎_elim (λ own. from_beyond (one, cc (own.1, t.3), here one))
            (λ new. absurd (cc (lived, t.3, new.unused))) (image_is at t.0 t.2))
            from_beyond (copy_heard one r)

        forth : receives nat_eq it.world one origin ≡ true → receives nat_eq after one (copy part) ≡ true
        forth r = copy_hears one (up_further (up at) _ (image at group) one (image_above group
            (way_there at part m its.source its.of_part) (group_has at))
            (beyond_group at one (heard it.world origin one r)))

at_shared : (it : Attachment) (origin : Mount ℕ) (group : ℕ) → CanAttach it → IsOfTree it origin
    → group_of (destination_of it).propagation ≡ Some group → AtSharedMount it group origin
at_shared it origin group can d e = record { can = can; shared = e; of_tree = tree_among it can origin d }

pub copies_hear_one_another : CopiesHearOneAnother
copies_hear_one_another it one other origin group can c c_other d e =
    let own = in_a_group it can other group c_other e in
    let has_group = any_from_among (is_member_of nat_eq group) (parts_of nat_eq it.world it.mount_point) other
    (part_among it can other c_other) (shared_member group other e) in (
      image_group it can origin group,
      copy_shared it can other origin group c_other d e,
      hears_images (at_shared it origin own.0 can d own.1) one c group has_group,
    )

pub copies_hear_as_their_origins : CopiesHearAsTheirOrigins
copies_hear_as_their_origins it part origin group can c d lived = by (group_of (destination_of it).propagation) refl
  where
    by : (found : Option ℕ) → group_of (destination_of it).propagation ≡ found
        → receives nat_eq (world_after it) group (copy_of it part origin) ≡ receives nat_eq it.world group origin
    by (Some own) f = hears_old (at_shared it origin own can d f) part c group lived
    by None f = same_truth _ _ back forth
      where
        same_kind : (copy_of it part origin).propagation ≡ origin.propagation
        same_kind = cc (only_part it can f part c, kind_at_destination it can origin d)

        life : (source : ℕ) → source_of origin.propagation ≡ Some source → LivesIn it.world source
        life = sourced it can origin (tree_among it can origin d)

        back : receives nat_eq (world_after it) group (copy_of it part origin) ≡ true
            → receives nat_eq it.world group origin ≡ true
        back r =
            let t = heard (world_after it) (copy_of it part origin) group r in
            let e : source_of origin.propagation ≡ Some t.0 = cc (same_kind, t.1) in
            ap (holds_of (λ s. is_among nat_eq group (groups_up it.world s))) e
            ∙ up_among it.world can.groups t.0 group (life t.0 e) (old_up it.mount_point it.moves
            (serve_images it can) can.each_once t.0 group (life t.0 e) t.2)

        forth : receives nat_eq it.world group origin ≡ true
            → receives nat_eq (world_after it) group (copy_of it part origin) ≡ true
        forth r =
            let t = heard it.world origin group r in
            hears (world_after it) (groups_after it can) (copy_of it part origin)
            (copy_among it can part origin c d) t.0 group (cc (same_kind, t.1))
            (old_up_after it.mount_point it.moves (serve_images it can) can.each_once t.0 group (life t.0 t.1) t.2)
