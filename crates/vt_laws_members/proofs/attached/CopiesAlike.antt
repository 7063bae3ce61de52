-- Copies that are attached at a mount of theirs, at its receivers and what they push up, are the same in the part.
use Rattle.std.proofs.Common.{arith, ◌≡◌, refl, sym, ap, subst, ◌∙◌, inl, inr, ⊎_elim, ℕ, nat_eq, Bool, true, false, cond, List, [], ◌∷◌, ◌++◌, Option, Some, None, append-nil, filter, flat_map, is_some, map, not, ◌&&◌, filter_map}
use Rattle.vt_spec.proofs.Common.{Among, Copies, Filesystem, Graft, Location, Mount, Private, Propagation, Shared, Slave, Task, TaskName, Twig, Unbindable, World, added_mounts, all_groups_made, among-filter, among-from_filter, attached_at, attached_by, common_steps, copies_at, copy_at, copy_type, filesystem_numbered, filter_alike, folded, found_among, graft_of, group_made, group_of, image, is_among, is_destination, is_directory_under, is_member_of, is_own_mount, list_any, map_alike, masters_with, members, mount_at, image_of_nearest_group, number-mount_in, part_of, parts_of, moved_onto_copy, receivers_of, rest_of, source_of, takes_part, then_some, twig_master, twig_of, used_filesystems, when, with_moved_mounts}
use Rattle.vt_laws_members.proofs.detached.lazily.GoingAlike.{receivers_alike, receivers_own}
use Rattle.vt_laws_members.proofs.Common.{IsSealed, filter_map_same, flat_map_alike, found, is_own, numbered, same_up, source_from_group}
use Rattle.vt_laws_members.proofs.judging.Common.{IsTheirs, no_events, own_theirs, same_mount, theirs_used}
use Rattle.vt_laws_members.proofs.changes.Common.{IsHeard, above_heard, apart, heard_by_own, master_same}
use Rattle.vt_laws_members.proofs.attached.GrownPart.{found_before}

-- a world without new filesystems
pub no_new_ones : (w : World ℕ) → w ≡ record w { filesystems = w.filesystems ++ [] }
no_new_ones w = sym (ap (λ l. record w { filesystems = l }) (append-nil w.filesystems))

-- masters that agree on a group still do, with the same new ones
pub masters_agree : (made : List (ℕ × Option ℕ)) (m n : ℕ → Option ℕ) (g : ℕ) → m g ≡ n g
    → folded (masters_with nat_eq) m made g ≡ folded (masters_with nat_eq) n made g
masters_agree [] m n g e = e
masters_agree (one ∷ made) m n g e = masters_agree made (masters_with nat_eq m one) (masters_with nat_eq n one) g (cc)

-- a mount of theirs where copies come, and new filesystems, whose numbers they do not use
pub record AttachesTheirs (world : World ℕ) (names : List TaskName) : Type 0 where
  pub sealing : IsSealed world names
  pub open sealing use {is, sealed_off}
  pub new_ones : List (Filesystem ℕ)
  pub unused : (n : ℕ) → is_among nat_eq n (used_filesystems nat_eq world names) ≡ true
      → list_any (λ (f : Filesystem ℕ). nat_eq n f.number) new_ones ≡ false
  pub place : Location ℕ
  pub there : Among (mount_at nat_eq world place) world.mounts
  pub own : is_own world names (members world names) (mount_at nat_eq world place) ≡ true

module _ {world : World ℕ} {names : List TaskName} (attaching : AttachesTheirs world names) where
  abbrev part : World ℕ
  part = part_of nat_eq world names

  abbrev theirs : List (Task ℕ)
  theirs = members world names

  abbrev owns : Mount ℕ → Bool
  owns = is_own world names theirs

  -- the worlds with new filesystems
  abbrev pub base : World ℕ
  base = record world { filesystems = world.filesystems ++ attaching.new_ones }

  abbrev pub base_part : World ℕ
  base_part = record part { filesystems = part.filesystems ++ attaching.new_ones }

  abbrev destination : Mount ℕ
  destination = mount_at nat_eq world attaching.place

  abbrev Heard : ℕ → Type 0
  Heard g = IsHeard attaching.sealing g

  on : IsTheirs world names attaching.is.mounts attaching.place.mount
  on = rw (← number-mount_in world.mounts attaching.place.mount) (own_theirs world names attaching.is destination
      attaching.there attaching.own)

  same_destination : mount_at nat_eq part attaching.place ≡ destination
  same_destination = same_mount world names attaching.is.mounts attaching.place.mount on

  -- Parts
  files_alike : (m : Mount ℕ) → Among m world.mounts → owns m ≡ true
      → filesystem_numbered nat_eq base_part m.filesystem ≡ filesystem_numbered nat_eq base m.filesystem
  files_alike m n its =
      let used : is_among nat_eq m.filesystem (used_filesystems nat_eq world names) ≡ true = cc (
        numbered world names attaching.is.mounts m n,
        theirs_used world names attaching.is
            (record { mount = m.number; node = m.root }) (own_theirs world names attaching.is m n its),
      ) in
      found_before part attaching.new_ones m.filesystem (attaching.unused m.filesystem used) ∙ found world names
      m.filesystem used ∙ sym (found_before world attaching.new_ones m.filesystem (attaching.unused m.filesystem used))

  abbrev takes : World ℕ → Mount ℕ → Mount ℕ → Bool
  takes w to m = not (nat_eq attaching.place.mount m.number) && is_some m.namespace && nat_eq to.filesystem m.filesystem
      && is_directory_under nat_eq (filesystem_numbered nat_eq w m.filesystem).files m.root attaching.place.node

  abbrev pub parts : List (Mount ℕ)
  parts = parts_of nat_eq base attaching.place

  pub parts_alike : parts_of nat_eq base_part attaching.place ≡ parts
  parts_alike = ap (λ to. to ∷ filter (takes base_part to) (receivers_of nat_eq part to)) same_destination
      ∙ ap (λ l. destination ∷ filter (takes base_part destination) l) (receivers_alike world names attaching.is.mounts
      (no_events attaching.sealing) destination attaching.there attaching.own) ∙ ap (λ l. destination ∷ l)
      (filter_alike (takes base_part destination) (takes base destination) (receivers_of nat_eq world destination)
      (λ m n.
      let its = receivers_own world names attaching.is.mounts (no_events attaching.sealing)
      destination m attaching.there attaching.own n in
      ap (λ (f : Filesystem ℕ). not (nat_eq attaching.place.mount m.number) && is_some m.namespace && nat_eq
      destination.filesystem m.filesystem && is_directory_under nat_eq f.files m.root attaching.place.node)
      (files_alike m its.0 its.1)))

  pub parts_own : (m : Mount ℕ) → Among m parts → Among m world.mounts × (owns m ≡ true)
  parts_own m n = ⊎_elim (λ same. (
    subst (λ x. Among x world.mounts) (sym same) attaching.there,
    ap owns same
        ∙ attaching.own,
  )) (λ receiver. receivers_own world names attaching.is.mounts
      (no_events attaching.sealing) destination m attaching.there attaching.own
      (among-from_filter (takes_part nat_eq base attaching.place) (receivers_of nat_eq world destination) m receiver).0)
      n

  -- What is attached, by these new numbers
  module _ (new : Copies ℕ) (moves : Bool) (origins : List (Mount ℕ)) where
    abbrev pub tree : Graft ℕ
    tree = graft_of nat_eq base new attaching.place moves origins

    abbrev pub copies : Mount ℕ → List (Mount ℕ)
    copies = copies_at nat_eq base new tree parts

    abbrev pub push : Mount ℕ → Mount ℕ
    push = moved_onto_copy nat_eq base new tree parts

    abbrev pub made : List (ℕ × Option ℕ)
    made = all_groups_made nat_eq base new tree parts

    heard_part : (p : Mount ℕ) → Among p parts → (g : ℕ) → source_of p.propagation ≡ Some g → Heard g
    heard_part p n g e =
        let its = parts_own p n in
        heard_by_own attaching.sealing p (among-filter (is_own_mount nat_eq world names) world.mounts p its.0 its.1) g e

    -- images up the masters
    nearest_alike : (twig : Twig ℕ) (g : ℕ) → Heard g
        → image_of_nearest_group nat_eq base_part new parts destination twig (Some g)
        ≡ image_of_nearest_group nat_eq base new parts destination twig (Some g)
    nearest_alike twig g heard =
        cc (same_up world names attaching.is.mounts (apart attaching.sealing).events g heard.0 heard.1)

    type_alike : (p : Mount ℕ) → Among p parts → (twig : Twig ℕ)
        → copy_type nat_eq base_part new parts destination twig p.propagation
        ≡ copy_type nat_eq base new parts destination twig p.propagation
    type_alike p n twig = by p.propagation refl
      where
        by : (kind : Propagation ℕ) → p.propagation ≡ kind → copy_type nat_eq base_part new parts destination twig kind
            ≡ copy_type nat_eq base new parts destination twig kind
        by (Shared g) e = refl
        by (Slave g) e = cc (nearest_alike twig g (heard_part p n g (ap source_of e)))
        by Private e = refl
        by Unbindable e = refl

    copy_alike : (p : Mount ℕ) → Among p parts → (twig : Twig ℕ)
        → copy_at nat_eq base_part new tree parts p twig ≡ copy_at nat_eq base new tree parts p twig
    copy_alike p n twig = cc (same_destination, type_alike p n twig)

    pub copies_alike : (p : Mount ℕ) → Among p parts → copies_at nat_eq base_part new tree parts p ≡ copies p
    copies_alike p n = map_alike _ (copy_at nat_eq base new tree parts p) tree.twigs (λ twig m. copy_alike p n twig)

    push_alike : (m : Mount ℕ) → moved_onto_copy nat_eq base_part new tree parts m ≡ push m
    push_alike m = grind (arith, common_steps, copies_alike, found_among)

    -- groups that copies form
    made_alike : (p : Mount ℕ) → Among p parts → (twig : Twig ℕ)
        → group_made nat_eq base_part new tree parts p twig ≡ group_made nat_eq base new tree parts p twig
    made_alike p n twig = ap (λ d. cond (is_destination nat_eq tree p.number) (twig_master twig)
        (then_some (group_of p.propagation) (λ group. when (not (is_member_of nat_eq group d)) (
          image nat_eq new d twig group,
          image_of_nearest_group nat_eq base_part new parts d twig (part.master group),
        )))) same_destination
        ∙ ap (cond (is_destination nat_eq tree p.number) (twig_master twig)) (by (group_of p.propagation) refl)
      where
        made_by : (World ℕ) → (ℕ → Option ℕ) → ℕ → Option (ℕ × Option ℕ)
        made_by w up group = when (not (is_member_of nat_eq group destination)) (
          image nat_eq new destination twig group,
          image_of_nearest_group nat_eq w new parts destination twig (up group),
        )

        above : (g : ℕ) → Heard g → (o : Option ℕ) → world.master g ≡ o
            → image_of_nearest_group nat_eq base_part new parts destination twig o
            ≡ image_of_nearest_group nat_eq base new parts destination twig o
        above g heard None e = refl
        above g heard (Some up) e = nearest_alike twig up
            (above_heard attaching.sealing up g e heard)

        by : (o : Option ℕ) → group_of p.propagation ≡ o
            → then_some o (made_by base_part part.master) ≡ then_some o (made_by base world.master)
        by None e = refl
        by (Some g) e =
            let heard = heard_part p n g (source_from_group p.propagation g e) in
            cc (master_same attaching.sealing g heard, above g heard (world.master g) refl)

    pub all_made_alike : all_groups_made nat_eq base_part new tree parts ≡ made
    all_made_alike = flat_map_alike (λ p. filter_map (group_made nat_eq base_part new tree parts p) tree.twigs)
        (λ p. filter_map (group_made nat_eq base new tree parts p) tree.twigs) parts
        (λ p n. filter_map_same (group_made nat_eq base_part new tree parts p)
        (group_made nat_eq base new tree parts p) tree.twigs (λ twig m. made_alike p n twig))

    -- what is attached to a world, by the copies of this one
    abbrev pub attached_as : World ℕ → World ℕ
    attached_as w = record w {
      mounts = map push (with_moved_mounts nat_eq moves w.mounts (copies destination))
          ++ added_mounts moves (copies destination) ++ flat_map copies (rest_of parts);
      master = folded (masters_with nat_eq) w.master made;
      filesystems = w.filesystems ++ attaching.new_ones;
    }

    abbrev mounts_by : (Mount ℕ → Mount ℕ) → List (Mount ℕ) → List (Mount ℕ) → List (Mount ℕ)
    mounts_by up first rest =
        map up (with_moved_mounts nat_eq moves part.mounts first) ++ added_mounts moves first ++ rest

    pub attached_there : attached_by nat_eq base_part new attaching.place moves origins ≡ attached_as part
    attached_there = ap (λ (m : Mount ℕ). attached_at nat_eq base_part new (record {
      destination = attaching.place;
      twigs = map (twig_of new (group_of m.propagation)) origins;
      moves = moves;
    }) (parts_of nat_eq base_part attaching.place)) same_destination
        ∙ ap (attached_at nat_eq base_part new tree) parts_alike ∙ ap (λ (d : Mount ℕ). record base_part {
          mounts = mounts_by (moved_onto_copy nat_eq base_part new tree parts) (copies_at nat_eq base_part new tree parts d)
              (flat_map (copies_at nat_eq base_part new tree parts) (rest_of parts));
          master = folded (masters_with nat_eq) part.master (all_groups_made nat_eq base_part new tree parts);
        }) same_destination ∙ (λ i. record base_part {
          mounts = mounts_by (λ m. push_alike m i) (copies_alike destination (inl refl) i)
              (flat_map_alike (copies_at nat_eq base_part new tree parts) copies (rest_of parts)
              (λ p n. copies_alike p (inr n)) i);
          master = folded (masters_with nat_eq) part.master (all_made_alike i);
        })
