-- The groups that are new where a tree of mounts is attached, and their masters.
use Rattle.std.proofs.Common.{arith, ◌≡◌, refl, sym, ap, ◌∙◌, true, false, nat_eq, ℕ, Bool, List, None, Option, Some, [], eq-eqb, inl, inr, not, true≢false, ⊎_elim, ◌∷◌, ◌⊎◌, filter_map, option_map, if◌then◌else◌, unwrap_or}
use Rattle.vt_spec.proofs.Common.{Among, Copies, Graft, Location, Mount, Propagation, Shared, Twig, World, all_groups_made, among-filter_map, among-flat_map, among-from_filter, among-from_filter_map, among-from_flat_map, among-from_map, among-map, any_from_among, attached_by, common_steps, eqb_tells, folded, graft_of, group_made, group_of, has_members, image, is_destination, is_member_of, is_shared, master_after, masters_with, mount_at, nat_eq_false_turned, image_of_nearest_group, number-mount_in, parts_of, receivers_of, takes_part, then_some, twig_master, twig_of, type_on_shared, when}
use Rattle.vt_laws_mounts.specs.Mounts.Attaching.{OneNumberAMount}
use Rattle.vt_laws_mounts.specs.Mounts.Copies.{ServeAsImages}
use Rattle.vt_laws_mounts.proofs.GroupsKept.{member_shared}
use Rattle.vt_laws_mounts.proofs.GroupsRetyped.{unused_members}
use Rattle.vt_laws_mounts.proofs.mounts.MountsNumbered.{is_one_of, taker_elsewhere}
use Rattle.vt_laws_mounts.proofs.mounts.MountsReplaced.{found_itself}

-- the master of a group after groups were made: as it was, or one of those that were made for it
abbrev IsMade : List (ℕ × Option ℕ) → ℕ → Option ℕ → Type 0
IsMade made one above = (entry : ℕ × Option ℕ) × Among entry made × (one ≡ entry.0) × (above ≡ entry.1)

made_or_old : (master : ℕ → Option ℕ) (made : List (ℕ × Option ℕ)) (one : ℕ)
    → (folded (masters_with nat_eq) master made one ≡ master one)
    ⊎ IsMade made one (folded (masters_with nat_eq) master made one)
made_or_old master [] one = inl refl
made_or_old master (first ∷ rest) one =
    grind (arith, common_steps, eqb_tells, made_or_old (masters_with nat_eq master first) rest one)

-- a group that is made has one of those masters
made_for_one : (master : ℕ → Option ℕ) (made : List (ℕ × Option ℕ)) (entry : ℕ × Option ℕ) → Among entry made
    → IsMade made entry.0 (folded (masters_with nat_eq) master made entry.0)
made_for_one master [] entry m = absurd m
made_for_one master (first ∷ rest) entry m = ⊎_elim (λ kept.
    ⊎_elim (λ e. (
      first,
      inl refl,
      ap (λ (x : ℕ × Option ℕ). x.0) e,
      cc (kept, eq-eqb entry.0 first.0 (ap (λ (x : ℕ × Option ℕ). x.0) e)),
    )) (λ later. let t = made_for_one (masters_with nat_eq master first) rest entry later in (t.0, inr t.1, t.2, t.3))
    m) (λ t. (t.0, inr t.1, t.2, t.3)) (made_or_old _ rest _)

module _ {world : World ℕ} {new : Copies ℕ} (place : Location ℕ) (moves : Bool) {mounts : List (Mount ℕ)}
    (serve : ServeAsImages world (parts_of nat_eq world place) mounts new) (own : OneNumberAMount mounts) where
  abbrev pub tree : Graft ℕ
  tree = graft_of nat_eq world new place moves mounts

  abbrev pub parts : List (Mount ℕ)
  parts = parts_of nat_eq world place

  abbrev pub destination : Mount ℕ
  destination = mount_at nat_eq world place

  abbrev pub twig : Mount ℕ → Twig ℕ
  twig = twig_of new (group_of destination.propagation)

  abbrev pub after : World ℕ
  after = attached_by nat_eq world new place moves mounts

  abbrev pub nearest : Mount ℕ → Option ℕ → Option ℕ
  nearest origin above = image_of_nearest_group nat_eq world new parts destination (twig origin) above

  -- the master of the image of a group
  abbrev pub image_master : ℕ → Mount ℕ → Option ℕ
  image_master group origin = if is_member_of nat_eq group destination then master_after origin.propagation
      else nearest origin (world.master group)

  abbrev IsImage : Mount ℕ → ℕ × Option ℕ → Type 0
  IsImage origin entry =
      (group : ℕ) × (has_members nat_eq parts group ≡ true) × (entry.0 ≡ new.image group origin.number)
      × (entry.1 ≡ image_master group origin)

  -- at the destination
  pub member_by_group : (mount : Mount ℕ) (group : ℕ) → group_of mount.propagation ≡ Some group
      → is_member_of nat_eq group mount ≡ true
  member_by_group mount group e = cc (eq-eqb group group refl)

  pub takes_part_in : (mount : Mount ℕ) (group : ℕ) → Among mount parts → group_of mount.propagation ≡ Some group
      → has_members nat_eq parts group ≡ true
  takes_part_in mount group m e =
      any_from_among (is_member_of nat_eq group) parts mount m (member_by_group mount group e)

  -- the group that a type makes, with the type that is taken
  abbrev makes : (Propagation ℕ → Propagation ℕ) → Propagation ℕ → Option (ℕ × Option ℕ)
  makes taken kind = if is_shared kind then None
      else option_map (λ own_group. (own_group, master_after kind)) (group_of (taken kind))

  image_there : (origin : Mount ℕ) (entry : ℕ × Option ℕ) → twig_master (twig origin) ≡ Some entry
      → IsImage origin entry
  image_there origin entry e = grind (arith, common_steps, takes_part_in, member_by_group, true≢false)

  -- elsewhere
  abbrev made_pair : Mount ℕ → ℕ → ℕ × Option ℕ
  made_pair origin group = (image nat_eq new destination (twig origin) group, nearest origin (world.master group))

  abbrev made_elsewhere : Mount ℕ → Option ℕ → Option (ℕ × Option ℕ)
  made_elsewhere origin found =
      then_some found (λ group. when (not (is_member_of nat_eq group destination)) (made_pair origin group))

  -- the image of a group that the destination is not in
  pub image_elsewhere : (group : ℕ) (origin : Mount ℕ) → is_member_of nat_eq group destination ≡ false
      → image nat_eq new destination (twig origin) group ≡ new.image group origin.number
  image_elsewhere group origin e =
      ap (λ b. if b then unwrap_or (group_of (twig origin).propagation) (new.image group origin.number)
      else new.image group origin.number) e

  image_at_part : (part origin : Mount ℕ) (entry : ℕ × Option ℕ) → Among part parts
      → made_elsewhere origin (group_of part.propagation) ≡ Some entry → IsImage origin entry
  image_at_part part origin entry m e =
      grind (arith, common_steps, true≢false, made_pair, takes_part_in, image_elsewhere)

  -- each group that is made is an image
  abbrev pub all_made : List (ℕ × Option ℕ)
  all_made = all_groups_made nat_eq world new tree parts

  made_are_images : (entry : ℕ × Option ℕ) → Among entry all_made
      → (origin : Mount ℕ) × Among origin mounts × IsImage origin entry
  made_are_images entry m =
      let at = among-from_flat_map (λ part. filter_map (group_made nat_eq world new tree parts part) tree.twigs) parts
      entry m in
      let from = among-from_filter_map (group_made nat_eq world new tree parts at.0) tree.twigs entry at.2 in
      let origin = among-from_map twig mounts from.0 from.1 in (
        origin.0,
        origin.1,
        by at.0 at.1 origin.0 (is_destination nat_eq tree at.0.number) refl (cc (origin.2, from.2)),
      )
    where
      by : (part : Mount ℕ) → Among part parts → (origin : Mount ℕ) (b : Bool)
          → is_destination nat_eq tree part.number ≡ b
          → group_made nat_eq world new tree parts part (twig origin) ≡ Some entry → IsImage origin entry
      by part n origin true f e = image_there origin entry (cc)
      by part n origin false f e = image_at_part part origin entry n (cc)

  -- groups that had members keep their masters
  pub old_master : (group : ℕ) → has_members nat_eq world.mounts group ≡ true → after.master group ≡ world.master group
  old_master group has = ⊎_elim (λ kept. kept) (λ t.
      let from = made_are_images t.0 t.1 in
      absurd (true≢false (sym has ∙ ap (has_members nat_eq world.mounts) (t.2 ∙ from.2.2) ∙ unused_members world _
      (serve.unused from.2.0 from.0.number from.2.1 (is_one_of mounts from.0 from.1))))) (made_or_old _ _ group)

  -- and the image of a group that is made has its own
  pub new_master : (group : ℕ) (origin : Mount ℕ) → has_members nat_eq parts group ≡ true → Among origin mounts
      → (above : Option ℕ) → Among (new.image group origin.number, above) all_made
      → after.master (new.image group origin.number) ≡ image_master group origin
  new_master group origin has m above made =
      let t = made_for_one world.master all_made (new.image group origin.number, above) made in
      let from = made_are_images t.0 t.1 in
      let same : (group ≡ from.2.0) × (origin.number ≡ from.0.number) =
      serve.apart group origin.number from.2.0 from.0.number has (is_one_of mounts origin m) from.2.1
      (is_one_of mounts from.0 from.1) (t.2 ∙ from.2.2) in
      let it : from.0 ≡ origin = cc (found_itself mounts own from.0 from.1, same.1)
      ∙ found_itself mounts own origin m in
      cc (t.3, from.2.3, same.0, it)

  -- what a mount of the tree makes at a part is made
  pub made_at : (part origin : Mount ℕ) → Among part parts → Among origin mounts → (entry : ℕ × Option ℕ)
      → group_made nat_eq world new tree parts part (twig origin) ≡ Some entry → Among entry all_made
  made_at part origin m n entry e =
      among-flat_map (λ other. filter_map (group_made nat_eq world new tree parts other) tree.twigs) parts part entry m
      (among-filter_map (group_made nat_eq world new tree parts part) tree.twigs (twig origin) entry
      (among-map twig mounts origin n) e)

  pub at_destination : is_destination nat_eq tree destination.number ≡ true
  at_destination = eq-eqb destination.number place.mount (number-mount_in _ _)

  -- the master of a group that a mount of the tree makes at the destination
  pub master_there : (origin : Mount ℕ) → Among origin mounts → (group : ℕ)
      → group_of destination.propagation ≡ Some group → (kind : Propagation ℕ) → origin.propagation ≡ kind
      → makes (type_on_shared (new.image group origin.number)) kind
      ≡ Some (new.image group origin.number, master_after kind)
      → after.master (new.image group origin.number) ≡ master_after kind
  master_there origin m group e kind f is =
      new_master group origin (takes_part_in destination group (inl refl) e) m (master_after kind)
      (made_at destination origin (inl refl) m (new.image group origin.number, master_after kind)
      (ap (λ b. if b then twig_master (twig origin) else made_elsewhere origin (group_of destination.propagation))
      at_destination ∙ ap (λ o. twig_master (twig_of new o origin)) e
      ∙ ap (makes (type_on_shared (new.image group origin.number))) f ∙ is))
      ∙ ap (λ b. if b then master_after origin.propagation else nearest origin (world.master group))
      (member_by_group destination group e) ∙ ap master_after f

  -- a member of another group than the destination's is elsewhere
  pub is_elsewhere : (part : Mount ℕ) (group : ℕ) → Among part parts → is_member_of nat_eq group part ≡ true
      → is_member_of nat_eq group destination ≡ false → is_destination nat_eq tree part.number ≡ false
  is_elsewhere part group m has lacks = ⊎_elim (λ same. absurd cc) (λ later.
      nat_eq_false_turned place.mount part.number (taker_elsewhere world place part
      (among-from_filter (takes_part nat_eq world place) (receivers_of nat_eq world destination) part later).1)) m

  -- the master of a group that is made at another part
  pub master_elsewhere : (part origin : Mount ℕ) → Among part parts → Among origin mounts → (group : ℕ)
      → is_member_of nat_eq group part ≡ true → is_member_of nat_eq group destination ≡ false
      → after.master (image nat_eq new destination (twig origin) group) ≡ nearest origin (world.master group)
  master_elsewhere part origin m n group has lacks =
      let above = nearest origin (world.master group) in
      let same = image_elsewhere group origin lacks in
      let shared : part.propagation ≡ Shared group = member_shared group part has in
      let made : Among (image nat_eq new destination (twig origin) group, above) all_made =
      made_at part origin m n _ (ap (λ b. if b then twig_master (twig origin) else made_elsewhere origin
      (group_of part.propagation)) (is_elsewhere part group m has lacks) ∙ ap (λ k. made_elsewhere origin (group_of k))
      shared ∙ ap (λ b. when (not b) (made_pair origin group)) lacks) in
      grind (arith, common_steps, new_master, takes_part_in)
