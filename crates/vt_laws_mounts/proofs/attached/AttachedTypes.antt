-- The types of mounts where a tree of mounts is attached: each mount that was there keeps its type, or moves and takes
-- that of the tree, and each mount of the tree has a copy at each part.
use Rattle.std.proofs.Common.{arith, ◌≡◌, refl, sym, ap, subst, ◌∙◌, true, false, nat_eq, ℕ, Bool, List, None, Option, Some, [], eq-eqb, eqb-true, flat_map, inl, inr, map, ⊎_elim, ◌++◌, ◌∷◌, ◌⊎◌}
use Rattle.vt_spec.proofs.Common.{Among, Copies, Graft, Location, Mount, Propagation, Shared, Twig, World, added_mounts, among-append, among-append_left, among-append_right, among-flat_map, among-folded_mounts, among-from_flat_map, among-from_map, among-map, among_numbers, any_among, any_from_among, attached_by, common_steps, copies_at, copy_at, copy_number, folded, graft_of, group_of, is_among, is_member_of, mount_at, mount_in, number-mount_in, parts_of, moved_onto_copy, rest_of, twig_of, type_at, type_at_part, type_on_shared, with_mount, with_moved_mounts}
use Rattle.vt_laws_mounts.specs.Mounts.Attaching.{OneNumberAMount, numbers_of}
use Rattle.vt_laws_mounts.proofs.attached.AttachedGroups.{HasCopies, IsOldOrCopy, MembersStay, kind_at}
use Rattle.vt_laws_mounts.proofs.GroupsKept.{member_shared, shared_member}
use Rattle.vt_laws_mounts.proofs.mounts.MountsAttached.{keeps_number, push_keeps}
use Rattle.vt_laws_mounts.proofs.mounts.MountsNumbered.{is_one_of}
use Rattle.vt_laws_mounts.proofs.mounts.MountsReplaced.{found_itself, numbers-with_mount, replaced_elsewhere, replaced_there}

-- Mounts that are put in the place of others
module _ (new : Mount ℕ) where
  -- a mount in the place of one is there
  put_there : (mounts : List (Mount ℕ)) (old : Mount ℕ) → Among old mounts → nat_eq new.number old.number ≡ true
      → Among new (with_mount nat_eq mounts new)
  put_there mounts old m e = subst (λ x. Among x (with_mount nat_eq mounts new)) (replaced_there new old e)
      (among-map _ mounts old m)

  left_there : (mounts : List (Mount ℕ)) (old : Mount ℕ) → Among old mounts → nat_eq new.number old.number ≡ false
      → Among old (with_mount nat_eq mounts new)
  left_there mounts old m e = subst (λ x. Among x (with_mount nat_eq mounts new)) (replaced_elsewhere new old e)
      (among-map _ mounts old m)

-- a mount is there still, or one with its number in its place
abbrev IsThereOrPut : List (Mount ℕ) → List (Mount ℕ) → Mount ℕ → Type 0
IsThereOrPut mounts copies old = (mount : Mount ℕ) × Among mount (folded (with_mount nat_eq) mounts copies)
    × ((mount ≡ old) ⊎ (Among mount copies × (mount.number ≡ old.number)))

there_or_put : (mounts copies : List (Mount ℕ)) (old : Mount ℕ) → Among old mounts → IsThereOrPut mounts copies old
there_or_put mounts [] old m = (old, m, inl refl)
there_or_put mounts (copy ∷ copies) old m = by _ refl (there_or_put (with_mount nat_eq mounts copy) copies)
  where
    by : (b : Bool) → nat_eq copy.number old.number ≡ b → ((x : Mount ℕ) → Among x (with_mount nat_eq mounts copy)
        → IsThereOrPut (with_mount nat_eq mounts copy) copies x) → IsThereOrPut mounts (copy ∷ copies) old
    by true e later =
        let same : copy.number ≡ old.number = eqb-true copy.number old.number e in
        let t = later copy (put_there copy mounts old m e) in (
          t.0,
          t.1,
          ⊎_elim (λ f. inr (inl f, ap (λ (x : Mount ℕ). x.number) f ∙ same)) (λ put. inr (inr put.0, put.1 ∙ same)) t.2,
        )
    by false e later =
        let t = later old (left_there copy mounts old m e) in
        (t.0, t.1, ⊎_elim inl (λ put. inr (inr put.0, put.1)) t.2)

-- where a mount has its number, each of those that are put is there, or another one with its number
abbrev IsPut : List (Mount ℕ) → List (Mount ℕ) → Mount ℕ → Type 0
IsPut mounts copies copy =
    (mount : Mount ℕ) × Among mount (folded (with_mount nat_eq) mounts copies) × Among mount copies
    × (mount.number ≡ copy.number)

each_is_put : (mounts copies : List (Mount ℕ)) (copy : Mount ℕ) → Among copy copies
    → is_among nat_eq copy.number (numbers_of mounts) ≡ true → IsPut mounts copies copy
each_is_put mounts [] copy m there = absurd m
each_is_put mounts (first ∷ rest) copy m there = ⊎_elim (λ same.
    let old = among-from_map _ mounts _ (among_numbers _ _ there) in
    let number : first.number ≡ old.0.number = ap (λ (x : Mount ℕ). x.number) (sym same) ∙ old.2 in
    let t = there_or_put _ rest first (put_there first mounts old.0 old.1 (eq-eqb first.number old.0.number number)) in
    let back : first.number ≡ copy.number = ap (λ (x : Mount ℕ). x.number) (sym same) in (
      t.0,
      t.1,
      ⊎_elim (λ e. inl e) (λ put. inr put.0) t.2,
      ⊎_elim (λ e. ap (λ (x : Mount ℕ). x.number) e) (λ put. put.1) t.2 ∙ back,
    )) (λ later.
    let t = each_is_put (with_mount nat_eq mounts first) rest copy later
    (ap (is_among nat_eq copy.number) (numbers-with_mount first mounts) ∙ there) in
    (t.0, t.1, inr t.2, t.3)) m

-- a shared mount keeps its group at any destination
keeps_shared : (new : Copies ℕ) (found : Option ℕ) (origin : Mount ℕ) (group : ℕ) → origin.propagation ≡ Shared group
    → type_at new found origin ≡ Shared group
keeps_shared new None origin group e = e
keeps_shared new (Some one) origin group e = ap (type_on_shared (new.image one origin.number)) e

module _ (world : World ℕ) (new : Copies ℕ) (place : Location ℕ) (moves : Bool) (mounts : List (Mount ℕ)) where
  abbrev tree : Graft ℕ
  tree = graft_of nat_eq world new place moves mounts

  abbrev parts : List (Mount ℕ)
  parts = parts_of nat_eq world place

  abbrev destination : Mount ℕ
  destination = mount_at nat_eq world place

  abbrev twig : Mount ℕ → Twig ℕ
  twig = twig_of new (group_of destination.propagation)

  abbrev made : Mount ℕ → Twig ℕ → Mount ℕ
  made = copy_at nat_eq world new tree parts

  abbrev copies : Mount ℕ → List (Mount ℕ)
  copies = copies_at nat_eq world new tree parts

  abbrev push : Mount ℕ → Mount ℕ
  push = moved_onto_copy nat_eq world new tree parts

  abbrev movers : Bool → List (Mount ℕ)
  movers b = with_moved_mounts nat_eq b world.mounts (copies destination)

  abbrev old : List (Mount ℕ)
  old = map push (movers moves)

  abbrev added : List (Mount ℕ)
  added = added_mounts moves (copies destination)

  abbrev rest : List (Mount ℕ)
  rest = flat_map copies (rest_of parts)

  abbrev after : World ℕ
  after = attached_by nat_eq world new place moves mounts

  push_type : (mount : Mount ℕ) → (push mount).propagation ≡ mount.propagation
  push_type mount = (push_keeps world new tree parts mount).propagation

  copy_among : (part origin : Mount ℕ) → Among origin mounts → Among (made part (twig origin)) (copies part)
  copy_among part origin m = among-map _ _ _ (among-map twig mounts origin m)

  -- a pushed one
  pushed_among : (mount : Mount ℕ) → Among mount (movers moves) → Among (push mount) after.mounts
  pushed_among mount m = among-append_left _ rest _ (among-append_left old added _ (among-map push _ mount m))

  -- copies at receivers, and at the destination
  copied_there : (part origin : Mount ℕ) → Among part (rest_of parts) → Among origin mounts
      → (copy : Mount ℕ) × Among copy after.mounts
      × (copy.propagation ≡ kind_at world new place moves mounts part origin)
  copied_there part origin m n = (
    made part (twig origin),
    among-append_right (old ++ added) rest (made part (twig origin))
        (among-flat_map copies (rest_of parts) part (made part (twig origin)) m (copy_among part origin n)),
    refl,
  )

  of_copy : (part copy : Mount ℕ) → Among copy (copies part) → (origin : Mount ℕ) × Among origin mounts
      × (copy.propagation ≡ kind_at world new place moves mounts part origin)
      × (copy.number ≡ copy_number nat_eq new tree part.number origin.number)
  of_copy part copy m =
      let from = among-from_map _ _ copy m in
      let origin = among-from_map twig mounts from.0 from.1 in (
        origin.0,
        origin.1,
        ap (λ (x : Mount ℕ). x.propagation) from.2 ∙ ap (type_at_part nat_eq world new tree parts part) origin.2,
        ap (λ (x : Mount ℕ). x.number) from.2
            ∙ ap (λ (t : Twig ℕ). copy_number nat_eq new tree part.number t.origin.number) origin.2,
      )

  is_copy : (part copy : Mount ℕ) → Among part parts → Among copy (copies part)
      → IsOldOrCopy world new place moves mounts copy
  is_copy part copy m n = let from = of_copy part copy n in inr (part, from.0, m, from.1, from.2)

  moved_or_old : (b : Bool) (mount : Mount ℕ) → Among mount (movers b) → IsOldOrCopy world new place moves mounts mount
  moved_or_old true mount m = ⊎_elim (λ l. inl (mount, l, refl)) (is_copy _ mount (inl refl))
      (among-folded_mounts _ _ mount m)
  moved_or_old false mount m = inl (mount, m, refl)

  added_copies : (b : Bool) (mount : Mount ℕ) → Among mount (added_mounts b (copies destination))
      → IsOldOrCopy world new place moves mounts mount
  added_copies true mount m = absurd m
  added_copies false mount m = is_copy _ mount (inl refl) m

  pub old_or_copies : (mount : Mount ℕ) → Among mount after.mounts → IsOldOrCopy world new place moves mounts mount
  old_or_copies mount m = ⊎_elim (λ front.
      ⊎_elim (λ pushed.
      let from = among-from_map push _ mount pushed in
      let same : mount.propagation ≡ from.0.propagation =
      ap (λ (x : Mount ℕ). x.propagation) from.2 ∙ push_type from.0 in
      ⊎_elim (λ l. inl (l.0, l.1, same ∙ l.2)) (λ l. inr (l.0, l.1, l.2, l.3, same ∙ l.4))
      (moved_or_old moves from.0 from.1)) (added_copies moves mount) (among-append old added mount front)) (λ later.
      let from = among-from_flat_map copies _ mount later in
      is_copy from.0 mount (inr from.1) from.2) (among-append _ rest mount m)

-- Where nothing moves
module _ (world : World ℕ) (new : Copies ℕ) (place : Location ℕ) (mounts : List (Mount ℕ)) where
  pub members_stay : MembersStay world new place false mounts
  members_stay group has =
      let later = (attached_by nat_eq world new place false mounts).mounts in
      let member = any_among (is_member_of nat_eq group) world.mounts has in
      let pushed =
      moved_onto_copy nat_eq world new (graft_of nat_eq world new place false mounts) (parts_of nat_eq world place)
      member.0 in
      any_from_among (is_member_of nat_eq group) later pushed
      (pushed_among world new place false mounts member.0 member.1) (shared_member group pushed
      (push_type world new place false mounts member.0 ∙ member_shared group member.0 member.2))

  pub copies_there : HasCopies world new place false mounts
  copies_there part origin m n = ⊎_elim (λ same. subst
      (λ x. (copy : Mount ℕ) × Among copy (attached_by nat_eq world new place false mounts).mounts
      × (copy.propagation ≡ kind_at world new place false mounts x origin)) (sym same) (at_place))
      (λ later. copied_there world new place false mounts part origin later n) m
    where
      at_place : (copy : Mount ℕ) × Among copy (attached_by nat_eq world new place false mounts).mounts
          × (copy.propagation ≡ kind_at world new place false mounts (mount_at nat_eq world place) origin)
      at_place =
          let one = made world new place false mounts (mount_at nat_eq world place)
          (twig world new place false mounts origin) in
          let front = old world new place false mounts in
          let arrived = copies world new place false mounts (mount_at nat_eq world place) in (
            one,
            among-append_left _ _ one (among-append_right front _ one (copy_among world new place false mounts
                (mount_at nat_eq world place) origin n)),
            refl,
          )

-- Where mounts of the world move
module _ (world : World ℕ) (new : Copies ℕ) (place : Location ℕ) (mounts : List (Mount ℕ))
    (own : OneNumberAMount mounts) (one : OneNumberAMount world.mounts)
    (moving : (origin : Mount ℕ) → Among origin mounts → Among origin world.mounts) where
  abbrev arriving : List (Mount ℕ)
  arriving = copies world new place true mounts (mount_at nat_eq world place)

  abbrev kind : Mount ℕ → Propagation ℕ
  kind = kind_at world new place true mounts (mount_at nat_eq world place)

  abbrev move : Mount ℕ → Mount ℕ
  move = push world new place true mounts

  -- what arrives is a mount of the tree
  arrives : (mount : Mount ℕ) → Among mount arriving
      → (origin : Mount ℕ) × Among origin mounts × (mount.propagation ≡ kind origin) × (mount.number ≡ origin.number)
  arrives mount m =
      let from = of_copy world new place true mounts (mount_at nat_eq world place) mount m in
      (from.0, from.1, from.2, from.3 ∙ keeps_number world new place mounts from.0.number)

  kind_shared : (origin : Mount ℕ) (group : ℕ) → origin.propagation ≡ Shared group → kind origin ≡ Shared group
  kind_shared origin group e = grind (arith, common_steps, eq-eqb, number-mount_in, keeps_shared)

  pub members_move : MembersStay world new place true mounts
  members_move group has =
      let later = (attached_by nat_eq world new place true mounts).mounts in
      let member = any_among (is_member_of nat_eq group) world.mounts has in
      let shared : member.0.propagation ≡ Shared group = member_shared group member.0 member.2 in
      let t = there_or_put world.mounts arriving member.0 member.1 in
      let type_is : t.0.propagation ≡ Shared group = ⊎_elim (λ same. ap (λ (x : Mount ℕ). x.propagation) same ∙ shared)
      (λ put.
      let from = arrives t.0 put.0 in
      let same : from.0 ≡ member.0 = sym (found_itself world.mounts one from.0 (moving from.0 from.1))
      ∙ ap (mount_in nat_eq world.mounts) (sym from.3 ∙ put.1) ∙ found_itself world.mounts one member.0 member.1 in
      from.2 ∙ ap kind same ∙ kind_shared member.0 group shared) t.2 in
      any_from_among (is_member_of nat_eq group) later (move t.0) (pushed_among world new place true mounts t.0 t.1)
      (shared_member group (move t.0) (push_type world new place true mounts t.0 ∙ type_is))

  pub copies_arrive : HasCopies world new place true mounts
  copies_arrive part origin m n = ⊎_elim (λ same. subst
      (λ x. (copy : Mount ℕ) × Among copy (attached_by nat_eq world new place true mounts).mounts
      × (copy.propagation ≡ kind_at world new place true mounts x origin)) (sym same) (at_place))
      (λ later. copied_there world new place true mounts part origin later n) m
    where
      at_place : (copy : Mount ℕ) × Among copy (attached_by nat_eq world new place true mounts).mounts
          × (copy.propagation ≡ kind origin)
      at_place =
          let destination = mount_at nat_eq world place in
          let copy = made world new place true mounts destination (twig world new place true mounts origin) in
          let number : copy.number ≡ origin.number = keeps_number world new place mounts _ in
          let t = each_is_put _ _ copy (copy_among world new place true mounts destination origin n)
          (ap (λ k. is_among nat_eq k (numbers_of world.mounts)) number ∙ is_one_of _ origin (moving origin n)) in
          let from = arrives t.0 t.2 in
          let same : from.0 ≡ origin =
          sym (found_itself mounts own from.0 from.1) ∙ ap (mount_in nat_eq mounts) (sym from.3 ∙ t.3 ∙ number)
          ∙ found_itself mounts own origin n in (
            move t.0,
            pushed_among world new place true mounts t.0 t.1,
            push_type world new place true mounts t.0 ∙ from.2 ∙ ap kind same,
          )
