-- The copy of a mount at a part, as it is found after a tree was attached.
use Rattle.std.proofs.Common.{arith, ◌≡◌, refl, sym, ap, subst, ◌∙◌, true, false, nat_eq, ℕ, Bool, List, Some, eq-eqb, eqb-true, flat_map, map, ⊎_elim, ◌&&◌, ◌++◌, ◌∷◌, if◌then◌else◌}
use Rattle.vt_spec.proofs.Common.{Among, Copies, Graft, Location, Mount, Twig, World, among-append_left, among-append_right, among-flat_map, among-from_filter, among-map, attached_by, common_steps, copies_at, copy_at, graft_of, group_of, is_among, list_any, mount_at, mount_in, mount_numbered, nat_eq_false_turned, none_from_among, number-mount_in, pair-map, parts_of, moved_onto_copy, receivers_of, rest_of, takes_part, twig_of}
use Rattle.vt_laws_mounts.specs.Mounts.Attaching.{KeepsAllButMountPoint, OneNumberAMount, numbers_of}
use Rattle.vt_laws_mounts.specs.Mounts.Copies.{ServeAsCopies}
use Rattle.vt_laws_mounts.proofs.mounts.MountsAttached.{arriving, found_attached, is_pushed_by, keeps_number, moved_ones, none_pushes, push_keeps}
use Rattle.vt_laws_mounts.proofs.mounts.MountsNumbered.{copies_keep_numbers, is_one_of, same_number, same_origin, taker_elsewhere}
use Rattle.vt_laws_mounts.proofs.mounts.MountsReplaced.{found_itself}
use Rattle.vt_laws_mounts.proofs.moves.MovingLeaves.{found_folded}

-- a mount that keeps all stays the same
same_mount : (mount : Mount ℕ) → KeepsAllButMountPoint mount mount
same_mount mount =
    record { number = refl; namespace = refl; filesystem = refl; root = refl; flags = refl; propagation = refl }

module _ (world : World ℕ) (new : Copies ℕ) (place : Location ℕ) (moves : Bool) (mounts : List (Mount ℕ)) where
  abbrev pub tree : Graft ℕ
  tree = graft_of nat_eq world new place moves mounts

  abbrev pub parts : List (Mount ℕ)
  parts = parts_of nat_eq world place

  abbrev pub twig : Mount ℕ → Twig ℕ
  twig = twig_of new (group_of (mount_at nat_eq world place).propagation)

  -- the copy of a mount at a part
  abbrev pub made : Mount ℕ → Mount ℕ → Mount ℕ
  made part origin = copy_at nat_eq world new tree parts part (twig origin)

  abbrev pub copies : Mount ℕ → List (Mount ℕ)
  copies = copies_at nat_eq world new tree parts

  abbrev pub push : Mount ℕ → Mount ℕ
  push = moved_onto_copy nat_eq world new tree parts

  abbrev pub stays : Mount ℕ → Bool
  stays part = moves && nat_eq part.number place.mount

  abbrev pub number : Mount ℕ → Mount ℕ → ℕ
  number part origin = if stays part then origin.number else new.copy part.number origin.number

  -- a mount that moved goes up where it stood at a receiver
  abbrev pub arrived : Mount ℕ → Mount ℕ → Mount ℕ
  arrived part origin = if stays part then push (made part origin) else made part origin

  copy_among : (part origin : Mount ℕ) → Among origin mounts → Among (made part origin) (copies part)
  copy_among part origin m = among-map _ _ _ (among-map twig mounts origin m)

  -- a receiver that takes part is elsewhere
  pub not_there : (part : Mount ℕ) → Among part (rest_of parts) → nat_eq part.number place.mount ≡ false
  not_there part m = nat_eq_false_turned place.mount part.number (taker_elsewhere world place part
      (among-from_filter (takes_part nat_eq world place) (receivers_of nat_eq world (mount_at nat_eq world place)) part
      m).1)

  pub destination_there : nat_eq (mount_at nat_eq world place).number place.mount ≡ true
  destination_there = eq-eqb (mount_at nat_eq world place).number place.mount (number-mount_in _ _)

  pub arrived_keeps : (part origin : Mount ℕ) → KeepsAllButMountPoint (made part origin) (arrived part origin)
  arrived_keeps part origin = grind (arith, common_steps, push_keeps, same_mount)

  -- where the top of the tree stands
  pub first_location : (part first : Mount ℕ) (rest : List (Mount ℕ)) → mounts ≡ first ∷ rest
      → (made part first).mount_point ≡ Some (record { mount = part.number; node = place.node })
  first_location part first rest e = cc (eq-eqb first.number first.number refl)

  pub other_place : (part first origin below : Mount ℕ) (rest : List (Mount ℕ)) (at : Location ℕ)
      → mounts ≡ first ∷ rest → nat_eq origin.number first.number ≡ false → origin.mount_point ≡ Some at
      → at.mount ≡ below.number
      → (made part origin).mount_point ≡ Some (record { mount = number part below; node = at.node })
  other_place part first origin below rest at e differ stood on = grind (arith, common_steps)

  -- what stands at no receiver's place stays where it is
  pub not_pushed : (part origin : Mount ℕ)
      → (stays part && list_any (is_pushed_by world new tree parts (made part origin)) (rest_of parts)) ≡ false
      → arrived part origin ≡ made part origin
  not_pushed part origin h = by _ h
    where
      by : (b : Bool) → (b && list_any (is_pushed_by world new tree parts (made part origin)) (rest_of parts)) ≡ false
          → (if b then push (made part origin) else made part origin) ≡ made part origin
      by true h = none_pushes world new tree parts _ h
      by false h = refl

  pub first_not_pushed : (part first : Mount ℕ) (rest : List (Mount ℕ)) → mounts ≡ first ∷ rest
      → arrived part first ≡ made part first
  first_not_pushed part first rest e = not_pushed part first (by _ refl)
    where
      none : nat_eq part.number place.mount ≡ true
          → list_any (is_pushed_by world new tree parts (made part first)) (rest_of parts) ≡ false
      none there = none_from_among (is_pushed_by world new tree parts (made part first)) (rest_of parts) (λ receiver m.
          cc (first_location part first rest e, eqb-true part.number place.mount there, not_there receiver m))

      pushed : Bool
      pushed = list_any (is_pushed_by world new tree parts (made part first)) (rest_of parts)

      two : (m : Bool) → (m && true && false) ≡ false
      two true = refl
      two false = refl

      one : (m b : Bool) → (m && false && b) ≡ false
      one true b = refl
      one false b = refl

      by : (b : Bool) → nat_eq part.number place.mount ≡ b → (moves && nat_eq part.number place.mount
          && list_any (is_pushed_by world new tree parts (made part first)) (rest_of parts)) ≡ false
      by b there = grind (arith, common_steps, is_pushed_by, none, two, one)

-- Where nothing moves
module _ (world : World ℕ) (new : Copies ℕ) (place : Location ℕ) (mounts : List (Mount ℕ))
    (one_after : OneNumberAMount (attached_by nat_eq world new place false mounts).mounts) where
  abbrev later : List (Mount ℕ)
  later = (attached_by nat_eq world new place false mounts).mounts

  abbrev front : List (Mount ℕ)
  front = map (push world new place false mounts) world.mounts

  abbrev there : List (Mount ℕ)
  there = copies world new place false mounts (mount_at nat_eq world place)

  abbrev elsewhere : List (Mount ℕ)
  elsewhere = flat_map (copies world new place false mounts) (rest_of (parts world new place false mounts))

  copied_there : (part origin : Mount ℕ) → Among part (parts world new place false mounts) → Among origin mounts
      → Among (made world new place false mounts part origin) later
  copied_there part origin m n = ⊎_elim (λ same.
      subst (λ x. Among (made world new place false mounts x origin) later) (sym same)
      (among-append_left (front ++ there) elsewhere
      (made world new place false mounts (mount_at nat_eq world place) origin)
      (among-append_right front there (made world new place false mounts (mount_at nat_eq world place) origin)
      (copy_among world new place false mounts (mount_at nat_eq world place) origin n)))) (λ rest.
      among-append_right (front ++ there) elsewhere (made world new place false mounts part origin)
      (among-flat_map (copies world new place false mounts) (rest_of (parts world new place false mounts)) part
      (made world new place false mounts part origin) rest (copy_among world new place false mounts part origin n))) m

  found_copied : (part origin : Mount ℕ) → Among part (parts world new place false mounts) → Among origin mounts
      → mount_numbered nat_eq (attached_by nat_eq world new place false mounts)
      (number world new place false mounts part origin) ≡ arrived world new place false mounts part origin
  found_copied part origin m n = found_itself later one_after _ (copied_there part origin m n)

-- Where mounts of the world move
module _ (world : World ℕ) (new : Copies ℕ) (place : Location ℕ) (mounts : List (Mount ℕ))
    (one_after : OneNumberAMount (attached_by nat_eq world new place true mounts).mounts) (own : OneNumberAMount mounts)
    (moving : (origin : Mount ℕ) → Among origin mounts → Among origin world.mounts) where
  abbrev moved : Mount ℕ → Mount ℕ → Mount ℕ
  moved = made world new place true mounts

  abbrev destination : Mount ℕ
  destination = mount_at nat_eq world place

  abbrev at_last : World ℕ
  at_last = attached_by nat_eq world new place true mounts

  abbrev put : Twig ℕ → Mount ℕ
  put = copy_at nat_eq world new (tree world new place true mounts) (parts world new place true mounts) destination

  put_number : (it : Twig ℕ) → (put it).number ≡ it.origin.number
  put_number it = keeps_number world new place mounts _

  put_apart : OneNumberAMount (arriving world new place true mounts)
  put_apart = pair-map same_origin same_number put (tree world new place true mounts).twigs
      (λ a b m n differ. cc (put_number b, put_number a, differ)) (pair-map _ _ _ mounts (λ a b m n differ. differ) own)

  moved_found : (origin : Mount ℕ) → Among origin mounts → mount_numbered nat_eq at_last origin.number
      ≡ push world new place true mounts (moved destination origin)
  moved_found origin m =
      found_attached world new place true mounts origin.number (is_one_of world.mounts origin (moving origin m))
      ∙ ap (push world new place true mounts) (ap (mount_in nat_eq (moved_ones world new place true mounts))
      (sym (put_number (twig world new place true mounts origin)))
      ∙ found_folded world.mounts (arriving world new place true mounts) put_apart (moved destination origin)
      (copy_among world new place true mounts destination origin m)
      (ap (λ k. is_among nat_eq k (numbers_of world.mounts)) (put_number (twig world new place true mounts origin))
      ∙ is_one_of world.mounts origin (moving origin m)))

  found_moved : (part origin : Mount ℕ) → Among part (parts world new place true mounts) → Among origin mounts
      → mount_numbered nat_eq at_last (number world new place true mounts part origin)
      ≡ arrived world new place true mounts part origin
  found_moved part origin m n = ⊎_elim (λ same.
      subst (λ x. mount_numbered nat_eq at_last (number world new place true mounts x origin)
      ≡ arrived world new place true mounts x origin) (sym same)
      (ap (λ b. mount_numbered nat_eq at_last (if b then origin.number else new.copy destination.number origin.number))
      (destination_there world new place true mounts) ∙ moved_found origin n ∙ sym (ap
      (λ b. if b then push world new place true mounts (moved destination origin) else moved destination origin)
      (destination_there world new place true mounts)))) (λ rest.
      let away = not_there world new place true mounts part rest in
      let same : (moved part origin).number ≡ number world new place true mounts part origin = refl in
      ap (mount_numbered nat_eq at_last) (sym same) ∙ found_itself _ one_after _
      (among-append_right _ _ _ (among-flat_map _ _ part _ rest (copy_among world new place true mounts part origin n)))
      ∙ sym (ap (λ b. if b then push world new place true mounts (moved part origin) else moved part origin) away)) m

-- Either way
pub found_copy : (world : World ℕ) (new : Copies ℕ) (place : Location ℕ) (moves : Bool) (mounts : List (Mount ℕ))
    → ServeAsCopies world (parts_of nat_eq world place) mounts new → OneNumberAMount mounts
    → OneNumberAMount world.mounts
    → (moves ≡ true → (origin : Mount ℕ) → Among origin mounts → Among origin world.mounts)
    → (part origin : Mount ℕ) → Among part (parts_of nat_eq world place) → Among origin mounts
    → mount_numbered nat_eq (attached_by nat_eq world new place moves mounts)
    (number world new place moves mounts part origin) ≡ arrived world new place moves mounts part origin
found_copy world new place false mounts serve own one moving part origin m n =
    found_copied world new place mounts (copies_keep_numbers world new place false mounts serve own one) part origin m n
found_copy world new place true mounts serve own one moving part origin m n =
    found_moved world new place mounts (copies_keep_numbers world new place true mounts serve own one) own (moving refl)
    part origin m n
