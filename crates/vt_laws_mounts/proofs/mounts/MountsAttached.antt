-- What is attached leaves the mounts that were there.
use Rattle.std.proofs.Common.{arith, ◌≡◌, refl, sym, ap, ◌∙◌, Bool, List, None, [], ℕ, ◌∷◌, nat_eq, append_assoc, eq-eqb, find, flat_map, inl, inr, map, subst, ◌++◌, false, true, length, ◌⊎◌, if◌then◌else◌}
use Rattle.vt_spec.proofs.Common.{Among, Copies, Fresh, Graft, Location, Mount, World, added_mounts, among-from_map, among-map, attached_by, common_steps, copies_at, copies_from, copy_number, folded, graft_of, is_among, list_any, map-append, mount_at, mount_in, mount_numbered, moved_tree, nat_eq_false_turned, no_mount, none_among, number-mount_in, or_parts, parts_of, pushed_onto, moved_onto_copy, rest_of, stands_at, tree_among, with_mount, with_moved_mounts}
use Rattle.vt_laws_mounts.specs.Mounts.Attaching.{KeepsAllButMountPoint, AttachKeepsMounts, AttachLeavesMounts, KeepsWhatItShows, MoveKeepsMounts, MoveLeavesMounts, NewMountsFollow, is_mount, numbers_of, stands_at_a_receiver, MovedMountsShow}
use Rattle.vt_laws_mounts.proofs.mounts.MountsReplaced.{found-append, found-with_mount_other, numbers-with_mount, found_itself, related-with_mount}
use Rattle.vt_laws_mounts.proofs.mounts.MountsFound.{found-map, numbers-map}

-- a test that no element passes finds none
none_found : {A : Type 0} (test : A → Bool) (xs : List A) → list_any test xs ≡ false → find test xs ≡ None
none_found test [] h = refl
none_found test (x ∷ xs) h =
    let apart_from : (test x ≡ false) × (list_any test xs ≡ false) = or_parts _ _ h in
    cc (apart_from.0, none_found test xs apart_from.1)

module _ (world : World ℕ) (new : Copies ℕ) (graft : Graft ℕ) (parts : List (Mount ℕ)) where
  -- a receiver moves a mount up, or none does
  pub push_keeps : (mount : Mount ℕ) → KeepsAllButMountPoint mount (moved_onto_copy nat_eq world new graft parts mount)
  push_keeps mount = grind (arith, common_steps)

  abbrev pub is_pushed_by : Mount ℕ → Mount ℕ → Bool
  is_pushed_by mount receiver = stands_at nat_eq
      (record { mount = receiver.number; node = graft.destination.node }) mount

  -- what stands at no receiver's place is left
  pub none_pushes : (mount : Mount ℕ) → list_any (is_pushed_by mount) (rest_of parts) ≡ false
      → moved_onto_copy nat_eq world new graft parts mount ≡ mount
  none_pushes mount h = ap (pushed_onto nat_eq world new graft parts mount)
      (none_found (is_pushed_by mount) (rest_of parts) h)

  stands_nowhere : (number : ℕ) (receivers : List (Mount ℕ))
      → list_any (is_pushed_by (no_mount number)) receivers ≡ false
  stands_nowhere number [] = refl
  stands_nowhere number (receiver ∷ receivers) = stands_nowhere number receivers

  pub none_pushed : (number : ℕ) → moved_onto_copy nat_eq world new graft parts (no_mount number) ≡ no_mount number
  none_pushed number = none_pushes (no_mount number) (stands_nowhere number (rest_of parts))

-- mounts that are replaced one after the other
pub numbers-folded : (mounts copies : List (Mount ℕ))
    → numbers_of (folded (with_mount nat_eq) mounts copies) ≡ numbers_of mounts
numbers-folded mounts [] = refl
numbers-folded mounts (copy ∷ copies) =
    numbers-folded (with_mount nat_eq mounts copy) copies ∙ numbers-with_mount copy mounts

pub found-folded_other : (mounts copies : List (Mount ℕ)) (number : ℕ)
    → ((copy : Mount ℕ) → Among copy copies → nat_eq copy.number number ≡ false)
    → mount_in nat_eq (folded (with_mount nat_eq) mounts copies) number ≡ mount_in nat_eq mounts number
found-folded_other mounts [] number h = refl
found-folded_other mounts (copy ∷ copies) number h =
    found-folded_other (with_mount nat_eq mounts copy) copies number (λ c m. h c (inr m))
    ∙ found-with_mount_other copy mounts number (h copy (inl refl))

module _ (world : World ℕ) (new : Copies ℕ) (place : Location ℕ) (moves : Bool) (mounts : List (Mount ℕ)) where
  abbrev pub graft : Graft ℕ
  graft = graft_of nat_eq world new place moves mounts

  abbrev pub parts : List (Mount ℕ)
  parts = parts_of nat_eq world place

  abbrev pub push : Mount ℕ → Mount ℕ
  push = moved_onto_copy nat_eq world new graft parts

  -- what comes to the destination
  abbrev pub arriving : List (Mount ℕ)
  arriving = copies_at nat_eq world new graft parts (mount_at nat_eq world place)

  -- the mounts that were there, where some of them moved
  abbrev pub moved_ones : List (Mount ℕ)
  moved_ones = with_moved_mounts nat_eq moves world.mounts arriving

  abbrev pub others : List (Mount ℕ)
  others = added_mounts moves arriving ++ flat_map (copies_at nat_eq world new graft parts) (rest_of parts)

  pub in_front : (attached_by nat_eq world new place moves mounts).mounts ≡ map push moved_ones ++ others
  in_front = append_assoc (map push moved_ones) (added_mounts moves arriving)
      (flat_map (copies_at nat_eq world new graft parts) (rest_of parts))

  push_number : (mount : Mount ℕ) → (push mount).number ≡ mount.number
  push_number mount = (push_keeps world new graft parts mount).number

  pub numbers_moved : numbers_of moved_ones ≡ numbers_of world.mounts
  numbers_moved = grind (arith, common_steps, numbers-folded)

  numbers_pushed : numbers_of (map push moved_ones) ≡ numbers_of world.mounts
  numbers_pushed = numbers-map push push_number _ ∙ numbers_moved

  pub numbers_attached : numbers_of (attached_by nat_eq world new place moves mounts).mounts
      ≡ numbers_of world.mounts ++ numbers_of others
  numbers_attached =
      cc (in_front, map-append (λ (mount : Mount ℕ). mount.number) (map push moved_ones) others, numbers_pushed)

  -- a mount that was there is found, moved up where it stood at a receiver
  pub found_attached : (number : ℕ) → is_mount world number ≡ true
      → mount_numbered nat_eq (attached_by nat_eq world new place moves mounts) number
      ≡ push (mount_in nat_eq moved_ones number)
  found_attached number there = ap (λ ms. mount_in nat_eq ms number) in_front
      ∙ found-append _ others number (ap (is_among nat_eq number) numbers_pushed ∙ there)
      ∙ found-map push push_number _ number (none_pushed world new graft parts number)

  pub push_leaves : (mount : Mount ℕ) → stands_at_a_receiver world place mount ≡ false → push mount ≡ mount
  push_leaves mount h = none_pushes world new graft parts mount h

-- the numbers of what is new, out of a supply
abbrev pub supplied : World ℕ → Fresh ℕ → Location ℕ → List (Mount ℕ) → Copies ℕ
supplied world fresh place mounts = copies_from nat_eq fresh (parts_of nat_eq world place) mounts

pub new_mounts_follow : NewMountsFollow
new_mounts_follow world fresh place moves mounts =
    let new = supplied world fresh place mounts in
    (numbers_of (others world new place moves mounts), numbers_attached world new place moves mounts)

pub attach_keeps_mounts : AttachKeepsMounts
attach_keeps_mounts world fresh place mounts number there =
    let new = supplied world fresh place mounts in
    subst (KeepsAllButMountPoint (mount_numbered nat_eq world number))
    (sym (found_attached world new place false mounts number there))
    (push_keeps world new (graft_of nat_eq world new place false mounts) (parts_of nat_eq world place)
    (mount_numbered nat_eq world number))

pub attach_leaves_mounts : AttachLeavesMounts
attach_leaves_mounts world fresh place mounts number there h =
    let new = supplied world fresh place mounts in
    found_attached world new place false mounts number there ∙ push_leaves world new place false mounts _ h

-- What moves

module _ (world : World ℕ) (new : Copies ℕ) (place : Location ℕ) (mounts : List (Mount ℕ)) where
  abbrev pub move : Graft ℕ
  move = graft_of nat_eq world new place true mounts

  -- at the destination a mount that moves keeps its number
  pub keeps_number : (origin : ℕ) → copy_number nat_eq new move (mount_at nat_eq world place).number origin ≡ origin
  keeps_number origin = ap (λ b. if b then origin else new.copy (mount_at nat_eq world place).number origin)
      (eq-eqb (mount_at nat_eq world place).number place.mount (number-mount_in _ _))

  -- each mount that arrives is one that moves, with all that it shows
  pub arrives : (copy : Mount ℕ) → Among copy (arriving world new place true mounts)
      → (origin : Mount ℕ) × Among origin mounts × KeepsWhatItShows origin copy
  arrives copy m = grind (arith, common_steps, among-from_map, keeps_number)

  pub stays_put : (number : ℕ) → is_among nat_eq number (numbers_of mounts) ≡ false
      → mount_in nat_eq (moved_ones world new place true mounts) number ≡ mount_numbered nat_eq world number
  stays_put number other = found-folded_other _ _ number (λ copy m.
      let from = arrives copy m in
      nat_eq_false_turned number _ (ap (nat_eq number) from.2.number ∙ none_among _ _ other _
      (among-map _ mounts from.0 from.1)))

pub move_keeps_mounts : MoveKeepsMounts
move_keeps_mounts world fresh place mounts number there other =
    let new = supplied world fresh place mounts in
    subst (KeepsAllButMountPoint (mount_numbered nat_eq world number))
    (sym (found_attached world new place true mounts number there
    ∙ ap (push world new place true mounts) (stays_put world new place mounts number other)))
    (push_keeps world new (graft_of nat_eq world new place true mounts) (parts_of nat_eq world place)
    (mount_numbered nat_eq world number))

pub move_leaves_mounts : MoveLeavesMounts
move_leaves_mounts world fresh place mounts number there other h =
    let new = supplied world fresh place mounts in
    found_attached world new place true mounts number there ∙ ap (push world new place true mounts)
    (stays_put world new place mounts number other) ∙ push_leaves world new place true mounts _ h

-- one that moves shows the same
shows_itself : (mount : Mount ℕ) → KeepsWhatItShows mount mount
shows_itself mount = record { number = refl; filesystem = refl; root = refl; flags = refl }

shows_on : (a b c : Mount ℕ) → KeepsWhatItShows a b → KeepsWhatItShows b c → KeepsWhatItShows a c
shows_on a b c r s = grind (arith, common_steps)

shows_back : (a b : Mount ℕ) → KeepsWhatItShows a b → KeepsWhatItShows b a
shows_back a b r =
    record { number = sym r.number; filesystem = sym r.filesystem; root = sym r.root; flags = sym r.flags }

shown_by_all : (before mounts copies : List (Mount ℕ))
    → ((number : ℕ) → KeepsWhatItShows (mount_in nat_eq before number) (mount_in nat_eq mounts number))
    → ((copy : Mount ℕ) → Among copy copies → KeepsWhatItShows (mount_in nat_eq before copy.number) copy) → (number : ℕ)
    → KeepsWhatItShows (mount_in nat_eq before number)
    (mount_in nat_eq (folded (with_mount nat_eq) mounts copies) number)
shown_by_all before mounts [] so each number = so number
shown_by_all before mounts (copy ∷ copies) so each number = shown_by_all before (with_mount nat_eq mounts copy) copies
    (λ n. shows_on (mount_in nat_eq before n) (mount_in nat_eq mounts n)
    (mount_in nat_eq (with_mount nat_eq mounts copy) n) (so n)
    (related-with_mount KeepsWhatItShows shows_itself mounts copy
    (shows_on (mount_in nat_eq mounts copy.number) (mount_in nat_eq before copy.number) copy
    (shows_back (mount_in nat_eq before copy.number) (mount_in nat_eq mounts copy.number) (so copy.number))
    (each copy (inl refl))) n)) (λ c m. each c (inr m)) number

pub moved_mounts_show : MovedMountsShow
moved_mounts_show world fresh source place number one there =
    let mounts = moved_tree nat_eq world source.mount in
    let new = supplied world fresh place mounts in
    let moved : KeepsWhatItShows (mount_numbered nat_eq world number)
    (mount_in nat_eq (moved_ones world new place true mounts) number) =
    shown_by_all world.mounts world.mounts (arriving world new place true mounts)
    (λ n. shows_itself (mount_in nat_eq world.mounts n)) (λ copy m.
    let from = arrives world new place mounts copy m in
    subst (λ origin. KeepsWhatItShows origin copy)
    (sym (itself from.0 (tree_among (length world.mounts) world.mounts (mount_at nat_eq world source) from.0 from.1))
    ∙ ap (mount_in nat_eq world.mounts) (sym from.2.number)) from.2) number in
    let pushed = push_keeps world new (graft_of nat_eq world new place true mounts) (parts_of nat_eq world place)
    (mount_in nat_eq (moved_ones world new place true mounts) number) in
    subst (KeepsWhatItShows (mount_numbered nat_eq world number))
    (sym (found_attached world new place true mounts number there))
    (shows_on (mount_numbered nat_eq world number) _ _ moved
    (record { number = pushed.number; filesystem = pushed.filesystem; root = pushed.root; flags = pushed.flags }))
  where
    itself : (origin : Mount ℕ) → (origin ≡ mount_at nat_eq world source) ⊎ Among origin world.mounts
        → mount_in nat_eq world.mounts origin.number ≡ origin
    itself origin (inl e) = cc (number-mount_in world.mounts source.mount)
    itself origin (inr m) = found_itself world.mounts one origin m
