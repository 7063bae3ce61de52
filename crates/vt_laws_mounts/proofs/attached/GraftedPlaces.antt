-- No two mounts stand at one place after a tree was grafted: the copies stand on their parts and on one another, and
-- what stood at a receiver goes onto the topmost copy there.
use Rattle.std.proofs.Common.{◌≡◌, refl, sym, ap, subst, ◌∙◌, true, false, nat_eq, ℕ, Bool, List, None, Option, Some, [], arith, eq-eqb, eqb-true, flat_map, is_some, map, true≢false, ⊎_elim, ◌&&◌, ◌∷◌, ◌⊎◌}
use Rattle.vt_spec.proofs.Common.{is_among, Among, Copies, Location, Mount, Twig, World, among-from_flat_map, among-from_map, any_pair, child_at, common_steps, copy_at, false_from_ne_true, graft_of, group_of, is_among_numbers, mount_at, nat_eq_false_turned, nat_eq_itself, number-mount_in, numbers_in_use, pair-map, parts_of, rest_of, root_of, same_Some, same_location, same_option, share_a_mount_point, stands_at, top_of_copies, twig_of}
use Rattle.vt_laws_mounts.specs.Mounts.Attaching.{is_mount}
use Rattle.vt_laws_mounts.specs.Mounts.Copies.{IsOneOf}
use Rattle.vt_laws_mounts.specs.Mounts.MountPoints.{OneMountAMountPoint}
use Rattle.vt_laws_mounts.proofs.attached.Attaching.{on_mounts}
use Rattle.vt_laws_mounts.proofs.attached.Covers.{topmost_free}
use Rattle.vt_laws_mounts.proofs.mounts.MountsFound.{found_there, unfound}
use Rattle.vt_laws_mounts.proofs.mounts.MountsNumbered.{is_one_of, number_in_use, pair-append, pair-flat_map, same_number}
use Rattle.vt_laws_mounts.proofs.mounts.MountsPlaces.{place_of_both, one_place_of_two, one_stander, stands_at_its_place}
use Rattle.vt_laws_mounts.proofs.mounts.MountsReplaced.{found_itself, one_number_by_numbers}
use Rattle.vt_laws_mounts.proofs.attached.Grafted.{CopyPlace, Grafts, PushCase, after, before, before_pushes, copied, copies, copies_after, copy, copy_place, grafted_stand, mounts_after, one_after, place_at, place_upon, push, push_case, top_at, top_copy}
use Rattle.vt_laws_mounts.proofs.attached.Grafted.CopyPlace.{at_part, on_copy}
use Rattle.vt_laws_mounts.proofs.attached.Grafted.PushCase.{goes, stays}
use Rattle.vt_laws_mounts.proofs.mounts.MountsAttached.{numbers_moved}

-- two mounts stand at one place
abbrev pub share : Mount ℕ → Mount ℕ → Bool
share a b = share_a_mount_point nat_eq a b

abbrev pub beside : Option (Location ℕ) → Option (Location ℕ) → Bool
beside other place = is_some place && same_option (same_location nat_eq) place other

-- two places on two mounts
pub differ_by_mount : (a b : Mount ℕ) (p q : Location ℕ) → a.mount_point ≡ Some p → b.mount_point ≡ Some q
    → nat_eq p.mount q.mount ≡ false → share a b ≡ false
differ_by_mount a b p q e f differ = cc

-- of the mounts of a list no two have one place
pub two_of : (mounts : List (Mount ℕ)) → OneMountAMountPoint mounts → (a b : Mount ℕ) → Among a mounts → Among b mounts
    → nat_eq a.number b.number ≡ false → share a b ≡ false
two_of mounts places a b m n differ = false_from_ne_true _ (λ h.
    let t = place_of_both a b h in
    let same : a ≡ b = one_stander mounts places a b m n t.0 t.1 t.2 in
    true≢false (sym (eq-eqb a.number b.number (ap (λ (x : Mount ℕ). x.number) same)) ∙ differ))

-- The mounts of a tree stand at places of their own but for its top, and so do the other mounts: at no part but at
-- receivers
pub record Spreads (world : World ℕ) (new : Copies ℕ) (place : Location ℕ) (moves : Bool)
    (mounts parts : List (Mount ℕ)) (top : Mount ℕ) : Type 0 where
  pub tree : (a b : Mount ℕ) → Among a mounts → Among b mounts → nat_eq a.number top.number ≡ false
      → nat_eq b.number top.number ≡ false → nat_eq a.number b.number ≡ false → share a b ≡ false
  pub others : OneMountAMountPoint (before_pushes world new place moves mounts).mounts
  pub elsewhere : (part : Mount ℕ) → Among part parts → ((mount : Mount ℕ)
      → Among mount (before_pushes world new place moves mounts).mounts
      → stands_at nat_eq (record { mount = part.number; node = place.node }) mount ≡ false)
      ⊎ Among part (rest_of (parts_of nat_eq world place))

module _ {world : World ℕ} {new : Copies ℕ} {place : Location ℕ} {moves : Bool} {mounts parts : List (Mount ℕ)}
    (grafts : Grafts world new place moves mounts parts)
    (spreads : Spreads world new place moves mounts parts grafts.top) where
  abbrev all_parts : List (Mount ℕ)
  all_parts = parts_of nat_eq world place

  abbrev twig : Mount ℕ → Twig ℕ
  twig = twig_of new (group_of (mount_at nat_eq world place).propagation)

  abbrev made : Mount ℕ → Twig ℕ → Mount ℕ
  made = copy_at nat_eq world new (graft_of nat_eq world new place moves mounts) all_parts

  abbrev old : List (Mount ℕ)
  old = (before grafts).mounts

  -- what has a mount point stands on a mount of the world
  old_on_mounts : (mount : Mount ℕ) → Among mount old → (on : Location ℕ) → mount.mount_point ≡ Some on
      → is_mount world on.mount ≡ true
  old_on_mounts mount m on e = ap (is_among nat_eq on.mount) (sym (numbers_moved world new place moves mounts))
      ∙ on_mounts (before grafts) (one_number_by_numbers _ _ (numbers_moved world new place moves mounts) grafts.one)
      grafts.nowhere grafts.stand mount m on e

  part_there : (part : Mount ℕ) → Among part parts → is_mount world part.number ≡ true
  part_there part m = is_one_of world.mounts part (grafts.parts_there part m)

  is_part : (part : Mount ℕ) → Among part parts → IsOneOf all_parts part.number
  is_part part m = is_one_of all_parts part (grafts.are_parts part m)

  -- the number of a copy grafts is that of no mount that was there
  copy_is_new : (part origin : Mount ℕ) → Among part parts → Among origin mounts → (number : ℕ)
      → is_mount world number ≡ true → nat_eq number (new.copy part.number origin.number) ≡ false
  copy_is_new part origin m n number is = false_from_ne_true _ (λ same.
      let used : Among number (numbers_in_use world) =
      rw number-mount_in at (number_in_use world _ (found_there world.mounts number is)) in
      cc (
        is_among_numbers (numbers_in_use world) number used,
        eqb-true number (new.copy part.number origin.number) same,
        grafts.serve.unused part.number origin.number (is_part part m) (is_one_of mounts origin n),
      ))

  -- copies grafts at two parts have two numbers
  two_parts : (p q a b : Mount ℕ) → Among p parts → Among q parts → Among a mounts → Among b mounts
      → nat_eq p.number q.number ≡ false → nat_eq (new.copy p.number a.number) (new.copy q.number b.number) ≡ false
  two_parts p q a b m n k l differ = false_from_ne_true _ (λ same.
      let at : (p.number ≡ q.number) × (a.number ≡ b.number) = grafts.serve.apart p.number a.number q.number b.number
      (is_part p m) (is_one_of mounts a k) (is_part q n) (is_one_of mounts b l)
      (eqb-true (new.copy p.number a.number) (new.copy q.number b.number) same) in
      cc (eq-eqb p.number q.number at.0))

  -- No two copies grafts stand at one place: at two parts,
  apart_at_two : (p q x y : Mount ℕ) → Among p parts → Among q parts → same_number p q ≡ false
      → Among x (copies grafts p) → Among y (copies grafts q) → share x y ≡ false
  apart_at_two p q x y m n differ k l =
      let s = copied grafts p x k in let t = copied grafts q y l in grind (
        arith,
        common_steps,
        copy_place grafts p s.0 m s.1,
        copy_place grafts q t.0 n t.1,
        differ_by_mount,
        copy_is_new,
        part_there,
        nat_eq_false_turned,
        two_parts,
      )

  -- and at one part
  two_at_one : (part : Mount ℕ) → Among part parts → (a b : Mount ℕ) → Among a mounts → Among b mounts
      → nat_eq a.number b.number ≡ false → share (copy grafts part a) (copy grafts part b) ≡ false
  two_at_one part m a b i j differ = by (copy_place grafts part a m i) (copy_place grafts part b m j)
    where
      off_copy : (parent : Mount ℕ) → Among parent mounts → (number : ℕ) → parent.number ≡ number
          → nat_eq part.number (new.copy part.number number) ≡ false
      off_copy parent there number same = rw same at (copy_is_new part parent m there part.number (part_there part m))

      by : CopyPlace grafts part a → CopyPlace grafts part b → share (copy grafts part a) (copy grafts part b) ≡ false
      by (at_part e f) (at_part g h) =
          cc (eqb-true a.number grafts.top.number e, eqb-true b.number grafts.top.number g, nat_eq_itself b.number)
      by (at_part e f) (on_copy on parent g h there same d) = differ_by_mount (copy grafts part a) (copy grafts part b)
          (place_at grafts part) (place_upon grafts part on) f d (off_copy parent there on.mount same)
      by (on_copy on parent e f there same c) (at_part g h) = differ_by_mount (copy grafts part a) (copy grafts part b)
          (place_upon grafts part on) (place_at grafts part) c h (nat_eq_false_turned _ _
          (off_copy parent there on.mount same))
      by (on_copy on parent e f there same c) (on_copy at other g h there_too same_too d) =
          false_from_ne_true _ (λ both.
          let t = place_of_both (copy grafts part a) (copy grafts part b) both in
          let equal : place_upon grafts part on ≡ place_upon grafts part at = same_Some _ _ (cc (c, d, t.1, t.2)) in
          let number : (part.number ≡ part.number) × (parent.number ≡ other.number) =
          grafts.serve.apart part.number parent.number part.number other.number (is_part part m)
          (is_one_of mounts parent there) (is_part part m) (is_one_of mounts other there_too)
          (cc (same, same_too, ap (λ (l : Location ℕ). l.mount) equal)) in
          let mount_is : on.mount ≡ at.mount = cc (same, number.1, same_too) in
          let node_is : on.node ≡ at.node = ap (λ (l : Location ℕ). l.node) equal in
          let place_is : b.mount_point ≡ Some on =
          h ∙ sym (λ i. Some (record { mount = mount_is i; node = node_is i })) in
          cc (one_place_of_two on a b f place_is, spreads.tree a b i j e g differ))

  copies_spread : (part : Mount ℕ) → Among part parts → any_pair share (copies grafts part) ≡ false
  copies_spread part m = pair-map _ share _ _ (λ a b k l differ.
      let x = among-from_map twig mounts a k in
      let y = among-from_map twig mounts b l in
      subst (λ z. share (made part z) (made part b) ≡ false) (sym x.2)
      (subst (λ z. share (copy grafts part x.0) (made part z) ≡ false) (sym y.2) (two_at_one part m x.0 y.0 x.1 y.1
      (subst (λ z. nat_eq x.0.number z.origin.number ≡ false) y.2
      (subst (λ z. nat_eq z.origin.number b.origin.number ≡ false) x.2 differ)))))
      (pair-map _ _ twig mounts (λ a b k l differ. differ) grafts.own)

  all_copies_spread : any_pair share (flat_map (copies grafts) parts) ≡ false
  all_copies_spread = pair-flat_map share (copies grafts) parts grafts.parts_apart copies_spread apart_at_two

  -- No two of the other mounts stand at one place,
  two_old : (a b : Mount ℕ) → Among a old → Among b old → share a b ≡ false
      → share (push grafts a) (push grafts b) ≡ false
  two_old a b m n differ = by (push_case grafts a) (push_case grafts b)
    where
      -- one that stays, and one that goes onto a copy grafts
      mixed : (x y : Mount ℕ) → Among x old → push grafts x ≡ x → (receiver origin : Mount ℕ)
          → Among receiver parts → Among origin mounts → (push grafts y).mount_point ≡ Some (top_at grafts receiver)
          → (top_at grafts receiver).mount ≡ new.copy receiver.number origin.number
          → (share (push grafts x) (push grafts y) ≡ false) × (share (push grafts y) (push grafts x) ≡ false)
      mixed x y k keeps receiver origin r o f same = at x.mount_point refl
        where
          at : (found : Option (Location ℕ)) → x.mount_point ≡ found
              → (share (push grafts x) (push grafts y) ≡ false) × (share (push grafts y) (push grafts x) ≡ false)
          at None e = (
            ap (λ (z : Mount ℕ). share z (push grafts y)) keeps ∙ ap (beside (push grafts y).mount_point) e,
            ap (λ (z : Mount ℕ). share (push grafts y) z) keeps ∙ ap (beside x.mount_point) f
                ∙ ap (same_option (same_location nat_eq) (Some (top_at grafts receiver))) e,
          )
          at (Some on) e =
              let fresh_one = copy_is_new _ origin r o _ (old_on_mounts x k on e) in
              let elsewhere : nat_eq on.mount (top_at grafts receiver).mount ≡ false = ap (nat_eq on.mount) same
              ∙ fresh_one in (
                ap (λ (z : Mount ℕ). share z (push grafts y)) keeps
                    ∙ differ_by_mount x (push grafts y) on (top_at grafts receiver) e f elsewhere,
                ap (λ (z : Mount ℕ). share (push grafts y) z) keeps
                    ∙ differ_by_mount (push grafts y) x (top_at grafts receiver) on f e
                    (nat_eq_false_turned _ _ elsewhere),
              )

      by : PushCase grafts a → PushCase grafts b → share (push grafts a) (push grafts b) ≡ false
      by (stays e f) (stays g h) = cc differ
      by (stays e f) (goes receiver origin r o g h same) = (mixed a b m e _ origin r o h same).0
      by (goes receiver origin r o e f same) (stays g h) = (mixed b a n g _ origin r o f same).1
      by (goes receiver origin r o e f same) (goes other second t u g h same_too) =
          grind (arith, common_steps, eqb-true, true≢false, one_place_of_two, differ_by_mount, two_parts)

  -- nothing stands on the topmost copy grafts,
  free_top : (part : Mount ℕ) → Among part parts → child_at nat_eq (copies grafts part) (top_at grafts part) ≡ None
  free_top part m = by _ refl (top_copy grafts part)
    where
      by : (list : List (Mount ℕ)) → copies grafts part ≡ list → Among (copy grafts part grafts.top) list
          → child_at nat_eq list (top_of_copies nat_eq list place) ≡ None
      by [] e absent = absurd absent
      by (first ∷ rest) e present = topmost_free (first ∷ rest) (after grafts) (one_after grafts) (grafted_stand grafts)
          (λ x n. copies_after grafts part m x (subst (Among x) (sym e) n)) (root_of first)

  -- and none stands where a copy grafts does.
  old_and_copy : (a part x : Mount ℕ) → Among a old → Among part parts → Among x (copies grafts part)
      → share (push grafts a) x ≡ false
  old_and_copy a part x m n k =
      let of = copied grafts part x k in
      subst (λ z. share (push grafts a) z ≡ false) (sym of.2)
      (by of.0 of.1 (copy_place grafts part of.0 n of.1) (push_case grafts a) (subst (λ z. Among z
      (copies grafts part)) of.2 k))
    where
      by : (origin : Mount ℕ) → Among origin mounts → CopyPlace grafts part origin → PushCase grafts a
          → Among (copy grafts part origin) (copies grafts part)
          → share (push grafts a) (copy grafts part origin) ≡ false
      by origin o (at_part e f) (stays g h) in_copies = false_from_ne_true (share (push grafts a)
          (copy grafts part origin)) (λ both.
          let t = place_of_both (push grafts a) (copy grafts part origin) both in
          let stands : a.mount_point ≡ Some (place_at grafts part) = ap (λ (z : Mount ℕ). z.mount_point) (sym g) ∙ t.1
          ∙ ap Some (sym (same_Some (place_at grafts part) t.0 (sym f ∙ t.2))) in
          let stood = stands_at_its_place (place_at grafts part) a stands in
          ⊎_elim (λ nothing. true≢false (sym stood ∙ nothing a m)) (λ receiver. true≢false (sym stood
          ∙ unfound (λ other. stands_at nat_eq (place_at grafts other) a) (rest_of all_parts) h part receiver))
          (spreads.elsewhere part n))
      by origin o (at_part e f) (goes receiver second r u g h same) in_copies =
          differ_by_mount (push grafts a) (copy grafts part origin) (top_at grafts receiver) (place_at grafts part) h f
          (ap (λ c. nat_eq c part.number) same
          ∙ nat_eq_false_turned part.number (new.copy receiver.number second.number)
          (copy_is_new receiver second r u part.number (part_there part n)))
      by origin o (on_copy on parent e f there same c) (stays g h) in_copies = at a.mount_point refl
        where
          at : (found : Option (Location ℕ)) → a.mount_point ≡ found
              → share (push grafts a) (copy grafts part origin) ≡ false
          at None d = ap (λ (z : Mount ℕ). share z (copy grafts part origin)) g
              ∙ ap (beside (copy grafts part origin).mount_point) d
          at (Some stands_on) d = ap (λ (z : Mount ℕ). share z (copy grafts part origin)) g
              ∙ differ_by_mount a (copy grafts part origin) stands_on (place_upon grafts part on) d c
              (subst (λ q. nat_eq stands_on.mount (new.copy part.number q) ≡ false) same
              (copy_is_new part parent n there stands_on.mount (old_on_mounts a m stands_on d)))
      by origin o (on_copy on parent e f there same c) (goes receiver second r u g h same_too) in_copies =
          at (nat_eq receiver.number part.number) refl
        where
          at : (b : Bool) → nat_eq receiver.number part.number ≡ b
              → share (push grafts a) (copy grafts part origin) ≡ false
          at true equal =
              let itself : receiver ≡ part = cc (
                found_itself parts grafts.parts_apart receiver r,
                found_itself parts grafts.parts_apart part n,
                eqb-true receiver.number part.number equal,
              ) in
              false_from_ne_true (share (push grafts a) (copy grafts part origin)) (λ both.
              let t = place_of_both (push grafts a) (copy grafts part origin) both in
              let top_place : (copy grafts part origin).mount_point ≡ Some (top_at grafts part) =
              t.2 ∙ ap Some (sym (same_Some (top_at grafts receiver) t.0 (sym h ∙ t.1)))
              ∙ ap (λ (z : Mount ℕ). Some (top_at grafts z)) itself in
              true≢false (sym (stands_at_its_place (top_at grafts part) (copy grafts part origin) top_place)
              ∙ unfound (stands_at nat_eq (top_at grafts part)) (copies grafts part) (free_top part n)
              (copy grafts part origin) in_copies))
          at false differ = differ_by_mount (push grafts a) (copy grafts part origin) (top_at grafts receiver)
              (place_upon grafts part on) h c (ap (λ q. nat_eq q (new.copy part.number on.mount)) same_too
              ∙ subst (λ q. nat_eq (new.copy receiver.number second.number) (new.copy part.number q) ≡ false) same
              (two_parts receiver part second parent r n u there differ))

  pub grafted_apart : OneMountAMountPoint (after grafts).mounts
  grafted_apart = ap (any_pair share) (mounts_after grafts) ∙ pair-append share (map (push grafts) old) _
      (pair-map share share (push grafts) _ two_old spreads.others) all_copies_spread (λ x y m n.
      let from = among-from_map (push grafts) _ x m in
      let part = among-from_flat_map (copies grafts) parts y n in
      subst (λ z. share z y ≡ false) (sym from.2) (old_and_copy from.0 part.0 y from.1 part.1 part.2))
