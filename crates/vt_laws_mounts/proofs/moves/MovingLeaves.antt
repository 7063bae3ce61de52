-- What moves, before anything is attached for the receivers: each mount stands, at most one at a place.
use Rattle.std.proofs.Common.{arith, ◌≡◌, refl, sym, ap, subst, ◌∙◌, true, false, nat_eq, ℕ, Bool, List, None, Option, Some, [], eq-eqb, eqb-true, is_some, option_map, true≢false, ⊎_elim, ◌∷◌, if◌then◌else◌, unwrap_or}
use Rattle.vt_spec.proofs.Common.{Among, Copies, Graft, Location, Mount, Stands, Twig, World, all_from_among, among-from_map, among-map, among_from_all, among_from_list_all, among_numbers, any_pair, at_root, child_at, common_steps, copy_at, false_from_ne_true, first_of_list, folded, graft_of, group_of, is_among, list_all_from_among, list_any, mount_at, mount_in, mount_numbered, mount_point_on_copy, nat_eq_false_turned, none_among, none_from_among, number-mount_in, on_parent, or_from, or_parts, pair-map, parts_of, same_Some, stands_at, twig_of, with_mount}
use Rattle.vt_laws_mounts.specs.Mounts.Attaching.{OneNumberAMount, is_mount, numbers_of}
use Rattle.vt_laws_mounts.specs.Mounts.Invariants.{NowhereOrAttached}
use Rattle.vt_laws_mounts.specs.Mounts.Standing.{AllStand}
use Rattle.vt_laws_mounts.specs.Mounts.MountPoints.{OneMountAMountPoint}
use Rattle.vt_laws_mounts.proofs.attached.GraftedPlaces.{beside, share, two_of}
use Rattle.vt_laws_mounts.proofs.mounts.MountsPlaces.{place_of_both, stands_at_its_place}
use Rattle.vt_laws_mounts.proofs.attached.Attaching.{Hangs, hanging}
use Rattle.vt_laws_mounts.proofs.attached.Attaching.Hangs.{from_parent, from_top}
use Rattle.vt_laws_mounts.proofs.mounts.MountsAttached.{arriving, found-folded_other, keeps_number, moved_ones, numbers_moved, stays_put}
use Rattle.vt_laws_mounts.proofs.mounts.MountsFound.{found_there, placed_among, unfound}
use Rattle.vt_laws_mounts.proofs.mounts.MountsNumbered.{is_one_of, same_number, same_origin}
use Rattle.vt_laws_mounts.proofs.mounts.MountsReplaced.{found-with_mount_itself, found_itself, numbers-with_mount, one_number_by_numbers}

-- mounts that are replaced by others with numbers of their own are found
pub found_folded : (mounts copies : List (Mount ℕ)) → OneNumberAMount copies → (copy : Mount ℕ) → Among copy copies
    → is_among nat_eq copy.number (numbers_of mounts) ≡ true
    → mount_in nat_eq (folded (with_mount nat_eq) mounts copies) copy.number ≡ copy
found_folded mounts [] own copy m is = absurd m
found_folded mounts (first ∷ copies) own copy m is =
    let parted : (list_any (same_number first) copies ≡ false) × OneNumberAMount copies = or_parts _ _ own in
    ⊎_elim (λ e. subst (λ x. mount_in nat_eq (folded (with_mount nat_eq) mounts (first ∷ copies)) x.number ≡ x) (sym e)
    (found-folded_other _ copies _ (λ other n. nat_eq_false_turned _ _ (none_among _ copies parted.0 other n))
    ∙ found-with_mount_itself first mounts (subst (λ (x : Mount ℕ). is_among nat_eq x.number (numbers_of mounts) ≡ true)
    e is))) (λ later. found_folded (with_mount nat_eq mounts first) copies parted.1 copy later
    (cc (numbers-with_mount first mounts))) m

-- two of a list, told apart by their numbers
pub pair_by : (test : Mount ℕ → Mount ℕ → Bool) (list : List (Mount ℕ)) → OneNumberAMount list
    → ((a b : Mount ℕ) → Among a list → Among b list → same_number a b ≡ false → test a b ≡ false)
    → any_pair test list ≡ false
pair_by test [] own each = refl
pair_by test (first ∷ rest) own each =
    grind (arith, common_steps, test, same_number, or_parts, or_from, none_from_among, none_among, pair_by test rest)

-- a mount of the list has this number
abbrev pub is_moved : List (Mount ℕ) → ℕ → Bool
is_moved mounts number = is_among nat_eq number (numbers_of mounts)

-- The mounts of a list are a whole tree of a world's, and the place is on none of them, in their namespace
pub record MayMove (world : World ℕ) (place : Location ℕ) (mounts : List (Mount ℕ)) : Type 0 where
  pub own : OneNumberAMount mounts
  pub one : OneNumberAMount world.mounts
  pub nowhere : NowhereOrAttached world
  pub all : AllStand world
  pub there : is_mount world place.mount ≡ true
  pub inside : (origin : Mount ℕ) → Among origin mounts → Among origin world.mounts
  pub hangs : (origin : Mount ℕ) → Among origin mounts → Hangs mounts origin.number
  pub top : Mount ℕ
  pub rest : List (Mount ℕ)
  pub is_tree : mounts ≡ top ∷ rest
  pub closed : (x : Mount ℕ) (at : Location ℕ) → Among x world.mounts → x.mount_point ≡ Some at
      → is_moved mounts at.mount ≡ true → is_moved mounts x.number ≡ true
  pub outside : is_moved mounts place.mount ≡ false
  pub in_one : (origin : Mount ℕ) → Among origin mounts → origin.namespace ≡ (mount_at nat_eq world place).namespace
  pub attached : is_some (mount_at nat_eq world place).namespace ≡ true

module _ (world : World ℕ) (new : Copies ℕ) (place : Location ℕ) (mounts : List (Mount ℕ))
    (may : MayMove world place mounts) where
  abbrev tree : Graft ℕ
  tree = graft_of nat_eq world new place true mounts

  abbrev parts : List (Mount ℕ)
  parts = parts_of nat_eq world place

  abbrev destination : Mount ℕ
  destination = mount_at nat_eq world place

  abbrev twig : Mount ℕ → Twig ℕ
  twig = twig_of new (group_of destination.propagation)

  abbrev made : Twig ℕ → Mount ℕ
  made = copy_at nat_eq world new tree parts destination

  -- a mount that moves, at the destination
  abbrev pub arrived : Mount ℕ → Mount ℕ
  arrived origin = made (twig origin)

  -- the world in which it is there
  abbrev pub left : World ℕ
  left = record world { mounts = moved_ones world new place true mounts }

  arrived_number : (twig : Twig ℕ) → (made twig).number ≡ twig.origin.number
  arrived_number it = keeps_number world new place mounts _

  arrive_apart : OneNumberAMount (arriving world new place true mounts)
  arrive_apart = pair-map same_origin same_number made tree.twigs (λ a b m n differ. cc
      (arrived_number b, arrived_number a, differ)) (pair-map _ _ twig mounts (λ a b m n differ. differ) may.own)

  pub same_numbers : numbers_of left.mounts ≡ numbers_of world.mounts
  same_numbers = numbers_moved world new place true mounts

  pub one_left : OneNumberAMount left.mounts
  one_left = one_number_by_numbers _ _ same_numbers may.one

  pub found_arrived : (origin : Mount ℕ) → Among origin mounts
      → mount_numbered nat_eq left origin.number ≡ arrived origin
  found_arrived origin m = ap (mount_in nat_eq left.mounts) (sym (arrived_number (twig origin)))
      ∙ found_folded world.mounts (arriving world new place true mounts) arrive_apart (arrived origin)
      (among-map made tree.twigs (twig origin) (among-map twig mounts origin m))
      (ap (λ k. is_among nat_eq k (numbers_of world.mounts)) (arrived_number (twig origin))
      ∙ is_one_of world.mounts origin (may.inside origin m))

  pub found_stayed : (number : ℕ) → is_moved mounts number ≡ false
      → mount_numbered nat_eq left number ≡ mount_numbered nat_eq world number
  found_stayed number other = stays_put world new place mounts number other

  -- A mount of it did not move, or is one that arrived
  pub data LeftCase (mount : Mount ℕ) : Type 0 where
    stayed : Among mount world.mounts → LeftCase mount
    came : (origin : Mount ℕ) → Among origin mounts → mount ≡ arrived origin → LeftCase mount

  -- a mount that moves, by its number
  mover : (number : ℕ) → is_moved mounts number ≡ true
      → (origin : Mount ℕ) × Among origin mounts × (number ≡ origin.number)
  mover number e = among-from_map _ mounts number (among_numbers _ number e)

  left_case : (mount : Mount ℕ) → Among mount left.mounts → LeftCase mount
  left_case mount m = by _ refl
    where
      itself : mount_numbered nat_eq left mount.number ≡ mount
      itself = found_itself _ one_left mount m

      by : (b : Bool) → is_moved mounts mount.number ≡ b → LeftCase mount
      by true e =
          let origin = mover _ e in
          came origin.0 origin.1 (cc (itself, origin.2, found_arrived origin.0 origin.1))
      by false e = stayed (subst (λ x. Among x world.mounts) (sym (found_stayed _ e) ∙ itself)
          (found_there _ _ (cc (same_numbers, is_one_of left.mounts mount m))))

  pub nowhere_left : NowhereOrAttached left
  nowhere_left = grind (arith, common_steps, list_all_from_among, left_case, among_from_list_all)

  -- it is in the namespace in which it was
  pub namespace_kept : (mount : Mount ℕ) → Among mount world.mounts
      → (mount_numbered nat_eq left mount.number).namespace ≡ mount.namespace
  namespace_kept mount m = grind (arith, common_steps, mover, found_itself, found_arrived, found_stayed)

  -- Where a mount that moved stands: the top at the place, another one where it stood
  abbrev landing : Option (Location ℕ) → Bool → Location ℕ
  landing parent first = if first then record { mount = destination.number; node = place.node }
      else unwrap_or (option_map (mount_point_on_copy nat_eq new tree destination.number) parent) place

  placed : (origin : Mount ℕ) (b : Bool) → nat_eq origin.number may.top.number ≡ b
      → (arrived origin).mount_point ≡ Some (landing origin.mount_point b)
  placed origin b e = ap (λ c. Some (landing origin.mount_point c)) (cc (may.is_tree))

  top_place : (origin : Mount ℕ) → nat_eq origin.number may.top.number ≡ true
      → (arrived origin).mount_point ≡ Some place
  top_place origin e = placed origin true e
      ∙ ap (λ (k : ℕ). Some (record { mount = k; node = place.node })) (number-mount_in _ _)

  other_place : (origin : Mount ℕ) → nat_eq origin.number may.top.number ≡ false → (on : Location ℕ)
      → origin.mount_point ≡ Some on → (arrived origin).mount_point ≡ Some on
  other_place origin e on f = placed origin false e ∙ ap (λ p. Some (landing p false)) f
      ∙ ap (λ (k : ℕ). Some (record { mount = k; node = on.node })) (keeps_number world new place mounts _)

  is_top_of : (first : Mount ℕ) (rest : List (Mount ℕ)) → mounts ≡ first ∷ rest → (number : ℕ) → number ≡ first.number
      → nat_eq number may.top.number ≡ true
  is_top_of first rest list number e =
      let same : first ≡ may.top = same_Some first _ (ap first_of_list (sym list ∙ may.is_tree)) in
      eq-eqb number may.top.number (cc)

  same_mover : (a b : Mount ℕ) → Among a mounts → Among b mounts → a.number ≡ b.number → a ≡ b
  same_mover a b m n same = cc (found_itself mounts may.own a m, same, found_itself mounts may.own b n)

  data ArrivedPlace (origin : Mount ℕ) : Type 0 where
    at_place : nat_eq origin.number may.top.number ≡ true → (arrived origin).mount_point ≡ Some place
        → ArrivedPlace origin
    as_before : (on : Location ℕ) → origin.mount_point ≡ Some on → (arrived origin).mount_point ≡ Some on
        → ArrivedPlace origin

  arrived_place : (origin : Mount ℕ) → Among origin mounts → (number : ℕ) → Hangs mounts number → number ≡ origin.number
      → ArrivedPlace origin
  arrived_place origin m number (from_top first rest list) is =
      let e = is_top_of first rest list _ (sym is) in at_place e (top_place origin e)
  arrived_place origin m number (from_parent other on l f later) is = by _ refl
    where
      by : (b : Bool) → nat_eq origin.number may.top.number ≡ b → ArrivedPlace origin
      by true e = at_place e (top_place origin e)
      by false e =
          let place_is : origin.mount_point ≡ Some on =
          cc (same_mover other origin l m is, f) in
          as_before on place_is (other_place origin e on place_is)

  -- Standing
  stayed_stands : (number : ℕ) → Stands nat_eq world number → is_moved mounts number ≡ false → Stands nat_eq left number
  stayed_stands number (at_root it e) other = at_root it (cc (found_stayed it other))
  stayed_stands number (on_parent it on e f stands) other = by _ refl (stayed_stands _ stands)
    where
      by : (b : Bool) → is_moved mounts on.mount ≡ b
          → (is_moved mounts on.mount ≡ false → Stands nat_eq left on.mount) → Stands nat_eq left it
      by true g parent_stands = absurd (true≢false (sym (may.closed (mount_numbered nat_eq world it) on
          (placed_among _ it on e) e g) ∙ ap (is_moved mounts) (number-mount_in _ it) ∙ other))
      by false g parent_stands = on_parent it on (cc (found_stayed it other))
          (cc (found_stayed it other, found_stayed on.mount g)) (parent_stands g)

  destination_stands : Stands nat_eq left place.mount
  destination_stands = stayed_stands place.mount (subst (Stands nat_eq world) (number-mount_in world.mounts place.mount)
      (among_from_all (λ (x : Mount ℕ). Stands nat_eq world x.number) world.mounts may.all destination
      (found_there world.mounts place.mount may.there))) may.outside

  top_stands : (origin : Mount ℕ) → Among origin mounts → nat_eq origin.number may.top.number ≡ true
      → Stands nat_eq left origin.number
  top_stands origin m e = on_parent origin.number place (cc (found_arrived origin m, top_place origin e))
      (cc (found_arrived origin m, found_stayed place.mount may.outside)) destination_stands

  moved_stands : (number : ℕ) → Hangs mounts number → (origin : Mount ℕ) → Among origin mounts
      → origin.number ≡ number → Stands nat_eq left origin.number
  moved_stands number (from_top first rest list) origin m same = top_stands origin m (is_top_of first rest list _ same)
  moved_stands number (from_parent other on l f later) origin m same = by _ refl (moved_stands _ later)
    where
      by : (b : Bool) → nat_eq origin.number may.top.number ≡ b
          → ((x : Mount ℕ) → Among x mounts → x.number ≡ on.mount → Stands nat_eq left x.number)
          → Stands nat_eq left origin.number
      by true e parent_stands = top_stands origin m e
      by false e parent_stands =
          let place_is : origin.mount_point ≡ Some on =
          cc (same_mover other origin l m (sym same), f) in
          let parent = hanging mounts _ later in
          on_parent origin.number on (cc (found_arrived origin m, other_place origin e on place_is))
          (ap (λ (x : Mount ℕ). x.namespace) (found_arrived origin m) ∙ sym
          (ap (λ n. (mount_numbered nat_eq left n).namespace) (sym parent.2) ∙ ap (λ (x : Mount ℕ). x.namespace)
          (found_arrived _ parent.1))) (subst (Stands nat_eq left) parent.2 (parent_stands parent.0 parent.1 parent.2))

  pub all_left : AllStand left
  all_left = all_from_among _ _ (λ mount m. by mount (left_case mount m))
    where
      moved_one : (origin : Mount ℕ) → Among origin mounts → Stands nat_eq left (arrived origin).number
      moved_one origin m = subst (Stands nat_eq left) (sym (arrived_number (twig origin)))
          (moved_stands _ (may.hangs origin m) origin m refl)

      by : (mount : Mount ℕ) → LeftCase mount → Stands nat_eq left mount.number
      by mount (came origin m e) = subst (λ (x : Mount ℕ). Stands nat_eq left x.number) (sym e) (moved_one origin m)
      by mount (stayed m) = at (is_moved mounts mount.number) refl
        where
          at : (b : Bool) → is_moved mounts mount.number ≡ b → Stands nat_eq left mount.number
          at true e =
              let origin = mover _ e in
              subst (Stands nat_eq left) (sym origin.2) (moved_stands _ (may.hangs origin.0 origin.1) _ origin.1 refl)
          at false e = stayed_stands _
              (among_from_all (λ (x : Mount ℕ). Stands nat_eq world x.number) world.mounts may.all mount m) e

  -- Places: the top is at the place, another one where a mount of its number stood
  data LeftPlace (mount : Mount ℕ) : Type 0 where
    at_destination : nat_eq mount.number may.top.number ≡ true → mount.mount_point ≡ Some place → LeftPlace mount
    as_it_was : (old : Mount ℕ) → Among old world.mounts → old.number ≡ mount.number
        → mount.mount_point ≡ old.mount_point → LeftPlace mount

  left_place : (mount : Mount ℕ) → LeftCase mount → LeftPlace mount
  left_place mount (stayed m) = as_it_was mount m refl refl
  left_place mount (came origin m e) = by (arrived_place origin m _ (may.hangs origin m) refl)
    where
      number : mount.number ≡ origin.number
      number = cc (arrived_number (twig origin))

      by : ArrivedPlace origin → LeftPlace mount
      by (at_place f g) = at_destination (cc number) (cc e)
      by (as_before on f g) = as_it_was origin (may.inside origin m) (sym number) (cc e)

  pub places_left : OneMountAMountPoint world.mounts → child_at nat_eq world.mounts place ≡ None
      → OneMountAMountPoint left.mounts
  places_left places free = pair_by share _ one_left (λ a b m n differ.
      by a b (left_place a (left_case a m)) (left_place b (left_case b n)) differ)
    where
      -- none stood at the place
      not_there : (old : Mount ℕ) → Among old world.mounts → old.mount_point ≡ Some place → ⊥
      not_there old m e = cc (stands_at_its_place place old e, unfound (stands_at nat_eq place) world.mounts free old m)

      by : (a b : Mount ℕ) → LeftPlace a → LeftPlace b → same_number a b ≡ false → share a b ≡ false
      by a b (at_destination e f) (at_destination g h) differ = absurd (true≢false (sym (eq-eqb a.number b.number
          (eqb-true a.number may.top.number e ∙ sym (eqb-true b.number may.top.number g))) ∙ differ))
      by a b (at_destination e f) (as_it_was old m g h) differ = false_from_ne_true _ (λ both.
          let t = place_of_both a b both in
          not_there old m (cc (t.2, same_Some place t.0 (sym f ∙ t.1))))
      by a b (as_it_was old m g h) (at_destination e f) differ = false_from_ne_true _ (λ both.
          let t = place_of_both a b both in
          not_there old m (cc (t.1, same_Some place t.0 (sym f ∙ t.2))))
      by a b (as_it_was old m e f) (as_it_was other n g h) differ =
          ap (beside b.mount_point) f ∙ ap (λ p. beside p old.mount_point) h ∙ two_of _ places old other m n
          (ap (λ k. nat_eq k other.number) e ∙ ap (nat_eq a.number) g ∙ differ)
