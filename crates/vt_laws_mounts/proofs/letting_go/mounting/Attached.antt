-- What mounts are after a tree of mounts is attached, and what they used.
use Rattle.std.proofs.Common.{arith, ◌≡◌, refl, sym, ap, subst, ◌∙◌, ◌⊎◌, inl, inr, ⊎_elim, ℕ, nat_eq, append_assoc, eqb-true, eq-eqb, Bool, true, false, cond, ◌||◌, List, [], ◌∷◌, find, map, true≢false, flat_map, ◌++◌, Option, Some, None, is_some, option_map, option_to_list, unwrap_or, filter_map, map-id}
use Rattle.vt_spec.proofs.Common.{Copies, Filesystem, Graft, Location, Mount, Twig, World, added_mounts, all_groups_made, attached_by, common_steps, copies_at, copy_at, false_from_ne_true, folded, graft_of, group_made, group_of, is_among, is_destination, is_member_of, is_nowhere_or_attached, list_all, list_any, map_twice, masters_with, mount_at, mount_in, mount_lives, mount_point_on_copy, no_mount, number-mount_in, parts_of, pushed_onto, moved_onto_copy, receiver_stood_on, receivers_of, replaced_if_same, rest_of, same_location_is, stands_at, takes_part, twig_of, with_mount, with_moved_mounts}
use Rattle.vt_laws_mounts.specs.LettingGo.InUse.{AllInUse, GroupsInUse}
use Rattle.vt_laws_mounts.specs.LettingGo.Keeping.{LocationsStand}
use Rattle.vt_laws_mounts.specs.LettingGo.Leaving.{MountsStand}
use Rattle.vt_laws_mounts.proofs.letting_go.Lists.{Among, among-append, among-append_left, among-append_right, among-flat_map, among-from_filter, among-from_filter_map, among-from_flat_map, among-from_map, among-map, among_from_list_all, any_from_among, found_in, list_all_from_among, none_from_among, or_left}
use Rattle.vt_laws_mounts.proofs.letting_go.mounting.MountingLosers.{Loses, StillAPlace, places_of, places_stand}
use Rattle.vt_laws_mounts.proofs.letting_go.leaving.PlacesLeft.{found_itself, nowhere_parts}

-- Mounts that are replaced by those of their numbers
abbrev pub swapped : List (Mount ℕ) → Mount ℕ → Mount ℕ
swapped copied mount = folded (λ old copy. replaced_if_same nat_eq copy old) mount copied

pub swapped_all : (copied mounts : List (Mount ℕ))
    → folded (with_mount nat_eq) mounts copied ≡ map (swapped copied) mounts
swapped_all [] mounts = sym (map-id mounts)
swapped_all (copy ∷ copied) mounts = swapped_all copied _ ∙ map_twice _ _ mounts

-- a mount is as it was, and none has its number, or it is one of its number
abbrev Swapped : List (Mount ℕ) → Mount ℕ → Mount ℕ → Type 0
Swapped copied mount last = ((list_any (λ x. nat_eq x.number mount.number) copied ≡ false) × (last ≡ mount))
    ⊎ ((copy : Mount ℕ) × Among copy copied × (last ≡ copy) × (copy.number ≡ mount.number))

swapped_is : (copied : List (Mount ℕ)) (mount : Mount ℕ) → Swapped copied mount (swapped copied mount)
swapped_is [] mount = inl (refl, refl)
swapped_is (copy ∷ copied) mount = grind (arith, common_steps, swapped_is copied, copied, eqb-true)

-- masters that groups keep
pub masters_stay : (made : List (ℕ × Option ℕ)) (master : ℕ → Option ℕ) (group : ℕ)
    → ((one : ℕ × Option ℕ) → Among one made → nat_eq group one.0 ≡ false)
    → folded (masters_with nat_eq) master made group ≡ master group
masters_stay [] master group none = refl
masters_stay (one ∷ made) master group none =
    cc (masters_stay made _ group (λ x m. none x (inr m)), none one (inl refl))

module _ (world : World ℕ) (filesystems : List (Filesystem ℕ)) (new : Copies ℕ) (place : Location ℕ) (moves : Bool)
    (first : Mount ℕ) (rest : List (Mount ℕ)) (in_use : AllInUse world) (stand : MountsStand world)
    (located_well : LocationsStand world) (at_attached : is_some (mount_at nat_eq world place).namespace ≡ true)
    (of_world : moves ≡ true → (mount : Mount ℕ) → Among mount (first ∷ rest) → Among mount world.mounts) where
  abbrev base : World ℕ
  base = record world { filesystems = filesystems }

  abbrev origins : List (Mount ℕ)
  origins = first ∷ rest

  abbrev tree : Graft ℕ
  tree = graft_of nat_eq base new place moves origins

  abbrev twig : Mount ℕ → Twig ℕ
  twig = twig_of new (group_of (mount_at nat_eq base place).propagation)

  abbrev destination : Mount ℕ
  destination = mount_at nat_eq base place

  abbrev parts : List (Mount ℕ)
  parts = parts_of nat_eq base place

  abbrev copy : Mount ℕ → Mount ℕ → Mount ℕ
  copy part origin = copy_at nat_eq base new tree parts part (twig origin)

  abbrev copies : Mount ℕ → List (Mount ℕ)
  copies part = copies_at nat_eq base new tree parts part

  abbrev pub after : World ℕ
  after = attached_by nat_eq base new place moves origins

  abbrev push : Mount ℕ → Mount ℕ
  push = moved_onto_copy nat_eq base new tree parts

  -- a mount of the world where it moves, before what stands at receivers is pushed up
  abbrev went_by : Bool → Mount ℕ → Mount ℕ
  went_by true mount = swapped (copies destination) mount
  went_by false mount = mount

  abbrev went : Mount ℕ → Mount ℕ
  went = went_by moves

  abbrev last : Mount ℕ → Mount ℕ
  last mount = push (went mount)

  abbrev more : List (Mount ℕ)
  more = added_mounts moves (copies destination) ++ flat_map copies (rest_of parts)

  went_all : with_moved_mounts nat_eq moves world.mounts (copies destination) ≡ map went world.mounts
  went_all = by moves
    where
      by : (b : Bool) → with_moved_mounts nat_eq b world.mounts (copies destination) ≡ map (went_by b) world.mounts
      by true = swapped_all (copies destination) world.mounts
      by false = sym (map-id world.mounts)

  old_mounts : map push (with_moved_mounts nat_eq moves world.mounts (copies destination)) ≡ map last world.mounts
  old_mounts = ap (map push) went_all ∙ map_twice push went _

  -- each copy is of a mount of the tree
  copied : (part x : Mount ℕ) → Among x (copies part)
      → (origin : Mount ℕ) × Among origin origins × (x ≡ copy part origin)
  copied part x m =
      let from = among-from_map (copy_at nat_eq base new tree parts part) tree.twigs x m in
      let origin = among-from_map twig origins from.0 from.1 in
      (origin.0, origin.1, from.2 ∙ ap (copy_at nat_eq base new tree parts part) origin.2)

  copy_there : (part origin : Mount ℕ) → Among origin origins → Among (copy part origin) (copies part)
  copy_there part origin m = among-map (copy_at nat_eq base new tree parts part) tree.twigs (twig origin)
      (among-map twig origins origin m)

  -- mounts afterwards
  abbrev mounts_by : List (Mount ℕ) → List (Mount ℕ)
  mounts_by old = old ++ added_mounts moves (copies destination) ++ flat_map copies (rest_of parts)

  old_there : (mount : Mount ℕ) → Among mount world.mounts → Among (last mount) after.mounts
  old_there mount m = subst (λ old. Among (last mount) (mounts_by old)) (sym old_mounts)
      (among-append_left _ _ _ (among-append_left _ _ _ (among-map last _ mount m)))

  copy_at_receiver : (part x : Mount ℕ) → Among part (rest_of parts) → Among x (copies part) → Among x after.mounts
  copy_at_receiver part x m n = among-append_right _ _ x (among-flat_map copies _ part x m n)

  -- each is one of before, a copy at the destination, or a copy at a receiver
  data Comes (x : Mount ℕ) : Type 0 where
    was : (mount : Mount ℕ) → Among mount world.mounts → x ≡ last mount → Comes x
    came : (part origin : Mount ℕ) → is_some part.namespace ≡ true → Among origin origins → x ≡ copy part origin
        → Comes x

  added_from : (b : Bool) (x : Mount ℕ) → Among x (added_mounts b (copies destination)) → Among x (copies destination)
  added_from true x m = absurd m
  added_from false x m = m

  attached_part : (part : Mount ℕ) → Among part (rest_of parts) → is_some part.namespace ≡ true
  attached_part part m =
      let takes = (among-from_filter (takes_part nat_eq base place) (receivers_of nat_eq base destination) part m).1
      in grind (arith, common_steps, true≢false)

  comes : (x : Mount ℕ) → Among x after.mounts → Comes x
  comes x m =
      let old = map last world.mounts in
      let now : Among x (mounts_by old) = subst (λ list. Among x (mounts_by list)) old_mounts m in
      ⊎_elim (λ front. ⊎_elim
      (λ before. let from = among-from_map last world.mounts x before in was from.0 from.1 from.2)
      (λ added. let from = copied destination x
      (added_from moves x added) in came destination from.0 at_attached from.1 from.2)
      (among-append old (added_mounts moves (copies destination)) x front))
      (λ receiver. let part = among-from_flat_map copies (rest_of parts) x receiver in
      let from = copied part.0 x part.2 in
      came part.0 from.0 (attached_part part.0 part.1) from.1 from.2)
      (among-append (old ++ added_mounts moves (copies destination)) (flat_map copies (rest_of parts)) x now)

  -- What a mount of before is then: as it was, or what moved
  data Went (mount : Mount ℕ) : Type 0 where
    stayed : went mount ≡ mount → (moves ≡ true → Among mount origins → ⊥) → Went mount
    moved : moves ≡ true → Among mount origins → went mount ≡ copy destination mount → Went mount

  at_its_number : is_destination nat_eq tree destination.number ≡ true
  at_its_number = eq-eqb destination.number place.mount (number-mount_in _ _)

  keeps_number : moves ≡ true → (origin : Mount ℕ) → (copy destination origin).number ≡ origin.number
  keeps_number e origin = cc at_its_number

  one_of_its_number : (a b : Mount ℕ) → Among a world.mounts → Among b world.mounts → a.number ≡ b.number → a ≡ b
  one_of_its_number a b m n e = cc (found_itself _ stand.one_number a m, found_itself _ stand.one_number b n)

  went_is : (mount : Mount ℕ) → Among mount world.mounts → Went mount
  went_is mount m = by moves refl
    where
      same_as : moves ≡ true → went mount ≡ swapped (copies destination) mount
      same_as e = ap (λ b. went_by b mount) e

      by : (b : Bool) → moves ≡ b → Went mount
      by false e = stayed (ap (λ b. went_by b mount) e) (λ f. absurd cc)
      by true e = ⊎_elim (λ none. stayed (same_as e ∙ none.1) (λ f n. true≢false (sym
          (any_from_among (λ x. nat_eq x.number mount.number) (copies destination) (copy destination mount)
          (copy_there destination mount n)
          (eq-eqb (copy destination mount).number mount.number (keeps_number e mount))) ∙ none.0)))
          (λ some. let from = copied destination some.0 some.1 in
          let same : from.0 ≡ mount = one_of_its_number from.0 mount (of_world e from.0 from.1) m
          (sym (keeps_number e from.0) ∙ ap (λ (x : Mount ℕ). x.number) (sym from.2) ∙ some.3) in
          moved e (subst (λ x. Among x origins) same from.1) (same_as e ∙ some.2 ∙ from.2 ∙ ap (copy destination) same))
          (swapped_is (copies destination) mount)

  -- what is pushed up keeps all but its place
  push_keeps : {A : Type 0} (part : Mount ℕ → A) → ((mount : Mount ℕ) (at : Option (Location ℕ))
      → part (record mount { mount_point = at }) ≡ part mount) → (mount : Mount ℕ) → part (push mount) ≡ part mount
  push_keeps part same mount = grind (arith, common_steps)

  -- where it is pushed up, the first copy has its place
  pushed : (mount : Mount ℕ) → (push mount ≡ mount) ⊎ ((part : Mount ℕ) × Among part (rest_of parts) ×
      (mount.mount_point ≡ Some (record { mount = part.number; node = place.node })))
  pushed mount = by _ refl
    where
      stands : (part : Mount ℕ) (at : Option (Location ℕ)) → mount.mount_point ≡ at
          → stands_at nat_eq (record { mount = part.number; node = place.node }) mount ≡ true
          → mount.mount_point ≡ Some (record { mount = part.number; node = place.node })
      stands part None e h = grind (arith, common_steps, true≢false)
      stands part (Some at) e h = grind (arith, common_steps, same_location_is)

      by : (below : Option (Mount ℕ)) → receiver_stood_on nat_eq tree parts mount ≡ below → (push mount ≡ mount)
          ⊎ ((part : Mount ℕ) × Among part (rest_of parts) ×
          (mount.mount_point ≡ Some (record { mount = part.number; node = place.node })))
      by None e = inl (ap (pushed_onto nat_eq base new tree parts mount) e)
      by (Some part) e =
          let found = found_in _ _ part e in
          inr (part, found.0, stands part _ refl found.1)

  first_copy : (part : Mount ℕ) → (copy part first).mount_point
      ≡ Some (record { mount = part.number; node = place.node })
  first_copy part = ap (λ b. Some (cond b (record { mount = part.number; node = place.node })
      (unwrap_or (option_map (mount_point_on_copy nat_eq new tree part.number) first.mount_point) place)))
      (eq-eqb first.number first.number refl)

  -- each mount keeps its number, what it shows, and the namespace or another one
  went_number : (mount : Mount ℕ) → Among mount world.mounts → (went mount).number ≡ mount.number
  went_number mount m = grind (arith, common_steps, went_is mount m, keeps_number)

  last_number : (mount : Mount ℕ) → Among mount world.mounts → (last mount).number ≡ mount.number
  last_number mount m = push_keeps (λ x. x.number) (λ x at. refl) (went mount) ∙ went_number mount m

  went_filesystem : (mount : Mount ℕ) → Among mount world.mounts → (went mount).filesystem ≡ mount.filesystem
  went_filesystem mount m = grind (arith, common_steps, went_is mount m)

  last_filesystem : (mount : Mount ℕ) → Among mount world.mounts → (last mount).filesystem ≡ mount.filesystem
  last_filesystem mount m = push_keeps (λ x. x.filesystem) (λ x at. refl) (went mount) ∙ went_filesystem mount m

  last_root : (mount : Mount ℕ) → Among mount world.mounts → (last mount).root ≡ mount.root
  last_root mount m = grind (arith, common_steps, push_keeps, went_is mount m)

  -- in use still
  last_lives : (mount : Mount ℕ) → Among mount world.mounts → mount_lives nat_eq after (last mount) ≡ true
  last_lives mount m = grind (arith, common_steps, push_keeps, last_number, went_is, among_from_list_all, or_left)

  all_live : (x : Mount ℕ) → Among x after.mounts → mount_lives nat_eq after x ≡ true
  all_live x m = grind (arith, common_steps, comes x m, last_lives)

  last_nowhere : (mount : Mount ℕ) → Among mount world.mounts → is_nowhere_or_attached (last mount) ≡ true
  last_nowhere mount m =
      grind (arith, common_steps, went_is, or_left, push_keeps, among_from_list_all, true≢false, nowhere_parts, pushed)

  all_nowhere : list_all is_nowhere_or_attached after.mounts ≡ true
  all_nowhere = list_all_from_among _ _ (λ x m. by x (comes x m))
    where
      by : (x : Mount ℕ) → Comes x → is_nowhere_or_attached x ≡ true
      by x (was mount n e) = ap is_nowhere_or_attached e ∙ last_nowhere mount n
      by x (came part origin there n e) = ap is_nowhere_or_attached e ∙ or_left _ _ there

  -- Locations show what they showed

  -- a mount of the world is found among those that are changed, where each keeps its number
  found_changed : (mounts others : List (Mount ℕ)) (number : ℕ)
      → ((mount : Mount ℕ) → Among mount mounts → Among mount world.mounts)
      → is_among nat_eq number (map (λ x. x.number) mounts) ≡ true
      → (mount_in nat_eq (map last mounts ++ others) number).filesystem ≡ (mount_in nat_eq mounts number).filesystem
  found_changed [] others number sub h = absurd cc
  found_changed (one ∷ mounts) others number sub h = ap (λ n. (unwrap_or (cond (nat_eq number n) (Some (last one))
      (find (λ x. nat_eq number x.number) (map last mounts ++ others))) (no_mount number)).filesystem)
      (last_number one (sub one (inl refl))) ∙ by _ h (found_changed mounts others number (λ x m. sub x (inr m)))
    where
      by : (b : Bool) → (b || is_among nat_eq number (map (λ x. x.number) mounts)) ≡ true
          → (is_among nat_eq number (map (λ x. x.number) mounts) ≡ true
          → (mount_in nat_eq (map last mounts ++ others) number).filesystem
          ≡ (mount_in nat_eq mounts number).filesystem)
          → (unwrap_or (cond b (Some (last one)) (find (λ x. nat_eq number x.number) (map last mounts ++ others)))
          (no_mount number)).filesystem
          ≡ (unwrap_or (cond b (Some one) (find (λ x. nat_eq number x.number) mounts)) (no_mount number)).filesystem
      by true g later = last_filesystem one (sub one (inl refl))
      by false g later = later g

  shown_still : (location : Location ℕ) → Among location (places_of world)
      → (mount_at nat_eq after location).filesystem ≡ (mount_at nat_eq world location).filesystem
  shown_still location m = ap (λ old. (mount_in nat_eq (mounts_by old) location.mount).filesystem) old_mounts
      ∙ ap (λ list. (mount_in nat_eq list location.mount).filesystem)
      (append_assoc (map last world.mounts) (added_mounts moves (copies destination)) (flat_map copies (rest_of parts)))
      ∙ found_changed _ more _ (λ x n. n) (places_stand world stand located_well _ m)

  -- Places
  abbrev pub left_by : Bool → List (Location ℕ)
  left_by true = option_to_list first.mount_point
  left_by false = []

  first_left : moves ≡ true → (at : Location ℕ) → first.mount_point ≡ Some at → Among at (left_by moves)
  first_left e at f = subst (λ b. Among at (left_by b)) (sym e)
      (subst (λ o. Among at (option_to_list o)) (sym f) (inl refl))

  -- a mount where it went has its place still, unless it is the first that moves
  place_went : (mount : Mount ℕ) → Among mount world.mounts → (at : Location ℕ) → mount.mount_point ≡ Some at
      → ((went mount).mount_point ≡ Some at) ⊎ Among at (left_by moves)
  place_went mount m at e =
      grind (arith, common_steps, went_is mount m, one_of_its_number, eqb-true, first_left, at_its_number)

  place_still : (mount : Mount ℕ) → Among mount world.mounts → (at : Location ℕ) → mount.mount_point ≡ Some at
      → StillAPlace after.mounts [] at ⊎ Among at (left_by moves)
  place_still mount m at e = ⊎_elim (λ there. inl (⊎_elim
      (λ same. (last mount, (old_there mount m, (ap (λ (x : Mount ℕ). x.mount_point) same ∙ there, inl refl)))) (λ up. (
        copy up.0 first,
        (
          copy_at_receiver up.0 _ up.1 (copy_there up.0 first (inl refl)),
          (first_copy up.0 ∙ sym up.2 ∙ there, inl refl),
        ),
      )) (pushed _))) inr (place_went mount m at e)

  pub attached_loses : Loses world after [] (left_by moves)
  attached_loses = record {
    images = λ mount m. (
      last mount,
      (
        old_there mount m,
        ((λ i. record { mount = last_number mount m i; node = last_root mount m i }), last_filesystem mount m),
      ),
    );
    shown = shown_still;
    live = λ x m isnt. all_live x m;
    locations = λ location m. inl (inl m);
    places = place_still;
    nowhere = all_nowhere;
  }

  -- the first is shown at the destination
  pub first_shown : moves ≡ false → (x : Mount ℕ)
      × (Among x after.mounts × ((mount_lives nat_eq after x ≡ true) × (x.filesystem ≡ first.filesystem)))
  first_shown e = (copy destination first, (there, (all_live _ there, refl)))
    where
      there : Among (copy destination first) after.mounts
      there = grind (arith, common_steps, among-append_left, among-append_right, copy_there)

  -- Groups

  -- a member of a group stays one
  member_still : (mount : Mount ℕ) → Among mount world.mounts → (group : ℕ) → is_member_of nat_eq group mount ≡ true
      → is_member_of nat_eq group (last mount) ≡ true
  member_still mount m group h =
      grind (arith, common_steps, push_keeps, went_is mount m, true≢false, twig, at_its_number)

  -- what a copy is, some mount is afterwards
  copy_stands : (part origin : Mount ℕ) → Among part parts → Among origin origins
      → (x : Mount ℕ) × Among x after.mounts × (x.propagation ≡ (copy part origin).propagation)
  copy_stands part origin m n = ⊎_elim (λ here. subst (λ p. (x : Mount ℕ) × Among x after.mounts
      × (x.propagation ≡ (copy p origin).propagation)) (sym here) (at_destination moves refl))
      (λ there. (copy part origin, copy_at_receiver part _ there (copy_there part origin n), refl)) m
    where
      at_destination : (b : Bool) → moves ≡ b → (x : Mount ℕ) × Among x after.mounts
          × (x.propagation ≡ (copy destination origin).propagation)
      at_destination false e = (
        copy destination origin,
        among-append_left (map push (with_moved_mounts nat_eq moves world.mounts (copies destination))
            ++ added_mounts moves (copies destination)) (flat_map copies (rest_of parts)) (copy destination origin)
            (among-append_right (map push (with_moved_mounts nat_eq moves world.mounts (copies destination)))
            (added_mounts moves (copies destination)) (copy destination origin)
            (subst (λ b. Among (copy destination origin) (added_mounts b (copies destination))) (sym e)
            (copy_there destination origin n))),
        refl,
      )
      at_destination true e = (
        last origin,
        old_there origin (of_world e origin n),
        push_keeps (λ x. x.propagation) (λ x at. refl) (went origin) ∙ by (went_is origin (of_world e origin n)),
      )
        where
          by : Went origin → (went origin).propagation ≡ (copy destination origin).propagation
          by (stayed is none) = absurd (none e n)
          by (moved g l is) = ap (λ (x : Mount ℕ). x.propagation) is

  -- a new group has the copy for which it is made
  made_has_it : (part origin : Mount ℕ) (made : ℕ × Option ℕ)
      → group_made nat_eq base new tree parts part (twig origin) ≡ Some made
      → group_of (copy part origin).propagation ≡ Some made.0
  made_has_it part origin made e = grind (arith, common_steps, true≢false, twig)

  is_its_member : (x origin part : Mount ℕ) (group made : ℕ) → x.propagation ≡ (copy part origin).propagation
      → group_of (copy part origin).propagation ≡ Some made → nat_eq group made ≡ true
      → is_member_of nat_eq group x ≡ true
  is_its_member x origin part group made e f same = cc

  pub attached_groups : GroupsInUse after
  attached_groups group none = masters_stay (all_groups_made nat_eq base new tree parts) world.master group
      (λ made m. false_from_ne_true (nat_eq group made.0) (λ same.
      let part = among-from_flat_map
      (λ p. filter_map (group_made nat_eq base new tree parts p) tree.twigs) parts made m in
      let t = among-from_filter_map (group_made nat_eq base new tree parts part.0) tree.twigs made part.2 in
      let origin = among-from_map twig origins t.0 t.1 in
      let stands = copy_stands part.0 origin.0 part.1 origin.1 in
      let its = made_has_it part.0 origin.0 made
      (ap (group_made nat_eq base new tree parts part.0) (sym origin.2) ∙ t.2) in
      true≢false (sym (any_from_among (is_member_of nat_eq group) after.mounts stands.0 stands.1
      (is_its_member stands.0 origin.0 part.0 group made.0 stands.2 its same)) ∙ none))) ∙ in_use.groups group
      (none_from_among (is_member_of nat_eq group) world.mounts (λ mount m.
      false_from_ne_true (is_member_of nat_eq group mount) (λ is.
      true≢false (sym (any_from_among (is_member_of nat_eq group) after.mounts (last mount) (old_there mount m)
      (member_still mount m group is)) ∙ none))))
