-- Copies of mounts of others, attached at a mount of others and at its receivers.
use Rattle.std.proofs.Common.{arith, ◌≡◌, refl, sym, ap, subst, ◌∙◌, ◌⊎◌, inl, inr, ⊎_elim, ℕ, nat_eq, Bool, true, false, cond, true≢false, List, [], ◌∷◌, ◌++◌, ◌*◌, append-nil, append_assoc, Option, Some, None, filter, find, flat_map, is_some, length, map, not, ◌&&◌, ◌||◌, eq-eqb, eqb-true, option_map, unwrap_or, filter_map}
use Rattle.vt_spec.proofs.Common.{cases_Bool, Among, Copies, Filesystem, Fresh, Graft, Location, Mount, Private, Propagation, Shared, Slave, Stands, Task, TaskName, Unbindable, World, added_mounts, all_locations, among-append, among-filter, among-flat_map, among-from_filter, among-from_flat_map, among-from_map, among-map, among_from_all, among_from_list_all, and_from, and_parts, any_from_among, attach, common_steps, cons_option, contains_from_among, copies_at, copies_from, copy_at, false_from_ne_true, filter_map-append, folded, found_among, found_or_none, found_passes, graft_of, group_of, has_layer_on, holds_of, index_in_rows, index_of, is_at, is_destination, is_member_of, is_member_task, is_own_mount, is_own_namespace, list_all_from_among, list_any, locations, locations_of, map_same, map_twice, master_of, members, mount_at, mount_in, mount_numbered, no_mount, no_outsider_on, none_among, none_from_among, none_is_some, not-true, number-mount_in, other_mounts, outsiders, overlays, own_mounts, parts_of, pushed_onto, moved_onto_copy, receiver_stood_on, receivers, receivers_of, receives, replaced_if_same, rest_of, roots_and_directories, seen_by_descriptor, shares_no_events, stands_at, takes_part, twig_of, when, with_mount, with_moved_mounts}
use Rattle.vt_laws_sealed.proofs.Common.{IsNewBy, among-flat_map_filter, found_itself, namespace_below, stands_there}
use Rattle.vt_laws_sealed.specs.Part.Parts.{SeesTheSame}
use Rattle.vt_laws_sealed.proofs.part.Kept.{filter_map_map, filter_map_same}
use Rattle.vt_laws_sealed.proofs.part.groups.EventsApart.{no_event_of_others_reaches_them}
use Rattle.vt_laws_sealed.proofs.part.part.Observed.{own_mounts_same}
use Rattle.vt_laws_sealed.proofs.part.part.PartOfPart.{keep}
use Rattle.vt_laws_sealed.proofs.outsiders.AttachedGroups.{IsAttaching, IsCopyOf, copied_to, copy_foreign, old_foreign, own_master_stays}
use Rattle.vt_laws_sealed.proofs.outsiders.Filesystems.{not_of_the_world}
use Rattle.vt_laws_sealed.proofs.outsiders.OtherMounts.{Foreign, HearsGroup, events_stay_apart, is_other, located_there, number_not_new, standing_apart_with}
use Rattle.vt_laws_sealed.proofs.outsiders.Reshaping.{IsReshaped, reshaped_kept, reshaped_twice}
use Rattle.vt_laws_sealed.proofs.outsiders.StandingApart.{StandsApart}
use Rattle.vt_laws_sealed.proofs.outsiders.Staying.{IsOfTheWorld, LeavesApart, free_with}

-- a list of which nothing is kept
pub none_kept : {A B : Type 0} (k : A → Option B) (xs : List A) → ((x : A) → Among x xs → k x ≡ None)
    → filter_map k xs ≡ []
none_kept k [] none = refl
none_kept {A} {B} k (x ∷ xs) none =
    ap (λ o. cons_option o (filter_map k xs)) (none x (inl refl)) ∙ none_kept k xs (λ y m. none y (inr m))

-- a mount that is in the first of two lists is found there
pub found_first : (number : ℕ) (xs ys : List (Mount ℕ)) → (mount : Mount ℕ) → Among mount xs
    → nat_eq number mount.number ≡ true → mount_in nat_eq (xs ++ ys) number ≡ mount_in nat_eq xs number
found_first number [] ys mount m e = absurd m
found_first number (x ∷ xs) ys mount m e =
    by (nat_eq number x.number) refl (λ later. found_first number xs ys mount later e)
  where
    by : (b : Bool) → nat_eq number x.number ≡ b
        → (Among mount xs → mount_in nat_eq (xs ++ ys) number ≡ mount_in nat_eq xs number)
        → unwrap_or (cond b (Some x) (find (λ (y : Mount ℕ). nat_eq number y.number) (xs ++ ys))) (no_mount number)
        ≡ unwrap_or (cond b (Some x) (find (λ (y : Mount ℕ). nat_eq number y.number) xs)) (no_mount number)
    by true f next = refl
    by false f next = ⊎_elim
        (λ here. absurd (true≢false (sym e ∙ ap (λ (y : Mount ℕ). nat_eq number y.number) here ∙ f))) next m

-- What is attached stands in a namespace of others, and no new filesystem has a layer that others do not use.
pub record AttachesApart (world : World ℕ) (names : List TaskName) (fresh : Fresh ℕ) : Type 0 where
  pub attaching : IsAttaching world names fresh
  pub open attaching use *
  pub sees_base : SeesTheSame world (record world { filesystems = attaching.filesystems }) names
  pub more : List (Filesystem ℕ)
  pub grown : overlays (record world { filesystems = attaching.filesystems }) ≡ overlays world ++ more
  pub none_there : (merged : Filesystem ℕ) → Among merged more → (number : ℕ)
      → no_outsider_on nat_eq world names number ≡ true → has_layer_on nat_eq number merged ≡ false
  pub namespace : ℕ
  pub outside : is_own_namespace nat_eq world names namespace ≡ false
  pub placed : (mount_at nat_eq world attaching.place).namespace ≡ Some namespace
  pub in_place : attaching.moves ≡ true → (origin : Mount ℕ) → Among origin attaching.mounts
      → Among origin world.mounts × (origin.namespace ≡ Some namespace)

module _ {world : World ℕ} {names : List TaskName} {fresh : Fresh ℕ} (it : AttachesApart world names fresh) where
  abbrev so_far : StandsApart world names (IsNewBy fresh)
  so_far = standing_apart_with world names it.apart fresh it.serves

  -- the world, perhaps with a new filesystem
  abbrev base : World ℕ
  base = record world { filesystems = it.filesystems }

  abbrev destination : Mount ℕ
  destination = mount_at nat_eq world it.place

  abbrev parts : List (Mount ℕ)
  parts = parts_of nat_eq base it.place

  abbrev new : Copies ℕ
  new = copies_from nat_eq it.supply parts it.mounts

  abbrev tree : Graft ℕ
  tree = graft_of nat_eq base new it.place it.moves it.mounts

  abbrev pub left : World ℕ
  left = attach nat_eq base it.supply it.place it.moves it.mounts

  abbrev theirs : List (Task ℕ)
  theirs = members world names

  abbrev kept : Mount ℕ → Option (Mount ℕ)
  kept = keep world names theirs

  abbrev IsForeign : ℕ → Type 0
  IsForeign = Foreign so_far

  -- numbers of copies and of groups are new
  new_copy : (part origin : ℕ) → (k : ℕ) × (new.copy part origin ≡ fresh k)
  new_copy part origin =
      it.supplied (2 * index_in_rows (length it.mounts) (index_of nat_eq parts part) (index_of nat_eq it.mounts origin))

  -- Each part is a mount of others.
  destination_there : Among destination world.mounts
  destination_there = ⊎_elim (λ m. m)
      (λ none. none_is_some it.namespace (sym (ap (λ (m : Mount ℕ). m.namespace) none) ∙ it.placed))
      (found_or_none world.mounts it.place.mount)

  destination_other : Among destination (other_mounts nat_eq world names)
  destination_other = is_other world names it.outside destination destination_there it.placed

  receiver_other : (part : Mount ℕ)
      → Among part (filter (takes_part nat_eq base it.place) (receivers_of nat_eq base destination))
      → Among part (other_mounts nat_eq world names)
  receiver_other part m =
      let out = among-from_filter (takes_part nat_eq base it.place) (receivers_of nat_eq base destination) part m in
      of_group (group_of destination.propagation) refl out.0
      (and_parts (not (nat_eq it.place.mount part.number)) (is_some part.namespace)
      (and_parts (not (nat_eq it.place.mount part.number) && is_some part.namespace)
      (nat_eq destination.filesystem part.filesystem)
      (and_parts (not (nat_eq it.place.mount part.number) && is_some part.namespace
      && nat_eq destination.filesystem part.filesystem) _ out.1).0).0).1
    where
      of_group : (o : Option ℕ) → group_of destination.propagation ≡ o
          → Among part (unwrap_or (option_map (receivers nat_eq base) o) []) → is_some part.namespace ≡ true
          → Among part (other_mounts nat_eq world names)
      of_group None e m attached = absurd m
      of_group (Some group) e m attached =
          let out = among-from_filter (receives nat_eq base group) world.mounts part m in
          by out.0 out.1 part.namespace refl attached
        where
          by : Among part world.mounts → receives nat_eq base group part ≡ true → (n : Option ℕ) → part.namespace ≡ n
              → is_some n ≡ true → Among part (other_mounts nat_eq world names)
          by there hears None f some = absurd (true≢false (sym some))
          by there hears (Some n) f some = elim (cases_Bool (is_own_namespace nat_eq world names n)) [
            | inl own ↦ absurd (true≢false (sym hears
                ∙ no_event_of_others_reaches_them world names part destination group
                (record { mounts = it.apart.is.mounts; apart = it.apart.events })
                (contains_from_among (own_mounts nat_eq world names) part
                (among-filter (is_own_mount nat_eq world names) world.mounts part there
                (ap (holds_of (is_own_namespace nat_eq world names)) f ∙ own)))
                (contains_from_among (other_mounts nat_eq world names) destination destination_other) e))
            | inr other ↦ is_other world names other part there f
          ]

  part_other : (part : Mount ℕ) → Among part parts → Among part (other_mounts nat_eq world names)
  part_other part m = ⊎_elim (λ e. subst (λ x. Among x (other_mounts nat_eq world names)) (sym e) destination_other)
      (receiver_other part) m

  -- so it is in a namespace of others
  other_placed : (mount : Mount ℕ) → Among mount (other_mounts nat_eq world names)
      → (n : ℕ) × (mount.namespace ≡ Some n) × (is_own_namespace nat_eq world names n ≡ false)
  other_placed mount m = by mount.namespace refl
      (among-from_filter (λ (x : Mount ℕ). holds_of (λ n. not (is_own_namespace nat_eq world names n)) x.namespace)
      world.mounts mount m).1
    where
      by : (o : Option ℕ) → mount.namespace ≡ o → holds_of (λ n. not (is_own_namespace nat_eq world names n)) o ≡ true
          → (n : ℕ) × (mount.namespace ≡ Some n) × (is_own_namespace nat_eq world names n ≡ false)
      by None e h = absurd (true≢false (sym h))
      by (Some n) e h = (n, e, not-true (is_own_namespace nat_eq world names n) h)

  other_there : (mount : Mount ℕ) → Among mount (other_mounts nat_eq world names) → Among mount world.mounts
  other_there mount m =
      (among-from_filter (λ (x : Mount ℕ). holds_of (λ n. not (is_own_namespace nat_eq world names n)) x.namespace)
      world.mounts mount m).0

  -- A copy is of a mount that is attached, at a part.
  abbrev copied : Mount ℕ → Mount ℕ → Mount ℕ
  copied = copied_to it.attaching

  abbrev IsCopy : Mount ℕ → Type 0
  IsCopy = IsCopyOf it.attaching

  at_part : (part mount : Mount ℕ) → Among mount (copies_at nat_eq base new tree parts part)
      → (origin : Mount ℕ) × Among origin it.mounts × (mount ≡ copied part origin)
  at_part part mount m =
      let twig = among-from_map (copy_at nat_eq base new tree parts part) tree.twigs mount m in
      let origin = among-from_map (twig_of new (group_of destination.propagation)) it.mounts twig.0 twig.1 in
      (origin.0, origin.1, twig.2 ∙ ap (copy_at nat_eq base new tree parts part) origin.2)

  -- What is added: copies with new numbers, in namespaces of others, so the part has nothing of them.
  abbrev all_copies : List (Mount ℕ)
  all_copies = added_mounts it.moves (copies_at nat_eq base new tree parts destination)
      ++ flat_map (copies_at nat_eq base new tree parts) (rest_of parts)

  abbrev IsAdded : Mount ℕ → Type 0
  IsAdded mount = IsCopy mount × ((k : ℕ) × (mount.number ≡ fresh k))

  added_at : (part : Mount ℕ) → Among part parts → (mount : Mount ℕ)
      → Among mount (copies_at nat_eq base new tree parts part)
      → (it.moves && is_destination nat_eq tree part.number) ≡ false → IsAdded mount
  added_at part p mount m elsewhere =
      let of = at_part part mount m in
      let number = new_copy part.number of.0.number in (
        (part, p, of.0, of.1, of.2),
        (
          number.0,
          ap (λ (x : Mount ℕ). x.number) of.2
              ∙ ap (λ b. cond b of.0.number (new.copy part.number of.0.number)) elsewhere ∙ number.1,
        ),
      )

  copies_are : (mount : Mount ℕ) → Among mount all_copies → IsAdded mount
  copies_are mount m = ⊎_elim (there it.moves refl)
      (λ later. let from = among-from_flat_map (copies_at nat_eq base new tree parts) (rest_of parts) mount later in
      added_at from.0 (inr from.1) mount from.2
      (and_no it.moves (is_destination nat_eq tree from.0.number) (not_destination from.0 from.1)))
      (among-append (added_mounts it.moves (copies_at nat_eq base new tree parts destination)) _ mount m)
    where
      and_no : (a b : Bool) → b ≡ false → (a && b) ≡ false
      and_no true b e = e
      and_no false b e = refl

      not_destination : (part : Mount ℕ) → Among part (rest_of parts) → is_destination nat_eq tree part.number ≡ false
      not_destination part m =
          search (arith, common_steps, false_from_ne_true, true≢false, and_parts, among-from_filter, eq-eqb, eqb-true)

      there : (b : Bool) → it.moves ≡ b
          → Among mount (added_mounts b (copies_at nat_eq base new tree parts destination)) → IsAdded mount
      there true e m = absurd m
      there false e m = added_at destination (inl refl) mount m
          (ap (λ b. b && is_destination nat_eq tree destination.number) e)

  copy_placed : (mount : Mount ℕ) → IsCopy mount
      → (n : ℕ) × (mount.namespace ≡ Some n) × (is_own_namespace nat_eq world names n ≡ false)
  copy_placed mount copy =
      let at = other_placed copy.0 (part_other copy.0 copy.1) in
      (at.0, ap (λ (m : Mount ℕ). m.namespace) copy.4 ∙ at.1, at.2)

  of_members : (location : Location ℕ) → Among location (locations theirs) → Among location (all_locations world)
  of_members = among-flat_map_filter locations_of (is_member_task names) world.tasks

  roots_located : (location : Location ℕ) → Among location (roots_and_directories theirs)
      → Among location (locations theirs)
  roots_located location m =
      let of = among-from_flat_map (λ (t : Task ℕ). t.root ∷ t.directory ∷ []) theirs location m in
      among-flat_map locations_of theirs of.0 location of.1
      (⊎_elim (λ root. inl root) (λ rest. ⊎_elim (λ directory. inr (inl directory)) (λ none. absurd none) rest) of.2)

  new_not_located : (places : List (Location ℕ))
      → ((location : Location ℕ) → Among location places → Among location (all_locations world))
      → (mount : Mount ℕ) → IsAdded mount → is_at nat_eq places mount ≡ false
  new_not_located places all mount added =
      none_from_among (λ (l : Location ℕ). nat_eq l.mount mount.number) places (λ l m.
      false_from_ne_true (nat_eq l.mount mount.number) (λ e.
      let there = located_there it.apart l (all l m) in
      let number = added.1 in
      number_not_new world fresh it.serves there.0 number.0 there.1
      (sym (eqb-true l.mount there.0.number there.2) ∙ eqb-true l.mount mount.number e ∙ number.1)))

  copy_not_kept : (mount : Mount ℕ) → IsAdded mount → kept mount ≡ None
  copy_not_kept mount copy =
      let at = copy_placed mount copy.0 in
      ap (λ b. cond (b || is_at nat_eq (roots_and_directories theirs) mount) (Some mount)
      (when (is_at nat_eq (locations theirs) mount) (seen_by_descriptor mount)))
      (ap (holds_of (is_own_namespace nat_eq world names)) at.1 ∙ at.2)
      ∙ ap (λ b. cond b (Some mount) (when (is_at nat_eq (locations theirs) mount) (seen_by_descriptor mount)))
      (new_not_located (roots_and_directories theirs) (λ l m. of_members l (roots_located l m)) mount copy)
      ∙ ap (λ b. when b (seen_by_descriptor mount)) (new_not_located (locations theirs) of_members mount copy)

  -- A mount that stood at the location of a receiver is one of others, and keeps all but its mount point.
  abbrev pushed : Mount ℕ → Mount ℕ
  pushed mount = moved_onto_copy nat_eq base new tree parts mount

  -- what stands at the location of a receiver is in a namespace of others
  stood_in_other : (mount part : Mount ℕ) → Among mount world.mounts
      → receiver_stood_on nat_eq tree parts mount ≡ Some part
      → (n : ℕ) × (mount.namespace ≡ Some n) × (is_own_namespace nat_eq world names n ≡ false)
  stood_in_other mount part m e =
      let test : Mount ℕ → Bool =
      λ (p : Mount ℕ). stands_at nat_eq (record { mount = p.number; node = it.place.node }) mount in
      let among = part_other part (inr (found_among test (rest_of parts) part e)) in
      let at = other_placed part among in
      let point : mount.mount_point ≡ Some (record { mount = part.number; node = it.place.node }) =
      stands_there (record { mount = part.number; node = it.place.node }) mount
      (found_passes test (rest_of parts) part e) in (
        at.0,
        sym (ap (λ (x : Mount ℕ). x.namespace) (found_itself world.mounts it.apart.is.mounts.one_number mount m))
            ∙ namespace_below world mount.number (record { mount = part.number; node = it.place.node })
            (among_from_all (λ (x : Mount ℕ). Stands nat_eq world x.number) world.mounts it.apart.is.mounts.standing
            mount
            m)
            (ap (λ (x : Mount ℕ). x.mount_point) (found_itself world.mounts it.apart.is.mounts.one_number mount m)
            ∙ point)
            ∙ ap (λ (x : Mount ℕ). x.namespace)
            (found_itself world.mounts it.apart.is.mounts.one_number part (other_there part among)) ∙ at.1,
        at.2,
      )

  pushed_value : {B : Type 0} (value : Mount ℕ → B)
      → ((mount : Mount ℕ) (at : Option (Location ℕ)) → value (record mount { mount_point = at }) ≡ value mount)
      → (mount : Mount ℕ) → value (pushed mount) ≡ value mount
  pushed_value value same mount = grind (arith, common_steps)

  -- A mount that moves keeps its number, and has the namespace of its destination, which is its own.
  abbrev put : Mount ℕ → Mount ℕ → Mount ℕ
  put old mount = replaced_if_same nat_eq mount old

  abbrev relocated : Bool → Mount ℕ → Mount ℕ
  relocated true mount = folded put mount (copies_at nat_eq base new tree parts destination)
  relocated false mount = mount

  abbrev change : Mount ℕ → Mount ℕ
  change mount = pushed (relocated it.moves mount)

  put_is : (mount : Mount ℕ) (list : List (Mount ℕ)) → (folded put mount list ≡ mount)
      ⊎ ((one : Mount ℕ) × Among one list × (folded put mount list ≡ one) × (one.number ≡ mount.number))
  put_is mount [] = inl refl
  put_is mount (first ∷ rest) = elim (cases_Bool (nat_eq first.number mount.number)) [
    | inl e ↦ let now : put mount first ≡ first = ap (λ b. cond b first mount) e in
        let same : first.number ≡ mount.number = eqb-true first.number mount.number e in
        ⊎_elim (λ stays. inr (first, inl refl, stays ∙ now, same))
        (λ one. inr (one.0, inr one.1, one.2, one.3 ∙ ap (λ (x : Mount ℕ). x.number) now ∙ same)) (put_is
        (put mount first) rest)
    | inr e ↦ let now : put mount first ≡ mount = ap (λ b. cond b first mount) e in
        ⊎_elim (λ stays. inl (stays ∙ now))
        (λ one. inr (one.0, inr one.1, one.2, one.3 ∙ ap (λ (x : Mount ℕ). x.number) now)) (put_is
        (put mount first) rest)
  ]

  -- where a mount it.moves, it is one of those that are attached
  abbrev Moves : Bool → Mount ℕ → Type 0
  Moves b mount = Among mount it.mounts × (it.moves ≡ true) × (relocated b mount ≡ copied destination mount)

  moved_number : it.moves ≡ true → (origin : Mount ℕ) → (copied destination origin).number ≡ origin.number
  moved_number e origin = ap (λ b. cond b origin.number (new.copy destination.number origin.number))
      (ap (λ b. b && nat_eq destination.number it.place.mount) e
      ∙ eq-eqb destination.number it.place.mount (number-mount_in world.mounts it.place.mount))

  relocated_is : (mount : Mount ℕ) → Among mount world.mounts → (b : Bool) → it.moves ≡ b
      → (relocated b mount ≡ mount) ⊎ Moves b mount
  relocated_is mount there false e = inl refl
  relocated_is mount there true e = ⊎_elim inl (λ one. inr (by one.0 one.2 one.3 (at_part destination one.0 one.1)))
      (put_is mount (copies_at nat_eq base new tree parts destination))
    where
      by : (one : Mount ℕ) → relocated true mount ≡ one → one.number ≡ mount.number
          → (origin : Mount ℕ) × Among origin it.mounts × (one ≡ copied destination origin) → Moves true mount
      by one now number of =
          let is = it.in_place e of.0 of.1 in
          let kept_number : one.number ≡ of.0.number = ap (λ (x : Mount ℕ). x.number) of.2 ∙ moved_number e of.0 in
          let same : of.0 ≡ mount = sym (found_itself world.mounts it.apart.is.mounts.one_number of.0 is.0)
          ∙ ap (mount_numbered nat_eq world) (sym kept_number ∙ number)
          ∙ found_itself world.mounts it.apart.is.mounts.one_number mount there in
          (subst (λ (x : Mount ℕ). Among x it.mounts) same of.1, e, now ∙ of.2 ∙ ap (copied destination) same)

  relocated_plain : (mount : Mount ℕ) → Among mount world.mounts → (at : Option (Location ℕ)) × (kind : Propagation ℕ)
      × (relocated it.moves mount ≡ record mount { mount_point = at; propagation = kind })
  relocated_plain mount there = ⊎_elim (λ stays. (mount.mount_point, mount.propagation, stays)) (λ goes.
      let is = it.in_place goes.1 mount goes.0 in (
        (copied destination mount).mount_point,
        (copied destination mount).propagation,
        goes.2 ∙ ap (λ n. record mount {
          number = n;
          namespace = destination.namespace;
          mount_point = (copied destination mount).mount_point;
          propagation = (copied destination mount).propagation;
        }) (moved_number goes.1 mount) ∙ ap (λ o. record mount {
          namespace = o;
          mount_point = (copied destination mount).mount_point;
          propagation = (copied destination mount).propagation;
        }) (it.placed ∙ sym is.1),
      )) (relocated_is mount there it.moves refl)

  change_value : {B : Type 0} (value : Mount ℕ → B)
      → ((mount : Mount ℕ) (at : Option (Location ℕ)) (kind : Propagation ℕ)
      → value (record mount { mount_point = at; propagation = kind }) ≡ value mount)
      → (mount : Mount ℕ) → Among mount world.mounts → value (change mount) ≡ value mount
  change_value value same mount there =
      let plain = relocated_plain mount there in
      grind (arith, common_steps, pushed_value)

  change_shape : (mount : Mount ℕ) → Among mount world.mounts → IsReshaped mount (change mount)
  change_shape mount there =
      let plain = relocated_plain mount there in
      reshaped_twice mount (relocated it.moves mount) (change mount)
      (mount.namespace, plain.0, plain.1, plain.2, inl refl)
      (by (relocated it.moves mount) (receiver_stood_on nat_eq tree parts (relocated it.moves mount)))
    where
      by : (x : Mount ℕ) (o : Option (Mount ℕ)) → IsReshaped x (pushed_onto nat_eq base new tree parts x o)
      by x None = (x.namespace, x.mount_point, x.propagation, refl, inl refl)
      by x (Some part) = grind (arith, common_steps)

  -- a mount that is not of others stays as it was
  stays : (mount : Mount ℕ) → Among mount world.mounts
      → ((n : ℕ) → mount.namespace ≡ Some n → is_own_namespace nat_eq world names n ≡ false → ⊥) → change mount ≡ mount
  stays mount there none = ap pushed (⊎_elim (λ same. same)
      (λ goes. absurd (none it.namespace (it.in_place goes.1 mount goes.0).1 it.outside))
      (relocated_is mount there it.moves refl)) ∙ by (receiver_stood_on nat_eq tree parts mount) refl
    where
      by : (o : Option (Mount ℕ)) → receiver_stood_on nat_eq tree parts mount ≡ o
          → pushed_onto nat_eq base new tree parts mount o ≡ mount
      by None e = refl
      by (Some part) e = let at = stood_in_other mount part there e in absurd (none at.0 at.1 at.2)

  change_kept : (mount : Mount ℕ) → Among mount world.mounts → kept (change mount) ≡ kept mount
  change_kept mount there = reshaped_kept world names so_far mount there (change mount) (change_shape mount there)
      (λ own. stays mount there (λ n e other. true≢false
      (sym (among-from_filter (is_own_mount nat_eq world names) world.mounts mount own).1
      ∙ ap (holds_of (is_own_namespace nat_eq world names)) e ∙ other)))
      (λ nowhere. stays mount there (λ n e other. none_is_some n (sym nowhere ∙ e)))

  left_mounts : left.mounts ≡ map change world.mounts ++ all_copies
  left_mounts = ap (λ ms. map pushed ms ++ added_mounts it.moves (copies_at nat_eq base new tree parts destination)
      ++ flat_map (copies_at nat_eq base new tree parts) (rest_of parts)) (by it.moves)
      ∙ ap (λ ms. ms ++ added_mounts it.moves (copies_at nat_eq base new tree parts destination)
      ++ flat_map (copies_at nat_eq base new tree parts) (rest_of parts))
      (map_twice pushed (relocated it.moves) world.mounts)
      ∙ append_assoc (map change world.mounts)
      (added_mounts it.moves (copies_at nat_eq base new tree parts destination))
      (flat_map (copies_at nat_eq base new tree parts) (rest_of parts))
    where
      put_all : (list given : List (Mount ℕ))
          → folded (with_mount nat_eq) given list ≡ map (λ (x : Mount ℕ). folded put x list) given
      put_all [] given = sym (map_same (λ (x : Mount ℕ). x) given (λ x m. refl))
      put_all (first ∷ rest) given = put_all rest (with_mount nat_eq given first)
          ∙ map_twice (λ (x : Mount ℕ). folded put x rest) (λ (x : Mount ℕ). put x first) given

      by : (b : Bool) → with_moved_mounts nat_eq b world.mounts (copies_at nat_eq base new tree parts destination)
          ≡ map (relocated b) world.mounts
      by true = put_all (copies_at nat_eq base new tree parts destination) world.mounts
      by false = sym (map_same (λ (x : Mount ℕ). x) world.mounts (λ x m. refl))

  mounts_kept : filter_map kept left.mounts ≡ filter_map kept world.mounts
  mounts_kept = ap (filter_map kept) left_mounts ∙ filter_map-append kept (map change world.mounts) all_copies
      ∙ ap (λ l. filter_map kept (map change world.mounts) ++ l)
      (none_kept kept all_copies (λ mount m. copy_not_kept mount (copies_are mount m)))
      ∙ append-nil (filter_map kept (map change world.mounts)) ∙ filter_map_map kept change world.mounts
      ∙ filter_map_same (λ mount. kept (change mount)) kept world.mounts change_kept

  -- A mount of others was one, or is a copy.
  others_from : (other : Mount ℕ) → Among other (other_mounts nat_eq left names)
      → ((old : Mount ℕ) × Among old (other_mounts nat_eq world names) × (other ≡ change old)) ⊎ IsAdded other
  others_from other m =
      let out = among-from_filter (λ (x : Mount ℕ). holds_of
      (λ n. not (is_own_namespace nat_eq world names n)) x.namespace) left.mounts other m in
      ⊎_elim (λ old. let from = among-from_map change world.mounts other old in
      inl (
        from.0,
        among-filter (λ (x : Mount ℕ). holds_of (λ n. not (is_own_namespace nat_eq world names n)) x.namespace)
            world.mounts from.0 from.1 (ap (holds_of (λ n. not (is_own_namespace nat_eq world names n)))
            (sym (change_value (λ (x : Mount ℕ). x.namespace) (λ x at kind. refl) from.0 from.1)
            ∙ ap (λ (x : Mount ℕ). x.namespace) (sym from.2)) ∙ out.1),
        from.2,
      )) (λ new_one. inr (copies_are other new_one))
      (among-append (map change world.mounts) all_copies other (subst (Among other) left_mounts out.0))

  -- with the type that it had, or that of a copy
  changed_foreign : (old : Mount ℕ) → Among old (other_mounts nat_eq world names) → (group : ℕ)
      → HearsGroup so_far left (change old).propagation group → IsForeign group
  changed_foreign old m group how =
      let unpushed : HearsGroup so_far left (relocated it.moves old).propagation group =
      subst (λ kind. HearsGroup so_far left kind group)
      (pushed_value (λ (x : Mount ℕ). x.propagation) (λ x at. refl) (relocated it.moves old)) how in
      ⊎_elim (λ same. old_foreign it.attaching old m group
      (subst (λ (x : Mount ℕ). HearsGroup so_far left x.propagation group) same unpushed))
      (λ goes. copy_foreign it.attaching
      (relocated it.moves old) (destination, inl refl, old, goes.0, goes.2) group unpushed)
      (relocated_is old (other_there old m) it.moves refl)

  sees : SeesTheSame world left names
  sees = search (arith, common_steps, mounts_kept, own_master_stays)

  own_masters : (own : Mount ℕ) → Among own (own_mounts nat_eq world names)
      → master_of left own.propagation ≡ master_of world own.propagation
  own_masters own m = by own.propagation refl
    where
      by : (kind : Propagation ℕ) → own.propagation ≡ kind → master_of left kind ≡ master_of world kind
      by (Shared g) e =
          own_master_stays it.attaching g
          (any_from_among (is_member_of nat_eq g) (own_mounts nat_eq world names) own m
          (ap (λ kind. holds_of (nat_eq g) (group_of kind)) e ∙ eq-eqb g g refl))
      by (Slave g) e = refl
      by Private e = refl
      by Unbindable e = refl

  events : shares_no_events nat_eq left names ≡ true
  events = events_stay_apart so_far left (own_mounts_same world left names sees) own_masters
      (λ other m group how. ⊎_elim (λ old. changed_foreign old.0 old.1 group
      (subst (λ (x : Mount ℕ). HearsGroup so_far left x.propagation group) old.2 how))
      (λ copy. copy_foreign it.attaching other copy.0 group
      how) (others_from other m))

  -- What is found at a location is as it was, but for where it stands, and for its type.
  found_left : {B : Type 0} (value : Mount ℕ → B) → ((mount : Mount ℕ) (at : Option (Location ℕ)) (kind : Propagation ℕ)
      → value (record mount { mount_point = at; propagation = kind }) ≡ value mount)
      → (location : Location ℕ) → Among location (all_locations world)
      → value (mount_at nat_eq left location) ≡ value (mount_at nat_eq world location)
  found_left value same location m =
      let there = located_there it.apart location m in
      ap (λ ms. value (mount_in nat_eq ms location.mount)) left_mounts
      ∙ ap value (found_first location.mount (map change world.mounts) all_copies (change there.0)
      (among-map change world.mounts there.0 there.1)
      (ap (nat_eq location.mount) (change_value (λ (x : Mount ℕ). x.number) (λ x at kind. refl) there.0 there.1)
      ∙ there.2)) ∙ found_changed value (change_value value same) location.mount world.mounts (λ x m. m)
    where
      found_changed : {C : Type 0} (value : Mount ℕ → C)
          → ((mount : Mount ℕ) → Among mount world.mounts → value (change mount) ≡ value mount)
          → (number : ℕ) → (list : List (Mount ℕ)) → ((mount : Mount ℕ) → Among mount list → Among mount world.mounts)
          → value (mount_in nat_eq (map change list) number) ≡ value (mount_in nat_eq list number)
      found_changed value same number [] all = refl
      found_changed value same number (mount ∷ rest) all =
          ap (λ n. value (unwrap_or (cond (nat_eq number n) (Some (change mount))
          (find (λ (x : Mount ℕ). nat_eq number x.number) (map change rest))) (no_mount number)))
          (change_value (λ (x : Mount ℕ). x.number) (λ x at kind. refl) mount (all mount (inl refl)))
          ∙ by (nat_eq number mount.number) (found_changed value same number rest (λ x m. all x (inr m)))
        where
          by : (b : Bool) → value (mount_in nat_eq (map change rest) number) ≡ value (mount_in nat_eq rest number)
              → value (unwrap_or (cond b (Some (change mount))
              (find (λ (x : Mount ℕ). nat_eq number x.number) (map change rest))) (no_mount number))
              ≡ value (unwrap_or (cond b (Some mount) (find (λ (x : Mount ℕ). nat_eq number x.number) rest))
              (no_mount number))
          by true later = same mount (all mount (inl refl))
          by false later = later

  of_outsiders : (location : Location ℕ) → Among location (locations (outsiders world names))
      → Among location (all_locations world)
  of_outsiders = among-flat_map_filter locations_of (λ t. not (is_member_task names t)) world.tasks

  fewer : (number : ℕ) → IsOfTheWorld world names number → no_outsider_on nat_eq world names number ≡ true
      → no_outsider_on nat_eq left names number ≡ true
  fewer number of alone =
      let parts_alone = and_parts (not (list_any (λ (mount : Mount ℕ). nat_eq number mount.filesystem)
      (other_mounts nat_eq world names)))
      (not (list_any (λ location. nat_eq number (mount_at nat_eq world location).filesystem)
      (locations (outsiders world names)))) alone in
      let none_shows : (other : Mount ℕ) → Among other (other_mounts nat_eq world names)
      → nat_eq number other.filesystem ≡ false =
      none_among (λ (mount : Mount ℕ). nat_eq number mount.filesystem) (other_mounts nat_eq world names)
      (not-true _ parts_alone.0) in
      and_from (not (list_any (λ (mount : Mount ℕ). nat_eq number mount.filesystem) (other_mounts nat_eq left names)))
      (not (list_any (λ location. nat_eq number (mount_at nat_eq left location).filesystem)
      (locations (outsiders world names))))
      (ap not (none_from_among (λ (mount : Mount ℕ). nat_eq number mount.filesystem) (other_mounts nat_eq left names)
      (λ other m. ⊎_elim (λ old. ap (nat_eq number) (ap (λ (x : Mount ℕ). x.filesystem) old.2
      ∙ change_value (λ (x : Mount ℕ). x.filesystem) (λ x at kind. refl) old.0 (other_there old.0 old.1))
      ∙ none_shows old.0 old.1) (λ copy. ⊎_elim
      (λ old. ap (nat_eq number) (ap (λ (x : Mount ℕ). x.filesystem) copy.0.4 ∙ old.3) ∙ none_shows old.0 old.1)
      (λ new_one. false_from_ne_true (nat_eq number other.filesystem)
      (λ e. not_of_the_world it.apart fresh it.serves number
      new_one.1 of (eqb-true number other.filesystem e ∙ ap (λ (x : Mount ℕ). x.filesystem) copy.0.4 ∙ new_one.2)))
      (it.origins copy.0.2 copy.0.3)) (others_from other m)))) (ap not (none_from_among
      (λ location. nat_eq number (mount_at nat_eq left location).filesystem) (locations (outsiders world names))
      (λ location m. ap (nat_eq number) (found_left (λ (x : Mount ℕ). x.filesystem) (λ x at kind. refl) location
      (of_outsiders location m)) ∙ none_among (λ location. nat_eq number (mount_at nat_eq world location).filesystem)
      (locations (outsiders world names)) (not-true _ parts_alone.1) location m)))

  pub attaching_leaves_apart : LeavesApart world left names []
  attaching_leaves_apart = record {
    sees = sees;
    others = record {
      tasks = it.apart.tasks;
      events = events;
      locations =
          list_all_from_among (λ location. not (is_own_mount nat_eq world names (mount_at nat_eq left location)))
          (locations (outsiders world names))
          (λ location m. ap (λ o. not (holds_of (is_own_namespace nat_eq world names) o))
          (found_left (λ (x : Mount ℕ). x.namespace) (λ x at kind. refl) location (of_outsiders location m))
          ∙ among_from_list_all (λ at. not (is_own_mount nat_eq world names (mount_at nat_eq world at)))
          (locations (outsiders world names)) it.apart.locations location m);
      free = free_with world left names it.more it.grown fewer it.none_there;
    };
    unraised = λ number m. refl;
  }
