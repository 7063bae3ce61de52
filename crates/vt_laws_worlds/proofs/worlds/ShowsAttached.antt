-- What mounts show, and where they stand, is there where a tree of mounts is attached.
use Rattle.std.proofs.Common.{◌≡◌, refl, sym, ap, subst, ◌∙◌, ◌⊎◌, inl, inr, ⊎_elim, ℕ, nat_eq, eqb-true, eq-eqb, Bool, true, false, flat_map, not, List, [], ◌∷◌, ◌++◌, ◌&&◌, Option, Some, None, is_some, length, map, option_map, if◌then◌else◌, unwrap_or}
use Rattle.vt_spec.proofs.Common.{Among, Copies, Graft, Location, Mount, Twig, World, added_mounts, among-append, among-append_left, among-append_right, among-flat_map, among-folded_mounts, among-from_filter, among-from_flat_map, among-from_map, among-map, and_from, and_parts, attached_by, child_at, copies_at, copy_at, copy_mount_point, copy_number, group_of, is_among_numbers, is_directory_at, is_directory_node, is_top, mount_at, mount_numbered, mount_point_on_copy, number-mount_in, pushed_onto, receiver_stood_on, receivers_of, rest_of, root_of, same_Some, takes_part, top_of_copies, twig_of, with_moved_mounts}
use Rattle.vt_spec.specs.Machine.Attach.{reaches}
use Rattle.vt_laws_mounts.specs.Mounts.Attaching.{OneNumberAMount, is_mount, numbers_of}
use Rattle.vt_laws_mounts.proofs.attached.Attaching.{taker_there}
use Rattle.vt_laws_mounts.proofs.mounts.MountsAttached.{graft, moved_ones, parts, push}
use Rattle.vt_laws_mounts.proofs.mounts.MountsFound.{found_in}
use Rattle.vt_laws_mounts.proofs.mounts.MountsReplaced.{found_itself}
use Rattle.vt_laws_worlds.proofs.worlds.Roots.{last_has}
use Rattle.vt_laws_worlds.proofs.worlds.Seen.{KeepsWhatIsSeen}
use Rattle.vt_laws_worlds.proofs.worlds.Shows.{AllShow, IsPlace, ShowsWell, place_after, shows_after}
use Rattle.vt_laws_trees.specs.Trees.Settling.{inode_in}

-- the roots of mounts of a list are places, and so is the topmost over one of them
module _ (world : World ℕ) (mounts : List (Mount ℕ))
    (roots : (mount : Mount ℕ) → Among mount mounts → IsPlace world (root_of mount)) where
  over_step : (a b : Location ℕ) → IsPlace world a → option_map root_of (child_at nat_eq mounts a) ≡ Some b
      → IsPlace world b
  over_step a b at e = by _ refl e
    where
      by : (o : Option (Mount ℕ)) → child_at nat_eq mounts a ≡ o → option_map root_of o ≡ Some b → IsPlace world b
      by None none f = cc
      by (Some child) found f = subst (IsPlace world) (cc) (roots child (found_in _ mounts child found).0)

pub top_is_place : (world : World ℕ) (mounts : List (Mount ℕ))
    → ((mount : Mount ℕ) → Among mount mounts → IsPlace world (root_of mount))
    → (place : Location ℕ) → IsPlace world place → IsPlace world (top_of_copies nat_eq mounts place)
top_is_place world [] roots place at = at
top_is_place world (first ∷ rest) roots place at =
    last_has (IsPlace world) (λ here. option_map root_of (child_at nat_eq (first ∷ rest) here))
    (over_step world (first ∷ rest) roots) (length (first ∷ rest)) (root_of first) (root_of first)
    (roots first (inl refl))

module _ (world : World ℕ) (new : Copies ℕ) (place : Location ℕ) (moves : Bool) (mounts : List (Mount ℕ))
    (seen : KeepsWhatIsSeen world (attached_by nat_eq world new place moves mounts))
    (shows : AllShow world) (at_place : IsPlace world place) (one : OneNumberAMount world.mounts)
    (one_after : OneNumberAMount (attached_by nat_eq world new place moves mounts).mounts)
    (roots : (origin : Mount ℕ) → Among origin mounts
    → is_directory_node (inode_in world origin.filesystem origin.root) ≡ true)
    (parents : (origin : Mount ℕ) → Among origin mounts
    → is_top nat_eq (graft world new place moves mounts) origin.number ≡ false
    → (at : Location ℕ) → origin.mount_point ≡ Some at → (on : Mount ℕ) × Among on mounts × (on.number ≡ at.mount)
    × (is_directory_node (inode_in world on.filesystem at.node) ≡ true))
    (moving : moves ≡ true → (origin : Mount ℕ) → Among origin mounts → (is_mount world origin.number ≡ true)
    × ((mount_numbered nat_eq world origin.number).filesystem ≡ origin.filesystem)) where
  abbrev after : World ℕ
  after = attached_by nat_eq world new place moves mounts

  abbrev tree : Graft ℕ
  tree = graft world new place moves mounts

  abbrev all_parts : List (Mount ℕ)
  all_parts = parts world new place moves mounts

  abbrev destination : Mount ℕ
  destination = mount_at nat_eq world place

  abbrev twig : Mount ℕ → Twig ℕ
  twig = twig_of new (group_of destination.propagation)

  abbrev made : Mount ℕ → Twig ℕ → Mount ℕ
  made = copy_at nat_eq world new tree all_parts

  abbrev copies : Mount ℕ → List (Mount ℕ)
  copies = copies_at nat_eq world new tree all_parts

  abbrev copy : Mount ℕ → Mount ℕ → Mount ℕ
  copy part origin = made part (twig origin)

  abbrev pushed : List (Mount ℕ)
  pushed = map (push world new place moves mounts) (moved_ones world new place moves mounts)

  abbrev added : List (Mount ℕ)
  added = added_mounts moves (copies destination)

  copy_among : (part origin : Mount ℕ) → Among origin mounts → Among (copy part origin) (copies part)
  copy_among part origin m = among-map _ _ _ (among-map twig mounts origin m)

  copied_from : (part mount : Mount ℕ) → Among mount (copies part)
      → (origin : Mount ℕ) × Among origin mounts × (mount ≡ copy part origin)
  copied_from part mount m =
      let from = among-from_map _ _ mount m in
      let origin = among-from_map twig mounts from.0 from.1 in
      (origin.0, origin.1, cc)

  -- a copy that is new is in the list, and found there
  copy_after : (part : Mount ℕ) → Among part (rest_of all_parts) ⊎ ((part ≡ destination) × (moves ≡ false))
      → (mount : Mount ℕ) → Among mount (copies part) → Among mount after.mounts
  copy_after part (inl m) mount n = among-append_right (pushed ++ added) (flat_map copies (rest_of all_parts)) mount
      (among-flat_map copies _ part mount m n)
  copy_after part (inr here) mount n = among-append_left _ _ mount (among-append_right pushed added mount
      (subst (λ b. Among mount (added_mounts b (copies destination))) (sym here.1)
      (subst (λ p. Among mount (copies p)) here.0 n)))

  listed_after : (mount : Mount ℕ) → Among mount after.mounts → is_mount after mount.number ≡ true
  listed_after mount m = is_among_numbers (numbers_of after.mounts) mount.number (among-map _ _ mount m)

  -- what a copy, or what moved, shows
  copy_view : (part : Mount ℕ) → Among part all_parts → (origin : Mount ℕ) → Among origin mounts
      → (is_mount after (copy_number nat_eq new tree part.number origin.number) ≡ true) × ((mount_numbered nat_eq after
      (copy_number nat_eq new tree part.number origin.number)).filesystem ≡ origin.filesystem)
  copy_view part m origin n = ⊎_elim (λ here. at_destination moves refl here) (λ rest. as_new (inl rest)) m
    where
      as_new : Among part (rest_of all_parts) ⊎ ((part ≡ destination) × (moves ≡ false))
          → (is_mount after (copy_number nat_eq new tree part.number origin.number) ≡ true)
          × ((mount_numbered nat_eq after
          (copy_number nat_eq new tree part.number origin.number)).filesystem ≡ origin.filesystem)
      as_new how =
          let there = copy_after part how (copy part origin) (copy_among part origin n) in (
            listed_after (copy part origin) there,
            ap (λ (x : Mount ℕ). x.filesystem) (found_itself after.mounts one_after (copy part origin) there),
          )

      at_destination : (b : Bool) → moves ≡ b → part ≡ destination
          → (is_mount after (copy_number nat_eq new tree part.number origin.number) ≡ true)
          × ((mount_numbered nat_eq after
          (copy_number nat_eq new tree part.number origin.number)).filesystem ≡ origin.filesystem)
      at_destination false still here = as_new (inr (here, still))
      at_destination true moved here =
          let old = moving moved origin n in
          let number : copy_number nat_eq new tree part.number origin.number ≡ origin.number =
          ap (λ b. if b then origin.number else new.copy part.number origin.number)
          (and_from moves (nat_eq part.number place.mount) moved
          (eq-eqb part.number place.mount (ap (λ (x : Mount ℕ). x.number) here
          ∙ number-mount_in world.mounts place.mount))) in
          subst (λ k. (is_mount after k ≡ true) × ((mount_numbered nat_eq after k).filesystem ≡ origin.filesystem))
          (sym number) (seen.listed origin.number old.0, (seen.views origin.number old.0).filesystem ∙ old.1)

  -- the place seen through a part
  part_place : (part : Mount ℕ) → Among part all_parts
      → IsPlace after (record { mount = part.number; node = place.node })
  part_place part m = place_after world after seen _ (⊎_elim here rest m)
    where
      through : is_mount world part.number ≡ true
          → (mount_numbered nat_eq world part.number).filesystem ≡ destination.filesystem
          → IsPlace world (record { mount = part.number; node = place.node })
      through listed same = record {
        listed = listed;
        directory = ap (λ f. is_directory_node (inode_in world f place.node)) same ∙ at_place.directory;
      }

      here : part ≡ destination → IsPlace world (record { mount = part.number; node = place.node })
      here e =
          let number : part.number ≡ place.mount = cc (number-mount_in world.mounts place.mount) in
          through (cc) (cc)

      rest : Among part (rest_of all_parts) → IsPlace world (record { mount = part.number; node = place.node })
      rest n =
          let there = taker_there world place part n in
          let takes = (among-from_filter (takes_part nat_eq world place)
          (receivers_of nat_eq world destination) part n).1 in
          let before_reach = (and_parts (not (nat_eq place.mount part.number) && is_some part.namespace
          && nat_eq destination.filesystem part.filesystem) (reaches nat_eq world place.node part) takes).0 in
          let same = (and_parts (not (nat_eq place.mount part.number) && is_some part.namespace)
          (nat_eq destination.filesystem part.filesystem) before_reach).1 in
          through (is_among_numbers (numbers_of world.mounts) part.number (among-map _ _ part there))
          (cc (found_itself world.mounts one part there, eqb-true destination.filesystem part.filesystem same))

  copy_shows : (part : Mount ℕ) → Among part all_parts → (origin : Mount ℕ) → Among origin mounts
      → ShowsWell after (copy part origin)
  copy_shows part m origin n = record {
    root = roots origin n;
    mount_point = λ at e. subst (IsPlace after) (same_Some (copy_mount_point nat_eq new tree part.number origin) at e)
        (by (is_top nat_eq tree origin.number) refl origin.mount_point refl);
  }
    where
      by : (b : Bool) → is_top nat_eq tree origin.number ≡ b → (o : Option (Location ℕ)) → origin.mount_point ≡ o
          → IsPlace after (if b then record { mount = part.number; node = place.node }
          else unwrap_or (option_map (mount_point_on_copy nat_eq new tree part.number) o) place)
      by true top o at = part_place part m
      by false below None at = place_after world after seen place at_place
      by false below (Some on) at =
          let parent = parents origin n below on at in
          let view = copy_view part m parent.0 parent.1 in
          let number : copy_number nat_eq new tree part.number parent.0.number
          ≡ copy_number nat_eq new tree part.number on.mount = ap (copy_number nat_eq new tree part.number) parent.2 in
          record {
            listed = subst (λ k. is_mount after k ≡ true) number view.0;
            directory = ap (λ f. is_directory_node (inode_in after f on.node))
                (ap (λ k. (mount_numbered nat_eq after k).filesystem) (sym number) ∙ view.1) ∙ parent.3;
          }

  -- what stood at a receiver goes onto a copy
  top_place : (part : Mount ℕ) → Among part (rest_of all_parts)
      → IsPlace after (top_of_copies nat_eq (copies part) place)
  top_place part m = top_is_place after _ (λ mount n.
      let from = copied_from part mount n in
      let there = copy_after part (inl m) mount n in
      let directory : is_directory_at nat_eq after (root_of mount) ≡ true = cc (
        found_itself after.mounts one_after mount there,
        (subst (ShowsWell after) (sym from.2) (copy_shows part (inr m) from.0 from.1)).root,
      ) in
      record { listed = listed_after mount there; directory = directory })
      place (place_after world after seen place at_place)

  push_shows : (mount : Mount ℕ) → ShowsWell after mount → ShowsWell after (push world new place moves mounts mount)
  push_shows mount well = by _ refl
    where
      by : (o : Option (Mount ℕ)) → receiver_stood_on nat_eq tree all_parts mount ≡ o
          → ShowsWell after (pushed_onto nat_eq world new tree all_parts mount o)
      by None e = well
      by (Some part) e =
          let found = found_in _ _ part e in
          record {
            root = well.root;
            mount_point = λ at f. subst (IsPlace after) (cc) (top_place part found.0);
          }

  arrived_shows : (mount : Mount ℕ) → Among mount (copies destination) → ShowsWell after mount
  arrived_shows mount m =
      let from = copied_from destination mount m in
      subst (ShowsWell after) (sym from.2) (copy_shows destination (inl refl) from.0 from.1)

  old_shows : (mount : Mount ℕ) → Among mount world.mounts → ShowsWell after mount
  old_shows mount m = shows_after world after seen mount (shows mount m)

  moved_shows : (b : Bool) (mount : Mount ℕ) → Among mount
      (with_moved_mounts nat_eq b world.mounts (copies destination)) → ShowsWell after mount
  moved_shows true mount m = ⊎_elim (old_shows mount) (arrived_shows mount)
      (among-folded_mounts world.mounts (copies destination) mount m)
  moved_shows false mount m = old_shows mount m

  added_shows : (b : Bool) (mount : Mount ℕ) → Among mount (added_mounts b (copies destination)) → ShowsWell after mount
  added_shows true mount m = absurd m
  added_shows false mount m = arrived_shows mount m

  pub attached_show : AllShow after
  attached_show mount m = ⊎_elim (λ front. ⊎_elim (λ old.
      let from = among-from_map _ _ mount old in
      subst (ShowsWell after) (sym from.2) (push_shows from.0 (moved_shows moves from.0 from.1)))
      (added_shows moves mount) (among-append pushed added mount front)) (λ later.
      let part = among-from_flat_map copies _ mount later in
      let from = copied_from part.0 mount part.2 in
      subst (ShowsWell after) (sym from.2) (copy_shows part.0 (inr part.1) from.0 from.1))
      (among-append (pushed ++ added) (flat_map copies (rest_of all_parts)) mount m)
