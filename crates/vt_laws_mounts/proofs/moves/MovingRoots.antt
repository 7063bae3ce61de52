-- What is attached has a place, and is in the namespace of the mount that it is attached on.
use Rattle.std.proofs.Common.{arith, ◌≡◌, refl, sym, ap, subst, ◌∙◌, true, false, suc, nat_eq, ℕ, Bool, List, None, Option, Some, [], add-zero, cond, filter, inl, inr, is_some, length, map, not, ⊎_elim, ◌&&◌, ◌++◌, ◌+◌, ◌∷◌, zero, eqb-true, ◌⊎◌, length-append, Contains}
use Rattle.vt_spec.proofs.Common.{Among, Copies, Graft, Location, Mount, World, added_mounts, all_from_among, among-append, among-folded_mounts, among-from_filter, among-from_flat_map, among-from_map, attached_by, bind_tree, common_steps, contains_from_among, copies_at, filter-append, filter_here, filter_skip, folded, found_or_none, holds_of, is_root_mount, mount_at, mount_in, moved_tree, new_mount, parts_of, pushed_onto, receiver_stood_on, replaced_if_same, rest_of, stands_at, tree_among, tree_from, with_mount, with_new_filesystem}
use Rattle.vt_laws_mounts.proofs.attached.Attaching.{taker_there}
use Rattle.vt_laws_mounts.proofs.mounts.MountsAttached.{arrives, arriving, graft, in_front, moved_ones, others, push, push_keeps, supplied}
use Rattle.vt_laws_mounts.proofs.mounts.MountsFound.{found_in, placed_among}
use Rattle.vt_laws_mounts.proofs.mounts.MountsPlaces.{stands_there}
use Rattle.vt_laws_mounts.proofs.mounts.MountsReplaced.{found_itself, replaced_elsewhere, replaced_there}
use Rattle.vt_laws_mounts.specs.Mounts.Moving.{BindsKeepRootMounts, BindsStayInNamespaces, MovesKeepRootMounts, MovesStayInNamespaces, NewMountsKeepRootMounts, NewMountsStayInNamespaces, StaysInNamespaces}

-- the root mounts of a namespace, and whether a mount is one
abbrev count : ℕ → List (Mount ℕ) → ℕ
count namespace mounts = length (filter (is_root_mount nat_eq)
    (filter (λ (mount : Mount ℕ). holds_of (nat_eq namespace) mount.namespace) mounts))

abbrev is_root_in : ℕ → Mount ℕ → Bool
is_root_in namespace mount = is_root_mount nat_eq mount && holds_of (nat_eq namespace) mount.namespace

module _ (namespace : ℕ) where
  abbrev is_in : Mount ℕ → Bool
  is_in mount = holds_of (nat_eq namespace) mount.namespace

  count_step : (x : Mount ℕ) (xs : List (Mount ℕ))
      → count namespace (x ∷ xs) ≡ cond (is_root_in namespace x) (suc (count namespace xs)) (count namespace xs)
  count_step x xs = grind (arith, common_steps, count, filter_skip, filter_here)

  count_map : (f : Mount ℕ → Mount ℕ) (xs : List (Mount ℕ))
      → ((x : Mount ℕ) → Among x xs → is_root_in namespace (f x) ≡ is_root_in namespace x)
      → count namespace (map f xs) ≡ count namespace xs
  count_map f [] same = refl
  count_map f (x ∷ xs) same = grind (arith, common_steps, count_step, count_map f xs)

  count_none : (xs : List (Mount ℕ)) → ((x : Mount ℕ) → Among x xs → is_root_in namespace x ≡ false)
      → count namespace xs ≡ 0
  count_none [] all = refl
  count_none (x ∷ xs) all = cc (count_step x xs, all x (inl refl), count_none xs (λ y m. all y (inr m)))

  count_append : (xs ys : List (Mount ℕ)) → count namespace (xs ++ ys) ≡ count namespace xs + count namespace ys
  count_append xs ys = ap (λ list. length (filter (is_root_mount nat_eq) list)) (filter-append is_in xs ys)
      ∙ ap length (filter-append (is_root_mount nat_eq) (filter is_in xs) (filter is_in ys))
      ∙ length-append (filter (is_root_mount nat_eq) (filter is_in xs))
      (filter (is_root_mount nat_eq) (filter is_in ys))

  -- one with a place is none
  placed_no_root : (mount : Mount ℕ) → is_some mount.mount_point ≡ true → is_root_in namespace mount ≡ false
  placed_no_root mount e = ap (λ b. not b && is_in mount) e

-- a mount of a world is in this namespace
abbrev pub HasOne : World ℕ → ℕ → Type 0
HasOne world namespace = (old : Mount ℕ) × Contains world.mounts old × (old.namespace ≡ Some namespace)

module _ (world : World ℕ) (new : Copies ℕ) (place : Location ℕ) (moves : Bool) (mounts : List (Mount ℕ)) where
  abbrev after : World ℕ
  after = attached_by nat_eq world new place moves mounts

  abbrev tree : Graft ℕ
  tree = graft world new place moves mounts

  abbrev parts : List (Mount ℕ)
  parts = parts_of nat_eq world place

  abbrev copies : Mount ℕ → List (Mount ℕ)
  copies = copies_at nat_eq world new tree parts

  abbrev destination : Mount ℕ
  destination = mount_at nat_eq world place

  abbrev pushing : Mount ℕ → Mount ℕ
  pushing = push world new place moves mounts

  abbrev left : List (Mount ℕ)
  left = moved_ones world new place moves mounts

  -- a copy has a place, and the namespace of its part
  copy_has : (part x : Mount ℕ) → Among x (copies part)
      → (is_some x.mount_point ≡ true) × (x.namespace ≡ part.namespace)
  copy_has part x m =
      let from = among-from_map _ _ x m in
      (ap (λ (y : Mount ℕ). is_some y.mount_point) from.2, ap (λ (y : Mount ℕ). y.namespace) from.2)

  added_has : (b : Bool) (x : Mount ℕ) → Among x (added_mounts b (copies destination)) → Among x (copies destination)
  added_has true x m = absurd m
  added_has false x m = m

  other_has : (x : Mount ℕ) → Among x (others world new place moves mounts)
      → (part : Mount ℕ) × Among part parts × Among x (copies part)
  other_has x m = ⊎_elim (λ l. (destination, inl refl, added_has moves x l)) (λ l. let from = among-from_flat_map copies
      _ x l in (from.0, inr from.1, from.2)) (among-append _ _ x m)

  pushed_alike : (mount : Mount ℕ) → is_some (pushing mount).mount_point ≡ is_some mount.mount_point
  pushed_alike mount = by _ refl
    where
      by : (part : Option (Mount ℕ)) → receiver_stood_on nat_eq tree parts mount ≡ part
          → is_some (pushing mount).mount_point ≡ is_some mount.mount_point
      by None e = ap (λ o. is_some (pushed_onto nat_eq world new tree parts mount o).mount_point) e
      by (Some part) e =
          let at : Location ℕ = record { mount = part.number; node = place.node } in
          let found =
          found_in (λ (other : Mount ℕ). stands_at nat_eq (record { mount = other.number; node = place.node }) mount)
          (rest_of parts) part e in
          ap (λ o. is_some (pushed_onto nat_eq world new tree parts mount o).mount_point) e
          ∙ sym (ap is_some (stands_there at mount found.1))

  -- no root mount is added
  attached_roots : (namespace : ℕ) → count namespace left ≡ count namespace world.mounts
      → count namespace after.mounts ≡ count namespace world.mounts
  attached_roots namespace same = ap (count namespace) (in_front world new place moves mounts)
      ∙ count_append namespace (map pushing left) (others world new place moves mounts)
      ∙ ap (λ n. count namespace (map pushing left) + n)
      (count_none namespace (others world new place moves mounts) (λ x m.
      let t = other_has x m in
      placed_no_root namespace x (copy_has t.0 x t.2).0)) ∙ add-zero (count namespace (map pushing left))
      ∙ count_map namespace pushing left (λ x m.
      ap (λ b. not b && is_in namespace (pushing x)) (pushed_alike x)
      ∙ ap (λ o. is_root_mount nat_eq x && holds_of (nat_eq namespace) o) (push_keeps world new tree parts x).namespace)
      ∙ same

  -- nor a namespace
  part_has_one : (part : Mount ℕ) → Among part parts → (namespace : ℕ) → part.namespace ≡ Some namespace
      → HasOne world namespace
  part_has_one part m namespace e = ⊎_elim
      (λ is_destination. there (ap (λ (x : Mount ℕ). x.namespace) (sym is_destination) ∙ e))
      (λ taker. (part, contains_from_among _ part (taker_there world place part taker), e)) m
    where
      there : destination.namespace ≡ Some namespace → HasOne world namespace
      there f = ⊎_elim (λ l. (destination, contains_from_among _ _ l, f)) (λ none. absurd cc) (found_or_none _ _)

  attached_namespaces : ((x : Mount ℕ) → Among x left → (namespace : ℕ) → x.namespace ≡ Some namespace
      → HasOne world namespace) → StaysInNamespaces world after
  attached_namespaces old =
      all_from_among (λ (mount : Mount ℕ). (namespace : ℕ) → mount.namespace ≡ Some namespace → HasOne world namespace)
      after.mounts (λ mount m namespace e.
      ⊎_elim (λ l.
      let from = among-from_map _ left mount l in
      old from.0 from.1 namespace
      (sym (ap (λ (x : Mount ℕ). x.namespace) from.2 ∙ (push_keeps world new tree parts from.0).namespace) ∙ e)) (λ l.
      let t = other_has mount l in
      part_has_one t.0 t.1 _ (sym (copy_has t.0 mount t.2).1 ∙ e)) (among-append _ _ mount
      (subst (Among mount) (in_front world new place moves mounts) m)))

  -- where the mounts that were there are left
  still_there : (x : Mount ℕ) → Among x world.mounts → (namespace : ℕ) → x.namespace ≡ Some namespace
      → HasOne world namespace
  still_there x m namespace e = (x, contains_from_among _ x m, e)

pub binds_keep_root_mounts : BindsKeepRootMounts
binds_keep_root_mounts world fresh source place recursive namespace =
    let mounts = bind_tree nat_eq world source recursive in
    attached_roots world _ place false mounts _ refl

pub binds_stay_in_namespaces : BindsStayInNamespaces
binds_stay_in_namespaces world fresh source place recursive =
    let mounts = bind_tree nat_eq world source recursive in
    let new = supplied world fresh place mounts in
    attached_namespaces world new place false mounts (still_there world new place false mounts)

pub new_mounts_keep_root_mounts : NewMountsKeepRootMounts
new_mounts_keep_root_mounts world fresh place filesystem flags namespace =
    let larger = with_new_filesystem world filesystem in
    let mounts = new_mount filesystem.number filesystem.files.tree.root flags ∷ [] in
    attached_roots larger (supplied larger fresh place mounts) place false mounts namespace refl

pub new_mounts_stay_in_namespaces : NewMountsStayInNamespaces
new_mounts_stay_in_namespaces world fresh place filesystem flags =
    let larger = with_new_filesystem world filesystem in
    let mounts = new_mount filesystem.number filesystem.files.tree.root flags ∷ [] in
    let new = supplied larger fresh place mounts in
    attached_namespaces larger new place false mounts (still_there larger new place false mounts)

-- by some with places, where they had places
count_folded : (namespace : ℕ) (mounts copies : List (Mount ℕ))
    → ((copy : Mount ℕ) → Among copy copies → is_some copy.mount_point ≡ true)
    → ((x copy : Mount ℕ) → Among x mounts → Among copy copies → nat_eq copy.number x.number ≡ true
    → is_some x.mount_point ≡ true)
    → count namespace (folded (with_mount nat_eq) mounts copies) ≡ count namespace mounts
count_folded namespace mounts [] placed had = refl
count_folded namespace mounts (copy ∷ copies) placed had =
    count_folded namespace (with_mount nat_eq mounts copy) copies (λ c m. placed c (inr m)) (λ x c m n e.
    let from = among-from_map _ mounts x m in
    by from.0 from.1 x from.2 c n e _ refl) ∙ count_map _ _ mounts (λ x m. alike x m _ refl)
  where
    by : (old : Mount ℕ) → Among old mounts → (x : Mount ℕ) → x ≡ replaced_if_same nat_eq copy old
        → (c : Mount ℕ) → Among c copies → nat_eq c.number x.number ≡ true
        → (b : Bool) → nat_eq copy.number old.number ≡ b → is_some x.mount_point ≡ true
    by old l x e c n same b f = grind (arith, common_steps, replaced_there, replaced_elsewhere)

    alike : (x : Mount ℕ) → Among x mounts → (b : Bool) → nat_eq copy.number x.number ≡ b
        → is_root_in namespace (replaced_if_same nat_eq copy x) ≡ is_root_in namespace x
    alike x m true f = ap (is_root_in namespace) (replaced_there copy x f) ∙ placed_no_root _ copy
        (placed copy (inl refl)) ∙ sym (placed_no_root _ x (had x copy m (inl refl) f))
    alike x m false f = ap (is_root_in namespace) (replaced_elsewhere copy x f)

-- each mount of a tree has a place, where its top has one
pub tree_placed : (fuel : ℕ) (mounts : List (Mount ℕ)) (top x : Mount ℕ) → is_some top.mount_point ≡ true
    → Among x (tree_from nat_eq fuel mounts top) → is_some x.mount_point ≡ true
tree_placed zero mounts top x e m =
    ⊎_elim (λ same. ap (λ (y : Mount ℕ). is_some y.mount_point) same ∙ e) (λ none. absurd none) m
tree_placed (suc fuel) mounts top x e m = ⊎_elim (λ same. ap (λ (y : Mount ℕ). is_some y.mount_point) same ∙ e)
    (λ later.
    let from = among-from_flat_map _ _ x later in
    let on = (among-from_filter _ mounts from.0 from.1).1 in
    tree_placed fuel mounts from.0 x (by _ on) from.2) m
  where
    by : (place : Option (Location ℕ)) → holds_of (λ (p : Location ℕ). nat_eq top.number p.mount) place ≡ true
        → is_some place ≡ true
    by None on = absurd cc
    by (Some place) on = refl

pub moves_keep_root_mounts : MovesKeepRootMounts
moves_keep_root_mounts world fresh source place one placed namespace =
    let mounts = moved_tree nat_eq world source.mount in
    let new = supplied world fresh place mounts in
    attached_roots world new place true mounts namespace
    (count_folded namespace world.mounts (arriving world new place true mounts)
    (λ copy m. (copy_has world new place true mounts (mount_at nat_eq world place) copy m).0) (λ x copy m n same.
    let from = arrives world new place mounts copy n in
    let of_tree = tree_among (length world.mounts) world.mounts (mount_at nat_eq world source) from.0 from.1 in
    let number : x.number ≡ from.0.number = sym (eqb-true copy.number x.number same) ∙ from.2.number in
    let itself : x ≡ from.0 = sym (found_itself world.mounts one x m) ∙ ap (mount_in nat_eq world.mounts) number
    ∙ found_itself world.mounts one from.0 (there of_tree) in
    ap (λ (y : Mount ℕ). is_some y.mount_point) itself
    ∙ tree_placed (length world.mounts) world.mounts (mount_at nat_eq world source) from.0 placed from.1))
  where
    top_there : (found : Option (Location ℕ)) → (mount_at nat_eq world source).mount_point ≡ found
        → Among (mount_at nat_eq world source) world.mounts
    top_there None e = absurd (cc placed)
    top_there (Some at) e = placed_among world.mounts source.mount at e

    there : {origin : Mount ℕ} → (origin ≡ mount_at nat_eq world source) ⊎ Among origin world.mounts
        → Among origin world.mounts
    there (inl e) = subst (λ y. Among y world.mounts) (sym e)
        (top_there (mount_at nat_eq world source).mount_point refl)
    there (inr m) = m

pub moves_stay_in_namespaces : MovesStayInNamespaces
moves_stay_in_namespaces world fresh source place =
    let mounts = moved_tree nat_eq world source.mount in
    let new = supplied world fresh place mounts in
    attached_namespaces world new place true mounts (λ x m namespace e.
    ⊎_elim (λ l. still_there world new place true mounts x l namespace e) (λ l.
    part_has_one world new place true mounts (mount_at nat_eq world place) (inl refl) namespace
    (sym (copy_has world new place true mounts (mount_at nat_eq world place) x l).1 ∙ e))
    (among-folded_mounts world.mounts (arriving world new place true mounts) x m))
