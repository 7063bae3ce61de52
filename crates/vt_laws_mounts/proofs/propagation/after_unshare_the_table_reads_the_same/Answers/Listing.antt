-- The list of mounts after an unshare.
use Rattle.std.proofs.Common.{arith, ◌≡◌, refl, sym, ap, subst, ◌∙◌, List, [], None, eq-eqb, eqb-true, true≢false, Option, Some, flat_map, map, nat_eq, option_map, true, unwrap_or, ℕ, ◌+◌, ◌∷◌, inl, inr}
use Rattle.vt_spec.proofs.Common.{Among, Fresh, Location, Mount, MountInvariants, Serves, Spot, Task, World, among-append_left, among-append_right, among-filter, among-from_filter, among-map, common_steps, copied_mount, each_once, evens, filesystem_numbered, groups_shown, index_from, is_overlay, location_on_copy, mount_line, mount_numbered, mount_point_spot, mounts_of, number_among, numbers_by, odds, odds-distinct, path_down, served-distinct, spot_of, type_line, unshared}
use Rattle.std.proofs.lemmas.List.Folds.{flat_map-map}
use Rattle.vt_spec.specs.Machine.Listing.{root_spot}
use Rattle.vt_laws_mounts.specs.Mounts.Propagation.{UnshareListsOthersTheSame, UnshareListsTheSame}
use Rattle.vt_laws_mounts.proofs.mounts.MountPointSpots.{spot_on}
use Rattle.vt_laws_mounts.proofs.mounts.MountsNumbered.{is_one_of, one_index}
use Rattle.vt_laws_mounts.proofs.namespaces.Unsharing.{itself, parent_of, copy_found, old_found}
use Rattle.vt_laws_mounts.proofs.namespaces.UnsharingNamespaces.{unshare_copies_mounts, unshare_leaves_namespaces}
use Rattle.vt_laws_mounts.specs.Mounts.Attaching.{is_mount}

pub map_alike : {A B C : Type 0} (f : A → C) (g : B → C) (h : A → B) (xs : List A)
    → ((x : A) → Among x xs → g (h x) ≡ f x) → map g (map h xs) ≡ map f xs
map_alike f g h [] same = refl
map_alike f g h (y ∷ ys) same = cc (same y (inl refl), map_alike f g h ys (λ x m. same x (inr m)))

pub map_both : {A C : Type 0} (f g : A → C) (xs : List A) → ((x : A) → Among x xs → g x ≡ f x) → map g xs ≡ map f xs
map_both f g [] same = refl
map_both f g (y ∷ ys) same = cc (same y (inl refl), map_both f g ys (λ x m. same x (inr m)))

-- the place of a new number among new numbers
new_place : (new : ℕ → ℕ) (copy : Mount ℕ → Mount ℕ) → ((mount : Mount ℕ) → (copy mount).number ≡ new mount.number)
    → (number k : ℕ) (mounts : List (Mount ℕ))
    → ((mount : Mount ℕ) → Among mount mounts → nat_eq (new number) (new mount.number) ≡ nat_eq number mount.number)
    → index_from (nat_eq (new number)) k (map (λ (x : Mount ℕ). x.number) (map copy mounts))
    ≡ index_from (nat_eq number) k (map (λ (x : Mount ℕ). x.number) mounts)
new_place new copy numbers number k [] same = refl
new_place new copy numbers number k (mount ∷ rest) same =
    grind (arith, common_steps, new_place new copy numbers number (k + 1) rest)

module _ (world : World ℕ) (fresh : Fresh ℕ) (task : Task ℕ) (serves : Serves nat_eq world fresh)
    (mounts : MountInvariants nat_eq world) where
  abbrev after : World ℕ
  after = unshared nat_eq world fresh task

  abbrev copied : List (Mount ℕ)
  copied = mounts_of nat_eq world task.namespace

  abbrev new_number : ℕ → ℕ
  new_number = numbers_by nat_eq (odds fresh) copied

  abbrev copy : Mount ℕ → Mount ℕ
  copy = copied_mount new_number (evens fresh 0)

  new_apart : (a b : Mount ℕ) → Among a copied → Among b copied
      → nat_eq (new_number a.number) (new_number b.number) ≡ nat_eq a.number b.number
  new_apart a b m n =
      grind (arith, common_steps, eq-eqb, eqb-true, true≢false, one_index, is_one_of, odds-distinct, served-distinct)

  -- the parent of a mount of a namespace is in the namespace
  parent_inside : (namespace : ℕ) (mount : Mount ℕ) → Among mount (mounts_of nat_eq world namespace)
      → (place : Location ℕ) → mount.mount_point ≡ Some place
      → (parent : Mount ℕ) × Among parent (mounts_of nat_eq world namespace) × (parent.number ≡ place.mount)
      × Among parent world.mounts
  parent_inside namespace mount m place e =
      let from = among-from_filter _ _ mount m in
      let parent = parent_of world mounts mount from.0 place e in (
        parent.parent,
        among-filter _ _ _ parent.there (cc (parent.namespace, from.1)),
        parent.number,
        parent.there,
      )

  abbrev spot : Mount ℕ → Location ℕ → Spot
  spot parent place =
      spot_of (path_down nat_eq (filesystem_numbered nat_eq world parent.filesystem).files parent.root place.node)

  abbrev place_cell : World ℕ → List (Mount ℕ) → Location ℕ → ℕ × Spot
  place_cell those list place = (
    number_among nat_eq (map (λ (other : Mount ℕ). other.number) list) place.mount,
    mount_point_spot nat_eq those place,
  )

  copied_cell : (parent : Mount ℕ) → Among parent copied → Among parent world.mounts → (place : Location ℕ)
      → parent.number ≡ place.mount
      → place_cell after (map copy copied) (location_on_copy new_number place) ≡ place_cell world copied place
  copied_cell parent m there place same =
      let number : number_among nat_eq (map (λ (other : Mount ℕ). other.number) (map copy copied))
      (new_number place.mount) ≡ number_among nat_eq (map (λ (other : Mount ℕ). other.number) copied) place.mount =
      ap (λ n. number_among nat_eq (map (λ (other : Mount ℕ). other.number) (map copy copied)) (new_number n))
      (sym same) ∙ ap (λ k. unwrap_or k 0)
      (new_place new_number copy (λ mount. refl) parent.number 1 copied (λ other n. new_apart parent other m n))
      ∙ ap (number_among nat_eq (map (λ (other : Mount ℕ). other.number) copied)) same in
      let shows : mount_point_spot nat_eq after (location_on_copy new_number place)
      ≡ mount_point_spot nat_eq world place =
      spot_on after (location_on_copy new_number place) (subst (λ n. is_mount after (new_number n) ≡ true) same
      (is_one_of after.mounts (copy parent)
      (among-append_right world.mounts (map copy copied) (copy parent) (among-map copy copied parent m))))
      ∙ ap (λ n. spot (mount_numbered nat_eq after (new_number n)) place) (sym same)
      ∙ ap (λ (x : Mount ℕ). spot x place) (copy_found world fresh task serves mounts parent m)
      ∙ ap (λ (x : Mount ℕ). spot x place) (sym (itself world mounts parent there))
      ∙ ap (λ n. spot (mount_numbered nat_eq world n) place) same
      ∙ sym (spot_on world place (subst (λ n. is_mount world n ≡ true) same (is_one_of world.mounts parent there))) in
      λ i. (number i, shows i)

  copied_places : (mount : Mount ℕ) → Among mount copied
      → option_map (place_cell after (map copy copied)) (copy mount).mount_point
      ≡ option_map (place_cell world copied) mount.mount_point
  copied_places mount m = by _ refl
    where
      by : (found : Option (Location ℕ)) → mount.mount_point ≡ found
          → option_map (place_cell after (map copy copied)) (option_map (location_on_copy new_number) found)
          ≡ option_map (place_cell world copied) found
      by None e = refl
      by (Some place) e =
          let parent = parent_inside _ mount m place e in
          ap Some (copied_cell _ parent.1 parent.3 place parent.2)

  same_filesystems : map (λ (x : Mount ℕ). x.filesystem) (map copy copied) ≡ map (λ (x : Mount ℕ). x.filesystem) copied
  same_filesystems = map_alike _ _ copy copied (λ x m. refl)

  same_groups : flat_map (groups_shown after) (map copy copied) ≡ flat_map (groups_shown world) copied
  same_groups = flat_map-map _ copy copied

  copied_line : (mount : Mount ℕ) → Among mount copied
      → mount_line nat_eq after (map copy copied) (copy mount) ≡ mount_line nat_eq world copied mount
  copied_line mount m = λ i. record {
    mount_point = copied_places mount m i;
    overlay = is_overlay (filesystem_numbered nat_eq world mount.filesystem);
    filesystem = number_among nat_eq (each_once nat_eq (same_filesystems i)) mount.filesystem;
    root = root_spot nat_eq world mount;
    flags = mount.flags;
    kind = type_line nat_eq world (each_once nat_eq (same_groups i)) mount.propagation;
  }

  other_places : (namespace : ℕ) (mount : Mount ℕ) → Among mount (mounts_of nat_eq world namespace)
      → option_map (place_cell after (mounts_of nat_eq world namespace)) mount.mount_point
      ≡ option_map (place_cell world (mounts_of nat_eq world namespace)) mount.mount_point
  other_places namespace mount m = by _ refl
    where
      list : List (Mount ℕ)
      list = mounts_of nat_eq world namespace

      by : (found : Option (Location ℕ)) → mount.mount_point ≡ found
          → option_map (place_cell after (mounts_of nat_eq world namespace)) found
          ≡ option_map (place_cell world (mounts_of nat_eq world namespace)) found
      by None e = refl
      by (Some place) e =
          let parent = parent_inside _ mount m place e in
          let here : is_mount world place.mount ≡ true =
          subst (λ n. is_mount world n ≡ true) parent.2 (is_one_of _ _ parent.3) in
          let still : is_mount after place.mount ≡ true =
          subst (λ n. is_mount after n ≡ true) parent.2 (is_one_of _ _ (among-append_left _ _ _ parent.3)) in
          ap (λ told. Some (
            number_among nat_eq (map (λ (other : Mount ℕ). other.number)
                (mounts_of nat_eq world namespace)) place.mount,
            told,
          )) (spot_on after place still ∙ ap (λ (x : Mount ℕ). spot x place)
          (ap (mount_numbered nat_eq after) (sym parent.2) ∙ old_found world fresh task serves mounts _ parent.3 ∙ sym
          (itself world mounts _ parent.3) ∙ ap (mount_numbered nat_eq world) parent.2) ∙ sym
          (spot_on world place here))

  other_line : (namespace : ℕ) (mount : Mount ℕ) → Among mount (mounts_of nat_eq world namespace)
      → mount_line nat_eq after (mounts_of nat_eq world namespace) mount
      ≡ mount_line nat_eq world (mounts_of nat_eq world namespace) mount
  other_line namespace mount m = λ i. record (mount_line nat_eq world (mounts_of nat_eq world namespace) mount) {
    mount_point = other_places namespace mount m i;
  }

pub unshare_lists_the_same : UnshareListsTheSame
unshare_lists_the_same world fresh task serves mounts empty =
    let now = unshared nat_eq world fresh task in
    let those = mounts_of nat_eq world task.namespace in
    ap (λ (l : List (Mount ℕ)). map (mount_line nat_eq now l) l) (unshare_copies_mounts world fresh task empty)
    ∙ map_alike _ _ _ those (copied_line world fresh task serves mounts)

pub unshare_lists_others_the_same : UnshareListsOthersTheSame
unshare_lists_others_the_same world fresh task namespace serves mounts other =
    let now = unshared nat_eq world fresh task in
    let those = mounts_of nat_eq world namespace in
    ap (λ (l : List (Mount ℕ)). map (mount_line nat_eq now l) l) (unshare_leaves_namespaces world fresh task namespace
    other) ∙ map_both _ _ those (other_line world fresh task serves mounts _)
