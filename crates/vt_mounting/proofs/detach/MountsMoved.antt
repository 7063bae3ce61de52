-- A mount moves, with all that is below it: mount(2) with MS_MOVE. Only the mount point of the first mount changes.
use Rattle.std.proofs.Common.{◌≡◌, refl, sym, ap, subst, ◌∙◌, inl, inr, ℕ, nat_eq, eqb-true, eq-eqb, Bool, true, false, true≢false, cond, ◌&&◌, List, [], ◌∷◌, ◌++◌, map, length, Option, Some, None, option_map, is_some, unwrap_or, filter_map, find, option_to_list, append-nil, map-id, map-id, arith}
use Rattle.vt_spec.proofs.Common.{Copies, Fresh, Location, Mount, TaskName, ToMove, Twig, World, and_parts, any_pair, attach, common_steps, copies_from, filesystem_numbered, folded, group_of, has_its_root, is_directory_at, is_directory_node, is_located_well, is_shared, list_all, list_any, map_twice, masters_with, mount_at, mount_numbered, mount_tree, no_mount, node_at, none_from_not_some, or_parts, replaced_if_same, with_mount}
use Rattle.vt_spec.proofs.Lists as spec
use Rattle.vt_mounting.proofs.Common.{Among, AreThere, Exchanges, FilesystemEntry, Filesystems, Inode, IsHeld, WorldValue, among-map, among_from_list_all, changed, counted, directory_is_there, found_is_there, inode_at, inodes_seen, is_among_numbers, is_small_node, location_of, mounts_in, mounts_of_worlds_stand, number_of, one_number_by_numbers, shown, stands_on_attached, world_of}
use Rattle.vt_location.specs.declared.locations.Location.{Location as At}
use Rattle.vt_laws_mounts.proofs.mounts.MountsFound.{number-mount_in}
use Rattle.vt_laws_mounts.proofs.mounts.MountsReplaced.{found_itself, numbers-with_mount}
use Rattle.vt_laws_mounts.proofs.moves.Moving.{tree_top}
use Rattle.vt_laws_mounts.proofs.moves.MovingRoots.{tree_placed}
use Rattle.vt_laws_mounts.proofs.mounts.Standing.{trees_have_each_once}
use Rattle.vt_laws_worlds.proofs.permits.taken.TakenAttached.{at_destination, copy_by, group_by, twigs}
use Rattle.vt_laws_worlds.specs.Worlds.Permits.{MayMoveTo}
use Rattle.vt_mounting.specs.Detach.Events.{Permits}
use Rattle.vt_mounting.specs.Detach.Uses.{inode_of, pinned_in, unpinned_at, unpinned_in}
use Rattle.vt_mounting.proofs.detach.Overlaid.{found_plain_one}
use Rattle.vt_mounting.proofs.detach.FileEvents.{permit_fits}
use Rattle.vt_mounting.proofs.detach.LocationsSeen.{seen_where_located}
use Rattle.vt_mounting.proofs.detach.LookLemmas.{nat_eq_turned}
use Rattle.vt_mounting.proofs.detach.Moving.{exchanged_shown}
use Rattle.vt_mounting.proofs.detach.MountsChanged.{KeepsWhatItShows, attached_entry, kind_kept, mount_is_changed, mounts_changed, next_of, one_changed, places_exchanged}
use Rattle.vt_mounting.proofs.detach.Places.{located_is_named}
use Rattle.vt_mounting.proofs.detach.Remaining.{remade}
use Rattle.vt_mounting.proofs.detach.Staying.{IsDone}
use Rattle.vt_mounting.proofs.detach.TypesSet.{attached_named}
use Rattle.vt_mounting.proofs.detach.TreesInNamespaces.{in_tree}

-- the mount of a location stands at another mount point
abbrev pub placed_at : Location ℕ → Mount ℕ → Mount ℕ
placed_at place mount = record mount { mount_point = Some place }

pub places_keep : (place : Location ℕ) → KeepsWhatItShows (placed_at place)
places_keep place = record {
  number = λ mount. refl;
  namespace = λ mount. refl;
  filesystem = λ mount. refl;
  root = λ mount. refl;
}

-- Mounts that are put in their own places

module _ (mounts : List (Mount ℕ)) (one : any_pair (λ (a b : Mount ℕ). nat_eq a.number b.number) mounts ≡ false) where
  put_itself : (mount : Mount ℕ) → spec.Among mount mounts → with_mount nat_eq mounts mount ≡ mounts
  put_itself mount m = spec.map_same (replaced_if_same nat_eq mount) mounts
      (λ old n. by old n (nat_eq mount.number old.number) refl)
    where
      by : (old : Mount ℕ) → spec.Among old mounts → (b : Bool) → nat_eq mount.number old.number ≡ b
          → cond b mount old ≡ old
      by old n false e = refl
      by old n true e = sym (found_itself mounts one mount m)
          ∙ ap (λ k. unwrap_or (find (λ (x : Mount ℕ). nat_eq k x.number) mounts) (no_mount k))
          (eqb-true mount.number old.number e) ∙ found_itself mounts one old n

  pub puts_themselves : (some : List (Mount ℕ)) → ((mount : Mount ℕ) → spec.Among mount some → spec.Among mount mounts)
      → folded (with_mount nat_eq) mounts some ≡ mounts
  puts_themselves [] there = refl
  puts_themselves (mount ∷ some) there =
      ap (λ list. folded (with_mount nat_eq) list some) (put_itself mount (there mount (inl refl)))
      ∙ puts_themselves some (λ other m. there other (inr m))

-- The mounts after a move

module _ {value : WorldValue} (held : IsHeld value) (number : ℕ) {namespace : ℕ} (place : Location ℕ)
    (inside : (mount_numbered nat_eq (world_of value) number).namespace ≡ Some namespace)
    (there : (mount_at nat_eq (world_of value) place).namespace ≡ Some namespace)
    (placed : is_some (mount_numbered nat_eq (world_of value) number).mount_point ≡ true) where
  abbrev world : World ℕ
  world = world_of value

  abbrev mounts : List (Mount ℕ)
  mounts = mounts_in value.mounts

  abbrev top : Mount ℕ
  top = mount_numbered nat_eq (world_of value) number

  abbrev put : Mount ℕ
  put = placed_at place (mount_numbered nat_eq (world_of value) number)

  -- each number is that of one mount
  one_number : any_pair (λ (a b : Mount ℕ). nat_eq a.number b.number) (mounts_in value.mounts) ≡ false
  one_number = held.in_world.mounts.one_number

  first_put : with_mount nat_eq (mounts_in value.mounts) put
      ≡ map (one_changed number (placed_at place)) (mounts_in value.mounts)
  first_put = spec-map_alike (replaced_if_same nat_eq put) (one_changed number (placed_at place)) mounts (λ mount m.
      ap (λ n. cond (nat_eq n mount.number) put mount) (number-mount_in mounts number)
      ∙ by mount m (nat_eq number mount.number) refl)
    where
      spec-map_alike : {A B : Type 0} (f g : A → B) (xs : List A) → ((x : A) → spec.Among x xs → f x ≡ g x)
          → map f xs ≡ map g xs
      spec-map_alike f g [] same = refl
      spec-map_alike f g (x ∷ xs) same = λ i. same x (inl refl) i ∷ spec-map_alike f g xs (λ y m. same y (inr m)) i

      by : (mount : Mount ℕ) → spec.Among mount (mounts_in value.mounts) → (b : Bool) → nat_eq number mount.number ≡ b
          → cond b put mount ≡ cond b (placed_at place mount) mount
      by mount m true e = ap (placed_at place) (ap (mount_numbered nat_eq world) (eqb-true number mount.number e)
          ∙ found_itself mounts one_number mount m)
      by mount m false e = refl

  module _ {rest : List (Mount ℕ)}
      (is_tree : mount_tree nat_eq (mounts_in value.mounts) (mount_numbered nat_eq (world_of value) number)
      ≡ mount_numbered nat_eq (world_of value) number ∷ rest) (new : Copies ℕ) where
    abbrev tree : List (Mount ℕ)
    tree = mount_numbered nat_eq (world_of value) number ∷ rest

    abbrev twig : Mount ℕ → Twig ℕ
    twig mount = record { origin = mount; propagation = mount.propagation }

    abbrev copy : Mount ℕ → Mount ℕ
    copy mount = copy_by (world_of value) place (mount_numbered nat_eq (world_of value) number ∷ rest) true true new
        (twig mount)

    in_rest : (mount : Mount ℕ) → spec.Among mount rest
        → spec.Among mount (mount_tree nat_eq (mounts_in value.mounts) (mount_numbered nat_eq (world_of value) number))
    in_rest mount m = subst (spec.Among mount) (sym is_tree) (inr m)

    another : (mount : Mount ℕ) → spec.Among mount rest → nat_eq top.number mount.number ≡ false
    another mount m = spec.none_among (λ (other : Mount ℕ). nat_eq top.number other.number) rest
        (or_parts (list_any (λ (other : Mount ℕ). nat_eq top.number other.number) rest) _
        (subst (λ list. any_pair (λ (a b : Mount ℕ). nat_eq a.number b.number) list ≡ false) is_tree
        (trees_have_each_once world number one_number held.in_world.mounts.standing))).0 mount m

    top_copied : copy top ≡ put
    top_copied = λ i. record top {
      namespace = (there ∙ sym inside) i;
      mount_point = Some (cond (eq-eqb top.number top.number refl i)
          (record { mount = number-mount_in mounts place.mount i; node = place.node })
          (unwrap_or (option_map (λ (at : Location ℕ). record { mount = at.mount; node = at.node }) top.mount_point) place));
    }

    rest_copied : (mount : Mount ℕ) → spec.Among mount rest → copy mount ≡ mount
    rest_copied mount m = (λ i. record mount {
      namespace = (there ∙ sym (in_tree value held number namespace inside mount (in_rest mount m)).2) i;
      mount_point = Some (cond ((nat_eq_turned mount.number top.number ∙ another mount m) i)
          (record { mount = (mount_at nat_eq (world_of value) place).number; node = place.node })
          (unwrap_or (option_map (λ (at : Location ℕ). record { mount = at.mount; node = at.node }) mount.mount_point) place));
    }) ∙ stays mount.mount_point (tree_placed (length mounts) mounts top mount placed (in_rest mount m))
      where
        stays : (o : Option (Location ℕ)) → is_some o ≡ true → record mount {
          mount_point = Some
              (unwrap_or (option_map (λ (at : Location ℕ). record { mount = at.mount; node = at.node }) o) place);
        } ≡ record mount { mount_point = o }
        stays None e = absurd (true≢false (sym e))
        stays (Some at) e = refl

    all_copied : map (copy_by (world_of value) place tree true true new) (twigs (world_of value) place tree)
        ≡ put ∷ rest
    all_copied = λ i. top_copied i
        ∷ (map_twice (copy_by world place tree true true new) twig rest ∙ spec.map_same copy rest rest_copied) i

    pub mounts_after : folded (with_mount nat_eq) (mounts_in value.mounts)
        (map (copy_by (world_of value) place tree true true new) (twigs (world_of value) place tree))
        ≡ map (one_changed number (placed_at place)) (mounts_in value.mounts)
    mounts_after = ap (folded (with_mount nat_eq) mounts) all_copied ∙ puts_themselves (with_mount nat_eq mounts put)
        (one_number_by_numbers mounts (with_mount nat_eq mounts put) (numbers-with_mount put mounts) one_number)
        rest (λ mount m.
        subst (λ x. spec.Among x (with_mount nat_eq mounts put)) (ap (λ b. cond b put mount) (another mount m))
        (spec.among-map (replaced_if_same nat_eq put) mounts mount
        (in_tree value held number namespace inside mount (in_rest mount m)).0)) ∙ first_put

    -- no group is made
    made_none : (list : List (Mount ℕ))
        → filter_map (group_by (world_of value) place tree true new) (map twig list) ≡ []
    made_none [] = refl
    made_none (mount ∷ list) = grind (arith, common_steps, made_none list)

  -- where the destination's mount is not shared
  pub tree_moved : (fresh : Fresh ℕ) → group_of (mount_at nat_eq (world_of value) place).propagation ≡ None
      → attach nat_eq (world_of value) fresh place true
      (mount_tree nat_eq (mounts_in value.mounts) (mount_numbered nat_eq (world_of value) number))
      ≡ next_of held number (places_keep place)
  tree_moved fresh alone =
      let begins = tree_top (length mounts) mounts top in
      let new = copies_from nat_eq fresh (mount_at nat_eq world place ∷ []) (top ∷ begins.0) in
      ap (λ list. attach nat_eq world fresh place true list) begins.1
      ∙ at_destination world place (top ∷ begins.0) alone true fresh ∙ (λ i. record world {
        mounts = (append-nil _ ∙ append-nil _ ∙ map-id _ ∙ mounts_after begins.1 new
            ∙ sym (mounts_changed number (placed_at place) value.mounts)) i;
        master = folded (masters_with nat_eq) world.master (made_none begins.1 new (top ∷ begins.0) i ++ []);
      })

-- a mount point is there
pub mount_point_located : (value : WorldValue) → IsHeld value → (number namespace : ℕ) (point : Location ℕ)
    → (mount_numbered nat_eq (world_of value) number).namespace ≡ Some namespace
    → (mount_numbered nat_eq (world_of value) number).mount_point ≡ Some point
    → is_located_well nat_eq (world_of value) point ≡ true
mount_point_located value held number namespace point inside is =
    let world = world_of value in
    let mounts = mounts_in value.mounts in
    let mount = mount_numbered nat_eq world number in
    let m = found_is_there mounts number (ap is_some inside) in
    let stands = and_parts (is_some (mount_at nat_eq world point).namespace) true
    (ap (λ o. list_all (λ place. is_some (mount_at nat_eq (world_of value) place).namespace) (option_to_list o))
    (sym is)
    ∙ among_from_list_all (stands_on_attached world) mounts (mounts_of_worlds_stand world held.in_world).on_attached
    mount m) in
    let roots = and_parts (is_directory_node
    ((filesystem_numbered nat_eq world mount.filesystem).files.tree.node mount.root)) _
    (among_from_list_all (has_its_root nat_eq world) mounts held.in_world.roots mount m) in
    let directory = and_parts (is_directory_at nat_eq world point) true
    (ap (λ o. list_all (is_directory_at nat_eq (world_of value)) (option_to_list o)) (sym is) ∙ roots.1) in
    (λ i.
    is_among_numbers point.mount (map (λ (x : Mount ℕ). x.number) mounts)
    (subst (λ n. Among n (map (λ (x : Mount ℕ). x.number) mounts)) (number-mount_in mounts point.mount)
    (among-map (λ (x : Mount ℕ). x.number) mounts (mount_at nat_eq world point)
    (found_is_there mounts point.mount stands.0))) i && directory_is_there (node_at nat_eq world point) directory.0 i)

-- The event

module _ (value : WorldValue) (whole : IsHeld value) (name : TaskName) (number : ℕ) (place : At) (left : Option At)
    (filesystems : Filesystems) (permits : Permits value name (ToMove number (location_of place)))
    (unshared : is_shared (mount_at nat_eq (world_of value) (location_of place)).propagation ≡ false)
    (small : is_small_node place.node ≡ true)
    (small_left : (point : At) → left ≡ Some point → is_small_node point.node ≡ true)
    (left_is : option_map location_of left ≡ (mount_numbered nat_eq (world_of value) number).mount_point)
    (shown_is : shown filesystems ≡ unpinned_at left (pinned_in (inode_of place.node) (shown value.filesystems))) where
  abbrev there_world : World ℕ
  there_world = world_of value

  may : MayMoveTo (world_of value) permits.task number (location_of place)
  may = (permit_fits value whole name (ToMove number (location_of place)) permits).names

  -- the place is a location of the world
  place_located : is_located_well nat_eq (world_of value) (location_of place) ≡ true
  place_located = may.destination.directory.reached.there

  abbrev gained : List Inode
  gained = inode_at (world_of value) (location_of place) ∷ []

  abbrev lost : List Inode
  lost = map (inode_at (world_of value)) (option_to_list (mount_numbered nat_eq (world_of value) number).mount_point)

  place_inode : inode_of place.node ≡ inode_at (world_of value) (location_of place)
  place_inode = λ i. (sym (seen_where_located value whole place small place_located) i, number_of place.node)

  shown_moved : (o : Option At) → option_map location_of o ≡ (mount_numbered nat_eq (world_of value) number).mount_point
      → ((point : At) → o ≡ Some point → is_small_node point.node ≡ true)
      → unpinned_at o (pinned_in (inode_of place.node) (shown value.filesystems))
      ≡ map (exchanged_shown gained lost) (shown value.filesystems)
  shown_moved None is few = absurd (true≢false (sym (ap is_some is ∙ may.placed)))
  shown_moved (Some point) is few =
      let point_well = mount_point_located value whole number permits.task.namespace (location_of point) may.own
      (sym is) in
      let point_inode : inode_of point.node ≡ inode_at (world_of value) (location_of point) =
      λ i. (sym (seen_where_located value whole point (few point refl) point_well) i, number_of point.node) in
      (λ i. unpinned_in (point_inode i) (pinned_in (place_inode i) (shown value.filesystems)))
      ∙ map_twice _ _ (shown value.filesystems)
      ∙ ap (λ o. map (exchanged_shown gained (map (inode_at (world_of value)) (option_to_list o)))
      (shown value.filesystems)) is

  -- the inode at the new mount point is there
  gained_is_there : (was : FilesystemEntry) → Among was value.filesystems
      → AreThere (counted was.count) (inodes_seen was) gained
  gained_is_there was m = grind (arith, common_steps, found_plain_one, eqb-true, place_located)

  pub mount_is_moved : IsDone value name (ToMove number (location_of place)) (remade value (changed number (λ entry.
      record entry {
        mount = record entry.mount { mount_point = Some (location_of place) };
      }) value.mounts) filesystems value.tasks)
  mount_is_moved =
      let entry = attached_entry value number permits.task.namespace may.own in
      mount_is_changed whole number (places_keep (location_of place)) gained lost filesystems
      (shown_is ∙ shown_moved left left_is small_left) (λ filesystem. subst (λ (mount : Mount ℕ). Exchanges gained
      (map (inode_at there_world) (option_to_list mount.mount_point)) filesystem there_world
      (next_of whole number (places_keep (location_of place)))) (sym entry.2)
      (places_exchanged whole number (places_keep (location_of place)) entry.1 filesystem)) gained_is_there
      {name = name} {permit = ToMove number (location_of place)} {task = permits.task} (record {
        called = permits.called;
        given = permits.given;
        named = λ i. attached_named value whole number permits.task.namespace may.own i
            && located_is_named value whole (location_of place) place_located i;
        applied = λ fresh. tree_moved whole number (location_of place) may.own may.destination.own may.placed fresh
            (none_from_not_some (group_of (mount_at nat_eq (world_of value) (location_of place)).propagation) unshared);
      })
      (kind_kept whole number (places_keep (location_of place)) (λ mount. refl))
