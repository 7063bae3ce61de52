-- The event that moves a tree to a shared mount, with copies at its receivers: mount(2) with MS_MOVE.
use Rattle.std.proofs.Common.{◌≡◌, ◌<◌, refl, sym, ap, subst, ◌∙◌, ⊎_elim, inl, inr, true≢false, ℕ, zero, suc, ◌+◌, ◌*◌, ◌%◌, ◌==◌, nat_eq, eq-eqb, true, false, ◌&&◌, ◌||◌, List, [], ◌∷◌, ◌++◌, map, filter, length, Option, Some, None, is_some, arith, Contains, drop, if◌then◌else◌, option_map, take, unwrap_or, ne_eqb, length-append}
use Rattle.vt_spec.proofs.Common.{Copies, Filesystem, IsWorld, Permit, Private, Propagation, Shared, Slave, TaskName, ToMove, Unbindable, World, among_from_contains, any_pair, attach, attached_by, common_steps, contains_from_among, copies_from, drop-append_seam, first_of_list, folded, group_of, has_members, holds_of, is_among, is_mounted, is_shared, length-map, list_all, list_all-append, list_any, list_any-append, lookup, map-append, map_twice, masters_with, mount_at, mount_lives, mount_numbered, mount_tree, or_left, or_parts, parts_of, rest_of, settled, some_from_is_some, take-append_seam, tree_from, type_at, type_on_shared, with_mount, OverlayInvariants}
use Rattle.std.proofs.lemmas.List.{drop-map}
use Rattle.vt_spec.specs.Machine.Mounts as meant
use Rattle.vt_mounting.proofs.Common.{Among, AttachesBy, Exchanges, Filesystems, Grouping, Grows, Has, IsHeld, IsUnderWay, KeepsTo, MountEntry, MovesOnce, OneNumberAMount, Shown, WorldValue, all_from_among, all_in_use, among-from_map, among-map, among_from_all, among_from_list_all, any-map, are_ascending, counted, counts_from, given_permits_are_under_way_anywhere, given_to_task, in_use_of, is_among_numbers, is_counted_before, location_of, master_in, mount_of, mounts_entered, mounts_in, mounts_of_worlds_stand, moved_by, new_group, none_from_among, numbers_at, numbers_of, one_number_by_numbers, overlays_seen, parts_apart, planned_copies, typed, world_of}
use Rattle.vt_laws_mounts.proofs.counts.using.MountRoots as Roots
use Rattle.vt_location.specs.declared.mounts.Mount.{Mount}
use Rattle.vt_laws_mounts.proofs.moves.MovingRoots.{tree_placed}
use Rattle.vt_laws_mounts.proofs.mounts.Standing.{trees_have_each_once}
use Rattle.vt_propagate.specs.declared.copying.Counts.{Counts}
use Rattle.vt_propagate.specs.declared.copying.Graft.{Graft}
use Rattle.vt_propagate.specs.Attaching.{IsMoved}
use Rattle.vt_propagate.specs.Copying as planned
use Rattle.vt_propagate.specs.Pushing.{leaver}
use Rattle.vt_laws_worlds.specs.Worlds.Permits.{MayMoveTo}
use Rattle.vt_mounting.specs.Detach.Events.{Permits, left_by}
use Rattle.vt_mounting.specs.Detach.Uses.{unused_entry, Merged, kept_of, kept_with}
use Rattle.vt_mounting.proofs.detach.Bridging.{IsSwept, shows_left}
use Rattle.vt_mounting.proofs.detach.FileEvents.{permit_fits}
use Rattle.vt_mounting.proofs.detach.Grouped.{settled_has}
use Rattle.vt_mounting.proofs.detach.LowerLayers.{exchanges_of_lowers, of_lowers}
use Rattle.vt_mounting.proofs.detach.Overlaid.{AreStillMounted, is_plain_one, overlays_are, plain_ones_are, still_mounted, all_shown}
use Rattle.vt_mounting.proofs.detach.Places.{located_is_named}
use Rattle.vt_mounting.proofs.detach.Showing.{ShowsAs}
use Rattle.vt_mounting.proofs.detach.Staying.{IsDone}
use Rattle.vt_mounting.proofs.detach.TypesSet.{attached_named}
use Rattle.vt_mounting.proofs.detach.TreesInNamespaces.{in_tree}
use Rattle.vt_mounting.specs.Attach.AttachedGroups.{HasGroupsOf, all_copies, groups_formed, type_of}
use Rattle.vt_mounting.specs.Attach.AttachedNumbers.{numbers_of_parts}
use Rattle.vt_mounting.specs.Attach.Moved.{IsMovedBy, MayMoveTree, top_of}
use Rattle.vt_mounting.specs.Attach.Planned.{Point, points_taken, with_points}
use Rattle.vt_mounting.specs.Attach.PlannedUses.{point_seen}
use Rattle.vt_mounting.proofs.attach.AddedUses.{gained_by}
use Rattle.vt_mounting.proofs.attach.AttachedCounts.{lower_numbers}
use Rattle.vt_mounting.proofs.attach.Binding.{group_there, is_seen, same_base}
use Rattle.vt_mounting.proofs.attach.EnteringLemmas.{apart}
use Rattle.vt_mounting.proofs.attach.FormedGroups.{formed_groups_begin, groups_of_copies_are_named}
use Rattle.vt_mounting.proofs.attach.Beside.{is_beside}
use Rattle.vt_mounting.proofs.attach.GraftedDone.{IsEntered, counts_then, from_base, grafted_value, overlays_same, own_then, same_numbers}
use Rattle.vt_mounting.proofs.attach.GraftedUses.{after, changed_at, exchanged_then, gained_there}
use Rattle.vt_mounting.proofs.attach.GrownGroups.{ascending_rises}
use Rattle.vt_mounting.proofs.attach.MovedLives.{CanMove, living_moved, mounts_live}
use Rattle.vt_mounting.proofs.attach.MovedPoints.{points_are_moved}
use Rattle.vt_mounting.proofs.attach.MovedTrees as Trees
use Rattle.vt_mounting.proofs.attach.MovesAscend.{ascending_once, beside_ascend, copies_beside}
use Rattle.vt_mounting.proofs.attach.NumbersByParts.{moves_keep_to_numbers}
use Rattle.vt_mounting.proofs.attach.PlannedCounts.{inodes_of_points}
use Rattle.vt_mounting.proofs.attach.PlannedPoints.{moved_at}
use Rattle.vt_mounting.proofs.attach.TakingNumbers.{TakesNumbers, left_is_world, numbers_are_kept}
use Rattle.vt_mounting.proofs.attach.TypedMounts.{Kind, KindsOnce, looked_up_kind, retyped_one, typed_at, typed_seen, typed_with_more}
use Rattle.vt_mounting.proofs.attach.TypesGrown.{GrowBeside, grows_beside}

tree_is_some : (fuel : ℕ) (mounts : List (meant.Mount ℕ)) (top : meant.Mount ℕ)
    → 0 < length (tree_from nat_eq fuel mounts top)
tree_is_some zero mounts top = omega arith
tree_is_some (suc fuel) mounts top = omega arith

begins : (tree : List Mount) → 0 < length tree → (first : Mount) × (others : List Mount) × (tree ≡ first ∷ others)
begins [] some = absurd (omega (arith, some))
begins (first ∷ others) some = (first, others, refl)

kinds_apart : (number : ℕ) (own : List (meant.Mount ℕ))
    → list_any (λ (b : meant.Mount ℕ). nat_eq number b.number) own ≡ false
    → list_any (λ (b : Kind). nat_eq number b.0) (map type_of own) ≡ false
kinds_apart number [] none = refl
kinds_apart number (mount ∷ rest) none =
    let parts = or_parts (nat_eq number mount.number) _ none in
    λ i. parts.0 i || kinds_apart number rest parts.1 i

kinds_are_once : (own : List (meant.Mount ℕ)) → OneNumberAMount own → KindsOnce (map type_of own)
kinds_are_once [] once = refl
kinds_are_once (mount ∷ rest) once =
    let parts = or_parts (list_any (λ (b : meant.Mount ℕ). nat_eq mount.number b.number) rest) _ once in
    λ i. kinds_apart mount.number rest parts.0 i || kinds_are_once rest parts.1 i

-- one more that is none of them
none_found : {B : Type 0} (number : ℕ) (pairs : List (ℕ × B)) → lookup (nat_eq number) pairs ≡ None
    → list_any (λ (pair : ℕ × B). nat_eq number pair.0) pairs ≡ false
none_found number [] none = refl
none_found {B} number (pair ∷ rest) none = grind (arith, common_steps, none_found number rest)

once_more : {B : Type 0} (pairs : List (ℕ × B)) (last : ℕ × B)
    → any_pair (λ (a b : ℕ × B). nat_eq a.0 b.0) pairs ≡ false
    → list_any (λ (pair : ℕ × B). nat_eq last.0 pair.0) pairs ≡ false
    → any_pair (λ (a b : ℕ × B). nat_eq a.0 b.0) (pairs ++ last ∷ []) ≡ false
once_more [] last once apart = refl
once_more {B} (pair ∷ rest) last once apart = grind (arith, common_steps, once_more rest last, apart, eq-eqb)

moved_numbers : (points : List Point) (mounts back : List (meant.Mount ℕ))
    → numbers_of (map (moved_at points) mounts ++ back) ≡ numbers_of (mounts ++ back)
moved_numbers points [] back = refl
moved_numbers points (mount ∷ rest) back = ap (λ numbers. mount.number ∷ numbers) (moved_numbers points rest back)

rest_among : (xs : List (meant.Mount ℕ)) (mount : meant.Mount ℕ) → Among mount (rest_of xs) → Among mount xs
rest_among [] mount m = m
rest_among (x ∷ xs) mount m = inr m

-- the types of mounts on a shared one
shared_there : (new : ℕ) (kind : Propagation ℕ) → is_shared (type_on_shared new kind) ≡ true
shared_there new (Shared group) = refl
shared_there new (Slave master) = refl
shared_there new Private = refl
shared_there new Unbindable = refl

group_stays : (new group : ℕ) (kind : Propagation ℕ) → group_of kind ≡ Some group
    → group_of (type_on_shared new kind) ≡ Some group
group_stays new group (Shared other) e = e
group_stays new group (Slave master) e = absurd (true≢false (sym (ap is_some e)))
group_stays new group Private e = absurd (true≢false (sym (ap is_some e)))
group_stays new group Unbindable e = absurd (true≢false (sym (ap is_some e)))

module _ (value : WorldValue) (whole : IsHeld value) (name : TaskName) (number : ℕ) (graft : Graft) (counts : Counts)
    (permits : Permits value name (ToMove number (location_of graft.place))) (tree_is : map mount_of graft.tree.now
    ≡ mount_tree nat_eq (mounts_in value.mounts) (mount_numbered nat_eq (world_of value) number))
    (moves : graft.moves ≡ true)
    (parts_are : map mount_of graft.parts.now ≡ parts_of nat_eq (world_of value) (location_of graft.place))
    (first_is : counts.first ≡ value.next) (step : counts.step ≡ 1) where
  abbrev permit : Permit ℕ
  permit = ToMove number (location_of graft.place)

  abbrev world : World ℕ
  world = world_of value

  abbrev place : meant.Location ℕ
  place = location_of graft.place

  abbrev tree : List (meant.Mount ℕ)
  tree = map mount_of graft.tree.now

  abbrev dest : meant.Mount ℕ
  dest = mount_at nat_eq (world_of value) (location_of graft.place)

  abbrev namespace : ℕ
  namespace = permits.task.namespace

  may : MayMoveTo (world_of value) permits.task number (location_of graft.place)
  may = (permit_fits value whole name permit permits).names

  takes : TakesNumbers value name permit permits.task
  takes = record { called = permits.called; given = permits.given; inode = 0; even = refl; supply = refl }

  same_counts : (k : ℕ) → planned.counts_from counts k ≡ counts_from value.next k
  same_counts k = (λ i. counted (first_is i + step i * k)) ∙ omega arith

  -- each number is that of one mount
  one_number : OneNumberAMount (mounts_in value.mounts)
  one_number = whole.in_world.mounts.one_number

  -- the tree

  tree_once : OneNumberAMount tree
  tree_once = subst OneNumberAMount (sym tree_is)
      (trees_have_each_once world number whole.in_world.mounts.one_number whole.in_world.mounts.standing)

  tree_some : 0 < length graft.tree.now
  tree_some = grind (arith, common_steps)

  abbrev first : Mount
  first = (begins graft.tree.now tree_some).0

  abbrev others : List Mount
  others = (begins graft.tree.now tree_some).1

  tree_now : graft.tree.now ≡ first ∷ others
  tree_now = (begins graft.tree.now tree_some).2

  abbrev moving : Trees.IsMoving graft first others
  moving = record { tree_now = tree_now; moves = moves }

  of_tree : (mount : meant.Mount ℕ) → Among mount tree
      → Among mount (mount_tree nat_eq (mounts_in value.mounts) (mount_numbered nat_eq (world_of value) number))
  of_tree mount m = subst (Among mount) tree_is m

  -- a mount of the tree is one of the world
  tree_among : (mount : meant.Mount ℕ) → Among mount tree → Among mount (mounts_in value.mounts)
  tree_among mount m = (in_tree value whole number namespace may.own mount (of_tree mount m)).0

  beside : (mount : meant.Mount ℕ) → Among mount tree → mount.namespace ≡ dest.namespace
  beside mount m = (in_tree value whole number namespace may.own mount (of_tree mount m)).2 ∙ sym may.destination.own

  placed : (mount : meant.Mount ℕ) → Among mount tree → is_some mount.mount_point ≡ true
  placed mount m = tree_placed (length (mounts_in value.mounts)) (mounts_in value.mounts)
      (mount_numbered nat_eq (world_of value) number) mount may.placed (of_tree mount m)

  -- the copies

  abbrev own : List (meant.Mount ℕ)
  own = Trees.own (world_of value) counts moving

  own_size : length graft.tree.now ≡ length own
  own_size = sym (length-map _ _ ∙ length-map _ _ ∙ length-map graft.tree.now mount_of)

  own_taken : take (length graft.tree.now) (planned_copies world graft counts) ≡ own
  own_taken = ap (λ n. take n (own ++ copies_beside world graft counts)) own_size
      ∙ take-append_seam own (copies_beside world graft counts)

  rest_dropped : drop (length graft.tree.now) (planned_copies world graft counts) ≡ copies_beside world graft counts
  rest_dropped = ap (λ n. drop n (own ++ copies_beside world graft counts)) own_size
      ∙ drop-append_seam own (copies_beside world graft counts)

  rising_then : are_ascending (mounts_in value.mounts) ≡ true
      → list_all (λ mount. mount.number % 4 == 1) (mounts_in value.mounts) ≡ true
      → are_ascending (mounts_in value.mounts ++ drop (length graft.tree.now) (planned_copies world graft counts))
      ≡ true
  rising_then ascending odd = ap (λ list. are_ascending (mounts_in value.mounts ++ list)) rest_dropped
      ∙ beside_ascend counts (subst (λ n. 0 < n) (sym step) (omega arith)) world graft one_number tree_once tree_some
      (mounts_in value.mounts) ascending
      (λ mount m. subst (λ n. mount.number < counted n) (sym first_is) (lower_numbers value whole odd mount m))

  pub may_move : are_ascending (mounts_in value.mounts) ≡ true
      → list_all (λ mount. mount.number % 4 == 1) (mounts_in value.mounts) ≡ true
      → MayMoveTree value.mounts value.groups graft counts
  may_move ascending odd = record {
    world = world;
    seen = is_seen value whole;
    one_child = whole.in_world.mounts.one_child;
    parts_are = parts_are;
    apart = subst OneNumberAMount (sym parts_are)
        (parts_apart world (location_of graft.place) whole.in_world.mounts.one_number);
    own =
        let all = length-append own (copies_beside world graft counts) in
        let same = own_size in
        omega (arith, all, same);
    ascending = rising_then ascending odd;
  }

  -- The tree was moved to a shared mount

  module _ (shared : is_shared (mount_at nat_eq (world_of value) (location_of graft.place)).propagation ≡ true)
      (mounts : List MountEntry) (groups : Grouping) (filesystems : Filesystems) (overlays : List Merged) (next : ℕ)
      (is : IsMovedBy graft counts (kept_of value) value.groups (kept_with mounts filesystems overlays) groups)
      (ascending : are_ascending (mounts_in value.mounts) ≡ true)
      (odd : list_all (λ mount. mount.number % 4 == 1) (mounts_in value.mounts) ≡ true) where
    abbrev come : List Mount
    come = drop (length graft.tree.now) is.copies

    abbrev points : List Point
    points = is.pushed ++ top_of graft.place graft.tree.now

    abbrev kinds : List Kind
    kinds = map type_of own

    abbrev formed : List (ℕ × Option ℕ)
    formed = map new_group is.groups

    abbrev master : ℕ → Option ℕ
    master = folded (masters_with nat_eq) (master_in value.groups) formed

    abbrev then_world : World ℕ
    then_world = after value value.filesystems master come points kinds

    abbrev first_number : ℕ
    first_number = counted first.number.count

    abbrev new : WorldValue
    new = grafted_value value mounts groups filesystems overlays next

    attaches : AttachesBy world graft counts (map mount_of is.copies) (map new_group is.groups)
        (map point_seen is.pushed)
    attaches = is.plan world (is_seen value whole) whole.in_world.mounts.one_child parts_are

    come_is : map mount_of come ≡ copies_beside world graft counts
    come_is = sym (drop-map mount_of (length graft.tree.now) is.copies)
        ∙ ap (drop (length graft.tree.now)) attaches.copies_are ∙ rest_dropped

    all_are : map mount_of is.copies ≡ own ++ map mount_of come
    all_are = attaches.copies_are ∙ ap (λ list. own ++ list) (sym come_is)

    rising : are_ascending (mounts_in value.mounts ++ map mount_of come) ≡ true
    rising = ap (λ list. are_ascending (mounts_in value.mounts ++ list)) (come_is ∙ sym rest_dropped)
        ∙ rising_then ascending odd

    own_once : OneNumberAMount own
    own_once = one_number_by_numbers tree own
        (Trees.own_numbers world counts moving) tree_once

    kinds_once : KindsOnce kinds
    kinds_once = kinds_are_once own own_once

    in_world : Trees.IsOfWorld (world_of value) counts moving
    in_world = record {
      one = one_number;
      own_once = own_once;
      kinds_once = kinds_once;
      there = tree_among;
      beside = beside;
      placed = placed;
    }

    own_from : (mount : meant.Mount ℕ) → Among mount own → (origin : meant.Mount ℕ) × Among origin tree
        × (mount ≡ Trees.copy world counts moving origin)
    own_from mount m = among-from_map (Trees.copy world counts moving) tree mount
        (subst (Among mount) (Trees.own_copies world counts moving) m)

    own_number : (mount : meant.Mount ℕ) → Among mount own
        → (origin : meant.Mount ℕ) × Among origin tree × (mount.number ≡ origin.number)
    own_number mount m =
        let from = own_from mount m in (
          from.0,
          from.1,
          ap (λ (x : meant.Mount ℕ). x.number) from.2
              ∙ Trees.copy_number_is world counts moving from.0,
        )

    -- new mount points

    points_then : map point_seen points ≡ map point_seen is.pushed ++ (first_number, location_of graft.place) ∷ []
    points_then = map-append point_seen is.pushed (top_of graft.place graft.tree.now)
        ∙ ap (λ (list : List Mount). map point_seen is.pushed ++ map point_seen (top_of graft.place list)) tree_now

    leaves : holds_of (nat_eq first_number) (leaver graft) ≡ true
    leaves = (λ i. holds_of (nat_eq first_number)
        (if moves i then option_map (λ (top : Mount). counted top.number.count) (first_of_list (tree_now i)) else None))
        ∙ eq-eqb first_number first_number refl

    first_there : is_among nat_eq first_number (numbers_of (mounts_in value.mounts)) ≡ true
    first_there = is_among_numbers first_number (numbers_of (mounts_in value.mounts))
        (among-map (λ (x : meant.Mount ℕ). x.number) (mounts_in value.mounts) (mount_of first)
        (tree_among (mount_of first) (subst (λ (list : List Mount). Among (mount_of first) (map mount_of list))
        (sym tree_now) (inl refl))))

    once : MovesOnce (mounts_in value.mounts) (map point_seen points)
    once = record {
      once = subst (λ list. any_pair (λ (a b : ℕ × meant.Location ℕ). nat_eq a.0 b.0) list ≡ false) (sym points_then)
          (once_more (map point_seen is.pushed) (first_number, location_of graft.place) is.once.once
          (none_found first_number (map point_seen is.pushed) (is.leaver first_number leaves)));
      there = subst (λ list. list_all (λ (point : ℕ × meant.Location ℕ). is_among nat_eq point.0
          (map (λ (mount : meant.Mount ℕ). mount.number) (mounts_in value.mounts))) list ≡ true) (sym points_then)
          (list_all-append (λ (point : ℕ × meant.Location ℕ). is_among nat_eq point.0
          (map (λ (mount : meant.Mount ℕ). mount.number) (mounts_in value.mounts))) (map point_seen is.pushed)
          ((first_number, location_of graft.place) ∷ []) ∙ (λ i. is.once.there i && (first_there i && true)));
    }

    -- mounts and their types

    all_kinds : map typed is.copies ≡ map type_of (own ++ map mount_of come)
    all_kinds = sym (map_twice type_of mount_of is.copies) ∙ ap (map type_of) all_are

    entries_seen : mounts_in (with_points points value.mounts ++ map unused_entry come)
        ≡ map (moved_at points) (mounts_in value.mounts) ++ map mount_of come
    entries_seen = mounts_entered (with_points points value.mounts) come
        ∙ ap (λ front. front ++ map mount_of come) (points_are_moved value.mounts points)

    behind : OneNumberAMount (map (moved_at points) (mounts_in value.mounts) ++ map mount_of come)
    behind = one_number_by_numbers (mounts_in value.mounts ++ map mount_of come)
        (map (moved_at points) (mounts_in value.mounts) ++ map mount_of come)
        (moved_numbers points (mounts_in value.mounts) (map mount_of come))
        (ascending_once (mounts_in value.mounts ++ map mount_of come) rising)

    others_kinds : (mount : meant.Mount ℕ) → Among mount (map mount_of come)
        → list_any (λ (kind : Kind). nat_eq mount.number kind.0) (map type_of own) ≡ false
    others_kinds mount m = kinds_apart mount.number own
        (none_from_among (λ (b : meant.Mount ℕ). nat_eq mount.number b.number) own (λ b n.
        let from = own_number b n in
        let less = apart (mounts_in value.mounts) (map mount_of come) rising from.0 mount (tree_among from.0 from.1) m
        in
        let number_is = from.2 in
        ne_eqb mount.number b.number (λ same. absurd (omega (arith, less, same, number_is)))))

    -- the mounts that are left, as the definitions see them
    mounts_seen : mounts_in mounts ≡ map (changed_at points kinds) (mounts_in value.mounts) ++ map mount_of come
    mounts_seen = ap (λ k. mounts_in k.mounts) is.done
        ∙ typed_seen (map typed is.copies) (with_points points value.mounts ++ map unused_entry come)
        ∙ (λ i. folded retyped_one (entries_seen i) (all_kinds i))
        ∙ typed_with_more (map (moved_at points) (mounts_in value.mounts)) (map mount_of come) own behind kinds_once
        others_kinds ∙ ap (λ front. front ++ map mount_of come)
        (map_twice (typed_at kinds) (moved_at points) (mounts_in value.mounts))

    entered : IsEntered value value.filesystems come points kinds is.left mounts filesystems overlays
    entered = record {
      types = map typed is.copies;
      can = record {
        whole = is_beside value whole;
        own = whole.own_inodes;
        roots = whole.in_world.roots;
        once = once;
        left_are = is.left_are;
        left_small = is.left_small;
        taken_small = is.taken_small;
        slots = is.slots;
        ascending = rising;
      };
      done = is.done;
      seen = mounts_seen;
    }

    -- groups

    kind_of_copy : (origin : meant.Mount ℕ)
        → (Trees.copy world counts moving origin).propagation ≡ type_on_shared ((numbers_at world graft counts).image
        (some_from_is_some (group_of dest.propagation) shared).0 origin.number) origin.propagation
    kind_of_copy origin = Trees.copy_kind_is world counts moving origin
        ∙ ap (λ o. type_at (numbers_at world graft counts) o origin)
        (some_from_is_some (group_of dest.propagation) shared).1

    stays : (mount : meant.Mount ℕ) → Among mount (mounts_in value.mounts) → {group : ℕ}
        → group_of mount.propagation ≡ Some group → group_of (typed_at kinds mount).propagation ≡ Some group
    stays mount m {group} has = by (lookup (nat_eq mount.number) kinds) refl
      where
        by : (o : Option (Propagation ℕ)) → lookup (nat_eq mount.number) kinds ≡ o
            → group_of (unwrap_or (lookup (nat_eq mount.number) kinds) mount.propagation) ≡ Some group
        by None e = ap (λ o. group_of (unwrap_or o mount.propagation)) e ∙ has
        by (Some kind) e =
            let mine = looked_up_kind mount.number own kind e in
            let becomes = Trees.becomes world counts moving in_world mount m mine.0 mine.1 mine.3 in
            cc (
              mine.2,
              becomes.1,
              kind_of_copy mount,
              group_stays ((numbers_at world graft counts).image
                  (some_from_is_some (group_of dest.propagation) shared).0 mount.number) group mount.propagation has,
            )

    groups_there : HasGroupsOf world tree
    groups_there mount contained group e =
        group_there (mounts_in value.mounts) mount (tree_among mount (among_from_contains tree mount contained)) group e

    grown : GrowBeside world then_world (changed_at points kinds) own (map mount_of come) formed
    grown = record {
      mounts = refl;
      number = λ mount. refl;
      kind = λ mount. refl;
      once = kinds_once;
      there = λ mount m.
          let from = own_number mount m in
          ap (λ n. is_among nat_eq n (numbers_of (mounts_in value.mounts))) from.2
          ∙ is_among_numbers from.0.number (numbers_of (mounts_in value.mounts))
          (among-map (λ (x : meant.Mount ℕ). x.number) (mounts_in value.mounts) from.0 (tree_among from.0 from.1));
      shared = λ mount m.
          let from = own_from mount m in
          ap (λ (x : meant.Mount ℕ). is_shared x.propagation) from.2 ∙ ap is_shared (kind_of_copy from.0)
          ∙ shared_there ((numbers_at world graft counts).image
          (some_from_is_some (group_of dest.propagation) shared).0 from.0.number) from.0.propagation;
      stays = stays;
      order = sym (ascending_rises (mounts_in value.mounts ++ map mount_of come)) ∙ rising;
      master = λ group. refl;
      begin = all_from_among (λ (entry : ℕ × Option ℕ). is_some entry.1 ≡ true
          → has_members nat_eq (own ++ map mount_of come) entry.0 ≡ true) formed (λ entry m some.
          ap (λ list. has_members nat_eq list entry.0) (sym all_are ∙ attaches.copies_are)
          ∙ among_from_all (λ (other : ℕ × Option ℕ). has_members nat_eq
          (all_copies world (numbers_at world graft counts) (location_of graft.place) graft.moves tree) other.0 ≡ true)
          (groups_formed world (numbers_at world graft counts) (location_of graft.place) graft.moves tree)
          (formed_groups_begin world (numbers_at world graft counts) (location_of graft.place) graft.moves tree)
          entry (subst (Among entry) attaches.groups_are m));
      named = λ group has. ⊎_elim inl (λ among. inr (ap (λ list. is_among nat_eq group
          (map (λ (entry : ℕ × Option ℕ). entry.0) list)) attaches.groups_are ∙ among))
          (groups_of_copies_are_named world (numbers_at world graft counts) (location_of graft.place) graft.moves tree
          groups_there group (ap (λ list. has_members nat_eq list group) (sym attaches.copies_are ∙ all_are) ∙ has));
    }

    has_then : Has then_world groups
    has_then = is.grows world then_world whole.groups
        (subst (λ types. Grows world then_world types formed) (sym all_kinds)
        (grows_beside grown whole.groups.order))

    -- the policy's world

    is_moved : IsMoved world tree
    is_moved = record {
      there = all_from_among (Contains world.mounts) tree
          (λ mount m. contains_from_among world.mounts mount (tree_among mount m));
      standing = all_from_among (λ (mount : meant.Mount ℕ). is_some mount.mount_point ≡ true) (rest_of tree)
          (λ mount m. placed mount (rest_among tree mount m));
    }

    moved_is : attach nat_eq world (counts_from value.next) place true
        (mount_tree nat_eq (mounts_in value.mounts) (mount_numbered nat_eq (world_of value) number)) ≡ then_world
    moved_is = ap (λ list. attach nat_eq world (counts_from value.next) place true list) (sym tree_is)
        ∙ (λ i. attached_by nat_eq world
        (copies_from nat_eq (λ k. sym (same_counts k) i) (parts_of nat_eq world (location_of graft.place)) tree)
        (location_of graft.place) (sym moves i) tree) ∙ attaches.move moves is_moved ∙ (λ i. record world {
          mounts = map (moved_by (map point_seen is.pushed)) (folded (with_mount nat_eq) world.mounts
              ((ap (take (length graft.tree.now)) attaches.copies_are ∙ own_taken) i))
              ++ drop-map mount_of (length graft.tree.now) is.copies i;
          master = master;
        }) ∙ ap (λ front. record world { mounts = front ++ map mount_of come; master = master })
        (Trees.all_moved world counts moving in_world is.pushed)

    under : IsUnderWay then_world
    under = subst IsUnderWay moved_is
        (given_permits_are_under_way_anywhere world (counts_from value.next) permits.task permit whole.in_world
        (given_to_task (counts_from value.next) world permits.task permit permits.given)).0

    overlays_then : OverlayInvariants nat_eq then_world
    overlays_then = subst (λ (w : World ℕ). OverlayInvariants nat_eq w) moved_is
        (given_permits_are_under_way_anywhere world (counts_from value.next) permits.task permit whole.in_world
        (given_to_task (counts_from value.next) world permits.task permit permits.given)).1

    -- all is in use

    tree_list : mount_of first ∷ map mount_of others
        ≡ mount_tree nat_eq (mounts_in value.mounts) (mount_numbered nat_eq (world_of value) number)
    tree_list = sym (ap (map mount_of) tree_now) ∙ tree_is

    can_move : CanMove world place (mount_of first) (map mount_of others)
    can_move = record {
      in_use = all_in_use world whole.in_world;
      stand = mounts_of_worlds_stand world whole.in_world;
      located = Roots.locations_of_worlds_stand world whole.in_world;
      at_attached = ap is_some may.destination.own;
      its = λ mount m. tree_among mount (subst (Among mount) (sym (ap (map mount_of) tree_now)) m);
    }

    abbrev moved_copies : Copies ℕ
    moved_copies = copies_from nat_eq (counts_from value.next) (parts_of nat_eq world place)
        (mount_of first ∷ map mount_of others)

    living_is : in_use_of then_world ≡ then_world
    living_is = subst (λ (w : World ℕ). in_use_of w ≡ w) moved_is
        (subst (λ list. in_use_of (attach nat_eq world (counts_from value.next) place true list)
        ≡ attach nat_eq world (counts_from value.next) place true list) tree_list
        (living_moved can_move moved_copies))

    lives : list_all (mount_lives nat_eq then_world) then_world.mounts ≡ true
    lives = subst (λ (w : World ℕ). list_all (mount_lives nat_eq w) w.mounts ≡ true) moved_is
        (subst (λ list. list_all (mount_lives nat_eq (attach nat_eq world (counts_from value.next) place true list))
        (attach nat_eq world (counts_from value.next) place true list).mounts ≡ true) tree_list
        (mounts_live can_move moved_copies))

    -- what was mounted is mounted still
    overlays_mounted : AreStillMounted value then_world
    overlays_mounted = all_from_among (λ (overlay : Filesystem ℕ). is_mounted nat_eq then_world overlay.number ≡ true)
        (overlays_seen value.overlays) (λ f m.
        list_any-append (λ (mount : meant.Mount ℕ). nat_eq f.number mount.filesystem)
        (map (changed_at points kinds) (mounts_in value.mounts)) (map mount_of come)
        ∙ or_left (list_any (λ (mount : meant.Mount ℕ). nat_eq f.number mount.filesystem)
        (map (changed_at points kinds) (mounts_in value.mounts))) _
        (any-map (λ (mount : meant.Mount ℕ). nat_eq f.number mount.filesystem) (changed_at points kinds)
        (mounts_in value.mounts) (λ mount. refl)
        ∙ among_from_all (λ (overlay : Filesystem ℕ). is_mounted nat_eq world overlay.number ≡ true)
        (overlays_seen value.overlays) (still_mounted value whole world (λ number. refl)) f m))

    has_settled : Has (settled nat_eq then_world) groups
    has_settled = settled_has then_world groups has_then (λ mount m dead.
        absurd (true≢false
        (sym (among_from_list_all (mount_lives nat_eq then_world) then_world.mounts lives mount m) ∙ dead)))

    -- what is counted

    swept : IsSwept value then_world
        (inodes_of_points (points_taken points value.mounts) ++ gained_by come) (inodes_of_points is.left) new
    swept = record {
      files = refl;
      midway = record { overlays = overlays_are value whole.overlays; rise = whole.overlays.all_rise };
      overlays = overlays_same value (is_beside value whole) come overlays (ap (λ k. k.overlays) entered.done)
          ∙ all_shown value (in_use_of then_world) (subst (AreStillMounted value) (sym living_is) overlays_mounted);
      mounts = ap (λ (w : World ℕ). w.mounts) living_is ∙ sym mounts_seen;
      numbers = ap (λ (w : World ℕ). map (λ (f : Filesystem ℕ). f.number) (filter is_plain_one w.filesystems)) living_is
          ∙ ap (map (λ (f : Filesystem ℕ). f.number)) (plain_ones_are value whole.overlays)
          ∙ same_numbers (same_base value whole) entered formed groups next;
      entries = λ entry m.
          let from = from_base (same_base value whole) entered formed groups next entry m in
          record {
            was = from.0;
            among = from.1;
            count = ap (λ (one : Shown). one.count) from.2;
            there = gained_there entered.can master kinds under from.0 from.1;
            inodes = ap (λ (one : Shown). one.inodes) from.2;
            exchanges = subst (λ (w : World ℕ). Exchanges
                (inodes_of_points (points_taken points value.mounts) ++ gained_by come) (inodes_of_points is.left)
                (counted from.0.count) (of_lowers world) (of_lowers w)) (sym living_is)
                (exchanges_of_lowers {world = world} {after = then_world} refl
                (exchanged_then entered.can master kinds under (counted from.0.count)));
          };
      namespaces = refl;
      tasks = refl;
    }

    left_then : IsWorld nat_eq (settled nat_eq then_world)
    left_then = subst (λ (w : World ℕ). IsWorld nat_eq (settled nat_eq w)) moved_is
        (left_is_world whole takes)

    shows_then : ShowsAs (settled nat_eq then_world) new
    shows_then = shows_left value whole then_world (record {
      policy = then_world;
      under = under;
      overlays = overlays_then;
      left = refl;
      files = refl;
    })
        (inodes_of_points (points_taken points value.mounts) ++ gained_by come) (inodes_of_points is.left) new swept
        has_settled left_then

    named : KeepsTo (is_counted_before (value.next + numbers_of_parts world (location_of graft.place)
        (mount_tree nat_eq (mounts_in value.mounts) (mount_numbered nat_eq (world_of value) number))))
        (left_by value permits.task permit)
    named = moves_keep_to_numbers value.next world permits.task number (location_of graft.place) permits.given.called
        whole.given (λ i. attached_named value whole number namespace may.own i
        && located_is_named value whole (location_of graft.place) may.destination.directory.reached.there i)

    pub move_is_done : next ≡ value.next + 2 * (length graft.parts.now * length graft.tree.now)
        → IsDone value name permit new
    move_is_done grows =
        let sizes : numbers_of_parts world (location_of graft.place)
        (mount_tree nat_eq (mounts_in value.mounts) (mount_numbered nat_eq (world_of value) number))
        ≡ 2 * (length graft.parts.now * length graft.tree.now) =
        (λ i. 2 * (length (sym parts_are i) * length (sym tree_is i)))
        ∙ (λ i. 2 * (length-map graft.parts.now mount_of i * length-map graft.tree.now mount_of i)) in
        numbers_are_kept whole takes
        (overlays_same value (is_beside value whole) come overlays (ap (λ k. k.overlays) entered.done))
        (subst (λ (w : World ℕ). ShowsAs (settled nat_eq w) new) (sym moved_is) shows_then)
        (counts_then (same_base value whole) entered formed groups next)
        (own_then (same_base value whole) entered formed groups next)
        (subst (λ n. KeepsTo (is_counted_before n) (left_by value permits.task permit))
        (ap (λ n. value.next + n) sizes ∙ sym grows) named)
