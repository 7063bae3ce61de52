-- Mounts get other mount points, and then others are detached and leave their groups: an unmount at all receivers.
use Rattle.std.proofs.Common.{◌≡◌, refl, sym, ap, subst, ◌∙◌, inl, ℕ, nat_eq, eqb-true, Bool, true, false, true≢false, cond, ◌&&◌, List, [], map, find, Option, Some, None, option_map, is_some, unwrap_or, option_to_list, arith}
use Rattle.vt_spec.proofs.Common.{Location, Mount, Permit, Stands, Task, TaskName, World, and_parts, filesystem_numbered, has_its_root, is_among, is_directory_at, is_directory_node, is_going, is_located, is_located_well, is_nowhere_or_attached, is_there, list_all, lookup, map_twice, mount_at, mount_in, mount_numbered, no_mount, node_at, or_else, or_false_left, settled, shown-mapped, with_mounts, without_dead_groups, common_steps}
use Rattle.std.proofs.lemmas.Option.{none-some}
use Rattle.vt_ns.proofs.Common.{Among, CountsWhatIsInIt, Filesystems, Grouping, Has, HasChildrenOf, IsApplied, IsDone, IsHeld, IsKeptBut, IsUnderWay, LeaveInTurn, Merged, MountEntry, Point, WorldValue, all_from_among, among-from_map, among-map, among_from_all, among_from_list_all, counted, detached_world, directory_is_there, found_is_there, found_itself, found_mapped, given_permits_are_under_way_anywhere, given_to_task, in_use_of, is_among_numbers, is_small, kept_of, kept_with, location_of, mounts_of_worlds_stand, moved_by, point_seen, points_left, points_taken, remade_with, supply_of, with_planned, world_of}
use Rattle.vt_group.specs.Laws.{typed_by}
use Rattle.vt_laws_mounts.specs.LettingGo.Leaving.{stands_on_attached}
use Rattle.vt_laws_mounts.proofs.letting_go.leaving.PlacesLeft.{number-mount_in}
use Rattle.vt_location.specs.declared.locations.Location.{Location as At}
use Rattle.vt_propagate.specs.Falling.{left_by}
use Rattle.vt_mounting.proofs.detach.DetachingBegins.{detaching_begins}
use Rattle.vt_mounting.proofs.detach.DetachingEnds.{detached_counted, detached_swept}
use Rattle.vt_mounting.proofs.detach.Finishing.{finished_as}
use Rattle.vt_mounting.proofs.detach.Grouped.{settled_has, stays_private}
use Rattle.vt_mounting.proofs.detach.Keeping.{detached_in}
use Rattle.vt_mounting.proofs.detach.Leaving.{found_in}
use Rattle.vt_mounting.proofs.detach.MidwayBegins.{parent_inside}
use Rattle.vt_mounting.proofs.detach.TypedEvents.{counts_typed, swept_typed, typed_value}
use Rattle.vt_mounting.proofs.detach.TypedWorlds.{typed_world}
use Rattle.vt_laws_mounts.proofs.letting_go.SweptBetween.{settled_without_groups}
use Rattle.vt_mounting.proofs.detach.UnmountedLazily.{all_detached}
use Rattle.vt_laws_mounts.proofs.mounts.MountsFound.{placed_among}
use Rattle.vt_ns.proofs.world.PointsMoved.{MayMove, gained, lost, moved_is_kept, moved_world, looked_up}
use Rattle.vt_laws_worlds.specs.Permits.Taken.{is_ungrouped}

-- a mount with a mount point is in a namespace
placed_is_attached : (mount : Mount ℕ) → is_nowhere_or_attached mount ≡ true → is_some mount.mount_point ≡ true
    → is_some mount.namespace ≡ true
placed_is_attached mount is placed = grind (arith, common_steps)

-- one that is in none has no mount point
outside_is_placeless : (mount : Mount ℕ) → is_nowhere_or_attached mount ≡ true → is_some mount.namespace ≡ false
    → mount.mount_point ≡ None
outside_is_placeless mount is none = grind (arith, common_steps)

-- The policy's world, before what nothing uses goes: `gone` are detached, the others stand at these mount points, and
-- each mount has
-- the type that the groups tell.
module _ (value : WorldValue) (whole : IsHeld value) (name : TaskName) (permit : Permit ℕ) (task : Task ℕ)
    (policy : World ℕ)
    (is : IsApplied value name permit task policy) (gone : List ℕ) (points : List Point) (groups : Grouping)
    (has : Has policy groups) (same : without_dead_groups nat_eq policy
    ≡ typed_world groups (with_mounts (world_of value)
    (map (left_by gone (map point_seen points)) (world_of value).mounts))) (tells : (point : Point) → Among point points
    → (mount_numbered nat_eq policy (counted point.mount.count)).mount_point ≡ Some (location_of point.place)) where
  abbrev world : World ℕ
  world = world_of value

  abbrev moved : Mount ℕ → Mount ℕ
  moved = moved_by (map point_seen points)

  -- what becomes of a mount
  abbrev final : Mount ℕ → Mount ℕ
  final mount = typed_by groups (left_by gone (map point_seen points) mount)

  under_way : IsUnderWay policy
  under_way = subst IsUnderWay (is.applied (supply_of value permit))
      (given_permits_are_under_way_anywhere world (supply_of value permit) task permit whole.in_world
      (given_to_task (supply_of value permit) world task permit is.given)).0

  same_mounts : policy.mounts ≡ map final world.mounts
  same_mounts = grind (arith, common_steps, map_twice, map)

  same_filesystems : policy.filesystems ≡ world.filesystems
  same_filesystems = ap (λ (w : World ℕ). w.filesystems) same

  final_number : (mount : Mount ℕ) → (final mount).number ≡ mount.number
  final_number mount = grind (arith, common_steps)

  final_filesystem : (mount : Mount ℕ) → (final mount).filesystem ≡ mount.filesystem
  final_filesystem mount = grind (arith, common_steps)

  final_gone : (mount : Mount ℕ) → is_going nat_eq gone mount.number ≡ true
      → ((final mount).namespace ≡ None) × ((final mount).mount_point ≡ None)
  final_gone mount e = grind (arith, common_steps)

  final_stays : (mount : Mount ℕ) → is_going nat_eq gone mount.number ≡ false
      → ((final mount).namespace ≡ mount.namespace) × ((final mount).mount_point ≡ (moved mount).mount_point)
  final_stays mount e = grind (arith, common_steps)

  final_among : (mount : Mount ℕ) → Among mount world.mounts → Among (final mount) policy.mounts
  final_among mount m = subst (Among (final mount)) (sym same_mounts) (among-map final world.mounts mount m)

  final_found : (mount : Mount ℕ) → Among mount world.mounts → mount_numbered nat_eq policy mount.number ≡ final mount
  final_found mount m = ap (mount_numbered nat_eq policy) (sym (final_number mount))
      ∙ found_itself policy.mounts under_way.mounts.one_number (final mount) (final_among mount m)

  -- a mount that is attached then was so before, and does not go
  attached_before : (number : ℕ) → is_some (mount_numbered nat_eq policy number).namespace ≡ true
      → (is_going nat_eq gone number ≡ false) × (is_some (mount_numbered nat_eq world number).namespace ≡ true)
  attached_before number attached = by (find (λ (x : Mount ℕ). nat_eq number x.number) world.mounts) refl
      (sym (ap (λ (x : Mount ℕ). is_some x.namespace) (ap (λ all. mount_in nat_eq all number) same_mounts
      ∙ ap (λ o. unwrap_or o (no_mount number)) (found_mapped final final_number world.mounts number))) ∙ attached)
    where
      by : (o : Option (Mount ℕ)) → find (λ (x : Mount ℕ). nat_eq number x.number) world.mounts ≡ o
          → is_some (unwrap_or (option_map final o) (no_mount number)).namespace ≡ true
          → (is_going nat_eq gone number ≡ false) × (is_some (unwrap_or o (no_mount number)).namespace ≡ true)
      by None e f = absurd (true≢false (sym f))
      by (Some mount) e f = going (is_going nat_eq gone mount.number) refl
        where
          its : mount.number ≡ number
          its = sym (eqb-true number mount.number
              (found_in (λ (x : Mount ℕ). nat_eq number x.number) world.mounts mount e).1)

          going : (b : Bool) → is_going nat_eq gone mount.number ≡ b
              → (is_going nat_eq gone number ≡ false) × (is_some mount.namespace ≡ true)
          going b g = grind (arith, common_steps, is_some, final_gone, its, final_stays)

  -- the mount that it stands on is attached
  parent_attached : (mount : Mount ℕ) → Among mount policy.mounts → (place : Location ℕ)
      → mount.mount_point ≡ Some place → is_some (mount_at nat_eq policy place).namespace ≡ true
  parent_attached mount m place at = ap is_some (sym (parent_inside policy under_way.mounts.one_number
      (λ x n. among_from_all (λ (y : Mount ℕ). Stands nat_eq policy y.number) policy.mounts under_way.mounts.standing
      x n) mount m place at))
      ∙ placed_is_attached mount
      (among_from_list_all is_nowhere_or_attached policy.mounts under_way.mounts.nowhere mount m)
      (ap is_some at)

  -- a mount point is there
  place_is_there : (mount : Mount ℕ) → Among mount policy.mounts → (place : Location ℕ) → mount.mount_point ≡ Some place
      → is_located_well nat_eq world place ≡ true
  place_is_there mount m place at = λ i. among i && (there_before ∙ there_after) i
    where
      attached : is_some (mount_numbered nat_eq world place.mount).namespace ≡ true
      attached = (attached_before place.mount (parent_attached mount m place at)).1

      among : is_among nat_eq place.mount (map (λ (x : Mount ℕ). x.number) world.mounts) ≡ true
      among = is_among_numbers place.mount (map (λ (x : Mount ℕ). x.number) world.mounts)
          (subst (λ n. Among n (map (λ (x : Mount ℕ). x.number) world.mounts))
          (number-mount_in world.mounts place.mount)
          (among-map (λ (x : Mount ℕ). x.number) world.mounts (mount_in nat_eq world.mounts place.mount)
          (found_is_there world.mounts place.mount attached)))

      there_after : is_there nat_eq policy (mount_at nat_eq policy place).filesystem place.node ≡ true
      there_after = directory_is_there (node_at nat_eq policy place)
          (among_from_list_all (is_directory_at nat_eq policy) (option_to_list mount.mount_point)
          (and_parts (is_directory_node ((filesystem_numbered nat_eq policy mount.filesystem).files.tree.node mount.root))
          (list_all (is_directory_at nat_eq policy) (option_to_list mount.mount_point))
          (among_from_list_all (has_its_root nat_eq policy) policy.mounts under_way.roots mount m)).1 place
          (subst (λ o. Among place (option_to_list o)) (sym at) (inl refl)))

      shows : (mount_at nat_eq world place).filesystem ≡ (mount_at nat_eq policy place).filesystem
      shows = cc (same_mounts, shown-mapped final final_number final_filesystem world.mounts place.mount)

      there_before : is_there nat_eq world (mount_at nat_eq world place).filesystem place.node
          ≡ is_there nat_eq policy (mount_at nat_eq policy place).filesystem place.node
      there_before = λ i. is_there nat_eq (record world { filesystems = sym same_filesystems i }) (shows i) place.node

  -- a mount that goes is in no list of new mount points
  gone_stays : (mount : Mount ℕ) → Among mount world.mounts → is_going nat_eq gone mount.number ≡ true
      → (moved mount).mount_point ≡ mount.mount_point
  gone_stays mount m goes = by (lookup (nat_eq mount.number) (map point_seen points)) refl
    where
      by : (o : Option (Location ℕ)) → lookup (nat_eq mount.number) (map point_seen points) ≡ o
          → or_else o mount.mount_point ≡ mount.mount_point
      by None e = refl
      by (Some place) e =
          let from = among-from_map point_seen points (mount.number, place) (looked_up mount.number (map point_seen
          points) place e) in
          grind (
            arith,
            common_steps,
            none-some (location_of from.0.place) (sym (final_gone mount goes).1 ∙ ap (λ (x
                : Mount ℕ). x.mount_point) (sym (final_found mount m)) ∙ ap (λ n. (mount_numbered nat_eq policy
                n).mount_point) (ap (λ (pair : ℕ × Location ℕ). pair.0) from.2) ∙ tells from.0 from.1),
          )

  may : MayMove value points
  may = record {
    each = λ point m. place_is_there (mount_numbered nat_eq policy (counted point.mount.count))
        (placed_among policy.mounts (counted point.mount.count) (location_of point.place) (tells point m))
        (location_of point.place) (tells point m);
    attached = λ mount m place at. attached mount m place at (is_going nat_eq gone mount.number) refl;
    outside = λ mount m none. outside mount m none (is_going nat_eq gone mount.number) refl;
  }
    where
      attached : (mount : Mount ℕ) → Among mount world.mounts → (place : Location ℕ)
          → (moved mount).mount_point ≡ Some place
          → (b : Bool) → is_going nat_eq gone mount.number ≡ b → is_some (mount_at nat_eq world place).namespace ≡ true
      attached mount m place at true goes = among_from_list_all
          (λ (one : Location ℕ). is_some (mount_at nat_eq world one).namespace)
          (option_to_list mount.mount_point) (among_from_list_all (stands_on_attached world) world.mounts
          (mounts_of_worlds_stand world whole.in_world).on_attached mount m) place
          (subst (λ o. Among place (option_to_list o)) (sym at ∙ gone_stays mount m goes) (inl refl))
      attached mount m place at false goes =
          (attached_before place.mount (parent_attached (final mount) (final_among mount m) place
          ((final_stays mount goes).1 ∙ at))).1

      outside : (mount : Mount ℕ) → Among mount world.mounts → is_some mount.namespace ≡ false → (b : Bool)
          → is_going nat_eq gone mount.number ≡ b → (moved mount).mount_point ≡ None
      outside mount m none true goes =
          grind (arith, common_steps, gone_stays, outside_is_placeless, among_from_list_all)
      outside mount m none false goes = sym (final_stays mount goes).1 ∙ outside_is_placeless (final mount)
          (among_from_list_all is_nowhere_or_attached policy.mounts under_way.mounts.nowhere (final mount)
          (final_among mount m))
          (ap is_some (final_stays mount goes).0 ∙ none)

  -- no mount that stays is on one that goes
  closed : HasChildrenOf gone (moved_world value points).mounts
  closed mount m place at on =
      let from = among-from_map moved world.mounts mount m in
      ap (λ (x : Mount ℕ). is_among nat_eq x.number gone) from.2
      ∙ by from.0 from.1 (ap (λ (x : Mount ℕ). x.mount_point) (sym from.2) ∙ at)
      (is_going nat_eq gone from.0.number) refl
    where
      by : (was : Mount ℕ) → Among was world.mounts → (moved was).mount_point ≡ Some place → (b : Bool)
          → is_going nat_eq gone was.number ≡ b → is_going nat_eq gone was.number ≡ true
      by was n at true e = e
      by was n at false e = absurd (true≢false (sym on ∙ (attached_before place.mount
          (parent_attached (final was) (final_among was n) place ((final_stays was e).1 ∙ at))).0))

  -- the mounts move first, and are detached then
  abbrev start : World ℕ
  start = detached_world gone (moved_world value points)

  start_is : with_mounts world (map (left_by gone (map point_seen points)) world.mounts) ≡ start
  start_is = cc (map_twice (detached_in gone) moved world.mounts)

  abbrev typed : World ℕ
  typed = typed_world groups start

  same_typed : without_dead_groups nat_eq policy ≡ typed
  same_typed = same ∙ ap (typed_world groups) start_is

  typed_has : Has typed groups
  typed_has = grind (arith, common_steps, same_typed, cond)

  settled_typed_has : Has (settled nat_eq typed) groups
  settled_typed_has = settled_has typed groups typed_has (λ mount m dead.
      ap is_ungrouped
      (stays_private mount (among_from_list_all is_nowhere_or_attached policy.mounts under_way.mounts.nowhere mount
      (subst (Among mount) (sym (ap (λ (w : World ℕ). w.mounts) same_typed)) m)) false
      (or_false_left (is_some mount.namespace) (is_located nat_eq typed mount.number) dead)))

  alike : settled nat_eq policy ≡ settled nat_eq typed
  alike = sym (settled_without_groups policy) ∙ ap (settled nat_eq) same_typed

  module _ (left : List At) (left_are : map location_of left ≡ points_left points value.mounts)
      (left_small : list_all is_small left ≡ true)
      (taken_small : list_all is_small (points_taken points value.mounts) ≡ true) (between : List MountEntry)
      (between_files : Filesystems) (between_merged : List Merged)
      (is_kept : kept_with between between_files between_merged ≡ with_planned [] points left (kept_of value)) where
    -- what is moved and then detached is what the unmount leaves
    pub moved_then_detached : (mounts : List MountEntry) (filesystems : Filesystems) (overlays : List Merged)
        → LeaveInTurn gone (kept_with between between_files between_merged) (kept_with mounts filesystems overlays)
        → IsDone value name permit (typed_value groups (remade_with value mounts filesystems overlays value.tasks))
    moved_then_detached mounts filesystems overlays turn =
        let come = gained value whole points may in
        let go = lost value whole points may in
        let untyped = remade_with value mounts filesystems overlays value.tasks in
        let detaching = all_detached value come (in_use_of start) gone (kept_with between between_files between_merged)
        (kept_with mounts filesystems overlays)
        (detaching_begins value come go (moved_world value points) (kept_with between between_files between_merged)
        (moved_is_kept value whole points may left left_are left_small taken_small between between_files
        between_merged is_kept) gone closed) turn in
        let kept_last = subst (λ one. IsKeptBut value [] [] come detaching.lost one
        (kept_with mounts filesystems overlays)) detaching.ends detaching.is in
        finished_as value whole name permit task policy is typed alike same_filesystems come detaching.lost (typed_value groups untyped)
        (swept_typed groups untyped value start come detaching.lost
        (detached_swept value start come detaching.lost untyped overlays kept_last refl refl refl refl refl))
        settled_typed_has
        (counts_typed groups untyped
        (detached_counted value start come detaching.lost untyped overlays kept_last refl refl
        (all_from_among (CountsWhatIsInIt (world_of untyped)) value.namespaces (λ entry m.
        let was = among_from_all (CountsWhatIsInIt world) value.namespaces whole.namespaces entry m in record { tasks = was.tasks }))))
        refl
