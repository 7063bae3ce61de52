-- The begin in a world with its invariants, and the end: where all mounts of a list are detached, the sweep's world is
-- left.
use Rattle.std.proofs.Common.{◌≡◌, refl, sym, ap, subst, ◌∙◌, inl, ℕ, ◌+◌, nat_eq, Bool, true, false, true≢false, cond, ◌&&◌, List, [], map, filter, Option, Some, None, option_map, is_some, All, option_to_list, map-id, arith}
use Rattle.vt_spec.proofs.Common.{Filesystem, Location, Mount, Permit, Private, Task, TaskName, World, after_going, and_parts, common_steps, detached, filesystem_numbered, has_its_root, is_among, is_directory_at, is_directory_node, is_located, is_located_well, is_mounted, is_nowhere_or_attached, is_there, list_all, map_alike, map_twice, mount_at, mount_in, inherited_mount_point, node_at, or_false_left, regrouped, taken_away, with_mounts, without_changes}
use Rattle.vt_mounting.proofs.Common.{Among, CountsItsMounts, CountsItsUses, CountsWhatIsInIt, Exchanges, Filesystems, Inode, IsHeld, IsMountedSoOften, MountEntry, Shown, WorldValue, all_from_among, all_in_use, among-from_map, among-map, among_from_all, among_from_list_all, counted, directory_is_there, filesystem_seen, found_is_there, in_use_of, is_among_numbers, is_ungrouped, layer_count, location_of, mount_uses, mounts_in, mounts_of_worlds_stand, mounts_showing, number-mount_in, overlays_seen, shown_entry, stands_on_attached, times, world_of, writes_of}
use Rattle.vt_laws_mounts.proofs.counts.using.MountRoots as Roots
use Rattle.vt_laws_mounts.proofs.letting_go.mounting.MountingTaken as Taken
use Rattle.vt_mounting.specs.Detach.Uses.{Merged, kept_of, kept_with, overlays_kept}
use Rattle.vt_mounting.proofs.detach.Bridging.{IsSwept}
use Rattle.vt_mounting.proofs.detach.Detached.{IsDetaching}
use Rattle.vt_mounting.proofs.detach.DetachingBegins.{HasChildrenOf, detached_world}
use Rattle.vt_mounting.proofs.detach.Finishing.{CountsBeside, IsApplied, finished}
use Rattle.vt_mounting.proofs.detach.GoneAlone.{alone_has, alone_regroups}
use Rattle.vt_mounting.proofs.detach.Grouped.{settled_has}
use Rattle.vt_mounting.proofs.detach.Keeping.{IsKeptBut, detached_in, no_more}
use Rattle.vt_mounting.proofs.detach.LocationsSeen.{seen_where_located}
use Rattle.vt_mounting.proofs.detach.LowerLayers.{of_lowers}
use Rattle.vt_mounting.proofs.detach.MountsLeave.{leaves_at_first, merged_at_first}
use Rattle.vt_mounting.proofs.detach.Overlaid.{keeps_itself, layers_of_fewer, plain_ones_are, same_files_keep}
use Rattle.vt_mounting.proofs.detach.Remaining.{remade_with}
use Rattle.vt_mounting.proofs.detach.OverlaysRemade.{counted_kept, seen_kept}
use Rattle.vt_mounting.proofs.detach.Staying.{IsDone}

-- What is kept of a world with its invariants

module _ (value : WorldValue) (whole : IsHeld value) where
  abbrev world : World ℕ
  world = world_of value

  -- mount points are there
  pub point_located : (mount : Mount ℕ) → Among mount world.mounts → (place : Location ℕ) → mount.mount_point ≡ Some
      place
      → is_located_well nat_eq world place ≡ true
  point_located mount m place p = λ i. among i && there i
    where
      at_point : Among place (option_to_list mount.mount_point)
      at_point = subst (λ o. Among place (option_to_list o)) (sym p) (inl refl)

      attached : is_some (mount_at nat_eq world place).namespace ≡ true
      attached =
          among_from_list_all (λ (one : Location ℕ). is_some (mount_at nat_eq world one).namespace)
          (option_to_list mount.mount_point)
          (among_from_list_all (stands_on_attached world) world.mounts
          (mounts_of_worlds_stand world whole.in_world).on_attached mount m) place at_point

      among : is_among nat_eq place.mount (map (λ (x : Mount ℕ). x.number) world.mounts) ≡ true
      among = is_among_numbers place.mount (map (λ (x : Mount ℕ). x.number) world.mounts)
          (subst (λ n. Among n (map (λ (x : Mount ℕ). x.number) world.mounts))
          (number-mount_in world.mounts place.mount)
          (among-map (λ (x : Mount ℕ). x.number) world.mounts (mount_in nat_eq world.mounts place.mount)
          (found_is_there world.mounts place.mount attached)))

      there : is_there nat_eq world (mount_at nat_eq world place).filesystem place.node ≡ true
      there = directory_is_there (node_at nat_eq world place)
          (among_from_list_all (is_directory_at nat_eq world) (option_to_list mount.mount_point)
          (and_parts (is_directory_node ((filesystem_numbered nat_eq world mount.filesystem).files.tree.node mount.root))
          (list_all (is_directory_at nat_eq world) (option_to_list mount.mount_point))
          (among_from_list_all (has_its_root nat_eq world) world.mounts whole.in_world.roots mount m)).1 place at_point)

  pub held_is_kept : IsKeptBut value [] [] [] [] world (kept_of value)
  held_is_kept = record {
    held = whole;
    merged = merged_at_first value whole;
    mounts = sym (map-id (mounts_in value.mounts));
    uses = whole.mounts;
    numbers = ap (map (λ (f : Filesystem ℕ). f.number)) (plain_ones_are value whole.overlays)
        ∙ map_twice (λ (f : Filesystem ℕ). f.number) filesystem_seen value.filesystems
        ∙ sym (map_twice (λ (one : Shown). counted one.count) shown_entry value.filesystems);
    filesystems = λ one m. let from = among-from_map shown_entry value.filesystems one m in record {
      was = from.0;
      among = from.1;
      count = ap (λ (x : Shown). x.count) from.2;
      there = refl;
      inodes = ap (λ (x : Shown). x.inodes) from.2;
      exchanges = record { same = refl; uses = λ n. refl };
      mounts = ap (λ (x : Shown). x.mounts) from.2
          ∙ (among_from_all (CountsItsMounts world) value.filesystems whole.filesystems from.0 from.1).mounts
          ∙ ap (λ n. mounts_showing world (counted n) + layer_count world (counted n))
          (sym (ap (λ (x : Shown). x.count) from.2));
    };
    stand = mounts_of_worlds_stand world whole.in_world;
    located = Roots.locations_of_worlds_stand world whole.in_world;
    in_use = (all_in_use world whole.in_world).mounts;
    mounted = (all_in_use world whole.in_world).filesystems;
    leaves = leaves_at_first value whole;
    points = λ mount m point p few. seen_where_located value whole point few
        (point_located mount m (location_of point) p);
    places = λ mount m place p. refl;
  }

-- The end

module _ (old : WorldValue) (after : World ℕ) (gained lost : List Inode) (new : WorldValue) (overlays : List Merged)
    (is : IsKeptBut old [] [] gained lost (in_use_of after) (kept_with new.mounts new.filesystems overlays))
    (same_tasks : after.tasks ≡ new.tasks) (same_overlays : new.overlays ≡ overlays_kept overlays old.overlays) where
  mounts_are : (in_use_of after).mounts ≡ mounts_in new.mounts
  mounts_are = is.mounts ∙ map-id (mounts_in new.mounts)

  -- the overlays are those of before that mounts show still
  overlays_left : overlays_seen new.overlays
      ≡ filter (λ overlay. is_mounted nat_eq (in_use_of after) overlay.number) (overlays_seen old.overlays)
  overlays_left = ap overlays_seen same_overlays ∙ seen_kept is.held is.leaves is.merged

  pub detached_swept : after.filesystems ≡ (world_of old).filesystems
      → (without_changes after).namespaces ≡ (without_changes (world_of new)).namespaces
      → (without_changes after).tasks ≡ (without_changes (world_of new)).tasks → IsSwept old after gained lost new
  detached_swept files namespaces tasks = record {
    files = files;
    midway = same_files_keep old (world_of old) after files (keeps_itself old is.held.overlays);
    overlays = overlays_left;
    mounts = mounts_are;
    numbers = is.numbers ∙ map_twice (λ (one : Shown). counted one.count) shown_entry new.filesystems;
    entries = λ entry m. let from = is.filesystems (shown_entry entry)
        (among-map shown_entry new.filesystems entry m) in record {
          was = from.was;
          among = from.among;
          count = from.count;
          there = from.there;
          inodes = from.inodes;
          exchanges = subst (λ all. Exchanges gained all (counted from.was.count) (of_lowers (world_of old))
              (of_lowers (in_use_of after))) (no_more lost) from.exchanges;
        };
    namespaces = namespaces;
    tasks = tasks;
  }

  pub detached_counted : All (CountsWhatIsInIt (world_of new)) new.namespaces → CountsBeside new
  detached_counted inside = record {
    uses = all_from_among (CountsItsUses (world_of new)) new.mounts (λ entry m.
        let counts = among_from_all (CountsItsUses (in_use_of after)) new.mounts is.uses entry m in
        record {
          uses = counts.uses ∙ (λ i. mount_uses (record after { tasks = same_tasks i }) entry.mount.number);
          writers = counts.writers ∙ (λ i. writes_of entry.mount.number (same_tasks i));
        });
    mounts = λ entry m. (is.filesystems (shown_entry entry) (among-map shown_entry new.filesystems entry m)).mounts
        ∙ (λ i. times (λ (mount : Mount ℕ). nat_eq (counted entry.count) mount.filesystem) (mounts_are i)
        + sym (layers_of_fewer new is.held.overlays (λ overlay. is_mounted nat_eq (in_use_of after) overlay.number)
        overlays_left (in_use_of after) is.leaves.overlays (counted entry.count)) i);
    overlays = all_from_among (IsMountedSoOften (world_of new)) new.overlays (λ entry m.
        among_from_all (IsMountedSoOften (in_use_of after)) (overlays_kept overlays old.overlays)
        (counted_kept is.held is.leaves is.merged) entry (subst (λ all. Among entry all) same_overlays m)
        ∙ (λ i. times (λ (mount : Mount ℕ). nat_eq entry.number mount.filesystem) (mounts_are i)));
    namespaces = inside;
  }

-- Mounts that are taken away with all on them are detached.

pub taken_regroups : (world : World ℕ) (gone : List ℕ) → HasChildrenOf gone world.mounts
    → taken_away nat_eq world gone ≡ regrouped nat_eq (detached_world gone world)
taken_regroups world gone closed = ap (λ mounts. regrouped nat_eq (with_mounts world mounts))
    (map_alike (after_going nat_eq world gone) (detached_in gone) world.mounts
    (λ mount m. same mount m (is_among nat_eq mount.number gone) refl))
  where
    stays_placed : (mount : Mount ℕ) → Among mount world.mounts → is_among nat_eq mount.number gone ≡ false
        → (o : Option (Location ℕ)) → mount.mount_point ≡ o → option_map (inherited_mount_point nat_eq world gone) o ≡ o
    stays_placed mount m e None p = refl
    stays_placed mount m e (Some place) p = ap (option_map (inherited_mount_point nat_eq world gone)) (sym p)
        ∙ ap (λ (x : Mount ℕ). x.mount_point) (sym (Taken.stays_there world gone world.namespaces mount e))
        ∙ Taken.same_place world gone world.namespaces false mount place p e
        (other (is_among nat_eq place.mount gone) refl)
      where
        other : (b : Bool) → is_among nat_eq place.mount gone ≡ b → b ≡ false
        other true h = absurd (true≢false (sym (closed mount m place p h) ∙ e))
        other false h = refl

    same : (mount : Mount ℕ) → Among mount world.mounts → (b : Bool) → is_among nat_eq mount.number gone ≡ b
        → cond b (detached mount) (record mount {
          mount_point = option_map (inherited_mount_point nat_eq world gone) mount.mount_point;
        }) ≡ cond b (detached mount) mount
    same mount m true e = refl
    same mount m false e = ap (λ place. record mount { mount_point = place })
        (stays_placed mount m e mount.mount_point refl)

-- a mount that is in no namespace then is private
pub detached_is_private : (world : World ℕ) (gone : List ℕ) → list_all is_nowhere_or_attached world.mounts ≡ true
    → (mount : Mount ℕ) → Among mount (detached_world gone world).mounts → is_some mount.namespace ≡ false
    → mount.propagation ≡ Private
detached_is_private world gone nowhere mount m none = grind (arith, common_steps, among_from_list_all, among-from_map)

-- An event in which mounts of a list are detached, and nothing else happens

-- where these mounts are in no group
pub detached_done : {value : WorldValue} {name : TaskName} {permit : Permit ℕ} {task : Task ℕ} (gone : List ℕ)
    (mounts : List MountEntry) (filesystems : Filesystems) (overlays : List Merged)
    → IsHeld value → HasChildrenOf gone (mounts_in value.mounts)
    → ((mount : Mount ℕ) → Among mount (mounts_in value.mounts) → is_among nat_eq mount.number gone ≡ true
    → is_ungrouped mount.propagation ≡ true)
    → IsApplied value name permit task (taken_away nat_eq (world_of value) gone)
    → IsDetaching value [] (in_use_of (detached_world gone (world_of value))) [] (kept_with mounts filesystems overlays)
    → IsDone value name permit (remade_with value mounts filesystems overlays value.tasks)
detached_done {value} {name} {permit} {task} gone mounts filesystems overlays whole closed free is detaching =
    let world = world_of value in
    let after = detached_world gone world in
    let new = remade_with value mounts filesystems overlays value.tasks in
    let kept_last = subst (λ one. IsKeptBut value [] [] [] detaching.lost one
    (kept_with mounts filesystems overlays)) detaching.ends detaching.is in
    let live = whole.in_world.mounts.groups in
    finished value whole name permit task after (record {
      called = is.called;
      given = is.given;
      named = is.named;
      applied = λ fresh. is.applied fresh ∙ taken_regroups world gone closed
          ∙ alone_regroups whole.groups live gone free;
    }) [] detaching.lost new (detached_swept value after [] detaching.lost new overlays kept_last refl refl
    refl refl refl)
    (settled_has after value.groups (alone_has whole.groups live gone free) (λ mount m dead. ap is_ungrouped
    (detached_is_private world gone whole.in_world.mounts.nowhere mount m
    (or_false_left (is_some mount.namespace) (is_located nat_eq after mount.number) dead))))
    (detached_counted value after [] detaching.lost new overlays kept_last refl refl
    (all_from_among (CountsWhatIsInIt (world_of new)) value.namespaces (λ entry m.
    let was = among_from_all (CountsWhatIsInIt
    (world_of value)) value.namespaces whole.namespaces entry m in record { tasks = was.tasks }))) refl
