-- Tasks, and what mounts show, where what nothing uses goes.
use Rattle.std.proofs.Common.{arith, ◌≡◌, refl, sym, ap, subst, ◌∙◌, not, inl, inr, ℕ, nat_eq, Bool, true, false, List, ◌++◌, Option, Some, None, filter, is_some, map, ◌&&◌, All, filter_map, option_to_list}
use Rattle.vt_spec.proofs.Common.{All-filter, All-weaker, Descriptor, Filesystem, HasOwnParents, IsTree, IsWorld, ListsNumbers, Location, Mount, Stands, Task, TaskInvariants, TreeInvariants, World, all_locations, and_from, and_parts, any_pair, at_root, common_steps, filesystem_lives, filesystem_numbered, has_its_root, has_regular_files_open, is_among, is_directory_at, is_directory_node, is_kind_in, is_located_well, is_overlay, list_all, locations_of, mount_at, mount_lives, mount_numbered, node_at, number-mount_in, number-only_used, on_parent, pair-filter, pair-map, root_of, same_Some, settled, stands_on_directories, without_dead_filesystems, without_dead_in, without_dead_mounts}
use Rattle.vt_spec.specs.declared.attributes.Kind.TheVariants.{File}
use Rattle.vt_laws_mounts.proofs.letting_go.sweeps.InUse.{one_sweep_is_enough}
use Rattle.vt_laws_mounts.proofs.letting_go.Lists.{Among, all_from_among, among-append_left, among-append_right, among-filter, among-filter_map, among-flat_map, among-from_filter, among-map, among_from_all, among_from_list_all, is_among_numbers, list_all_from_among}
use Rattle.vt_laws_mounts.proofs.letting_go.leaving.PlacesLeft.{found_is_there}
use Rattle.vt_laws_mounts.specs.LettingGo.InUse.{IsListedTree}
use Rattle.vt_laws_trees.specs.Trees.{IsFileTree}
use Rattle.vt_laws_trees.proofs.trees.ChangesByCalls.{without_dead_plain}
use Rattle.vt_laws_trees.proofs.trees.ChangesOfSizes.{settling_keeps_sizes}
use Rattle.vt_laws_trees.proofs.trees.TreesForgotten.{settling_keeps_trees}
use Rattle.vt_laws_worlds.specs.Worlds.Kept.{IsPlain, IsUnderWay, IsWorldButForUse, MountsShow, SettlingLeavesAWorld}
use Rattle.vt_laws_worlds.proofs.Plain.{uppers_plain}
use Rattle.vt_laws_worlds.proofs.RaisedInUse.{world_of}
use Rattle.vt_laws_worlds.proofs.settling.SettledMounts.{settled_mounts, settled_namespaces}
use Rattle.vt_laws_worlds.proofs.settling.SettledSeen.{attached_lives, found_still, itself, located_lives, placed_attached, seen_stays}
use Rattle.vt_spec.proofs.Worlds.{mount_in-among}

module _ (world : World ℕ) (unsettled : IsUnderWay world) where
  abbrev after : World ℕ
  after = settled nat_eq world

  abbrev live_mounts : List (Mount ℕ)
  live_mounts = filter (mount_lives nat_eq world) world.mounts

  -- Where tasks are
  located_there : (location : Location ℕ) → Among location (all_locations world)
      → Among (mount_at nat_eq world location) world.mounts
  located_there location m = mount_in-among _ _ (and_parts (is_among nat_eq location.mount
      (map (λ (mount : Mount ℕ). mount.number) world.mounts)) _ (among_from_list_all _ _ unsettled.tasks.locations_live
      location m)).0

  mount_lives_at : (location : Location ℕ) → Among location (all_locations world)
      → mount_lives nat_eq world (mount_at nat_eq world location) ≡ true
  mount_lives_at location m = located_lives world unsettled location m (mount_at nat_eq world location)
      (number-mount_in world.mounts location.mount)

  pub still_there : (location : Location ℕ) → Among location (all_locations world) → node_at nat_eq after location
      ≡ node_at nat_eq world location
  still_there location m = seen_stays world unsettled location
      (among-append_left (all_locations world ++ map root_of live_mounts)
      (filter_map (λ mount. mount.mount_point) live_mounts) location
      (among-append_left (all_locations world) (map root_of live_mounts) location m))
      (located_there location m) (mount_lives_at location m)

  same_mount : (location : Location ℕ) → Among location (all_locations world) → mount_at nat_eq after location
      ≡ mount_at nat_eq world location
  same_mount location m = found_still world unsettled location.mount (mount_lives_at location m)

  located_well : (location : Location ℕ) → Among location (all_locations world)
      → is_located_well nat_eq after location ≡ true
  located_well location m =
      and_from (is_among nat_eq location.mount (map (λ (mount : Mount ℕ). mount.number) live_mounts))
      (is_some (node_at nat_eq after location))
      (ap (λ n. is_among nat_eq n (map (λ (mount : Mount ℕ). mount.number) live_mounts))
      (sym (number-mount_in world.mounts location.mount))
      ∙ is_among_numbers (mount_at nat_eq world location).number (map (λ (mount : Mount ℕ). mount.number) live_mounts)
      (among-map (λ (mount : Mount ℕ). mount.number) live_mounts (mount_at nat_eq world location)
      (among-filter (mount_lives nat_eq world) world.mounts (mount_at nat_eq world location)
      (located_there location m) (mount_lives_at location m)))) (ap is_some (still_there location m)
      ∙ (and_parts (is_among nat_eq location.mount (map (λ (mount : Mount ℕ). mount.number) world.mounts)) _
      (among_from_list_all (is_located_well nat_eq world) (all_locations world) unsettled.tasks.locations_live
      location m)).1)

  pub task_location : (task : Task ℕ) → Among task world.tasks → (location : Location ℕ)
      → Among location (locations_of task) → Among location (all_locations world)
  task_location task m location l = among-flat_map locations_of world.tasks task location m l

  on_directories : (task : Task ℕ) → Among task world.tasks → stands_on_directories nat_eq after task
      ≡ stands_on_directories nat_eq world task
  on_directories task m = λ i. (is_directory_node (still_there _ root i) && list_all (nat_eq task.namespace)
      (option_to_list (same_mount _ root i).namespace)) && (is_directory_node (still_there _ directory i) && list_all
      (nat_eq task.namespace) (option_to_list (same_mount _ directory i).namespace))
    where
      root : Among task.root (all_locations world)
      root = task_location task m _ (inl refl)

      directory : Among task.directory (all_locations world)
      directory = task_location task m _ (inr (inl refl))

  files_open : (task : Task ℕ) → Among task world.tasks → has_regular_files_open nat_eq world task ≡ true
      → has_regular_files_open nat_eq after task ≡ true
  files_open task m h = list_all_from_among (λ (descriptor : Descriptor ℕ). is_kind_in File
      (node_at nat_eq after descriptor.location)) task.descriptors (λ descriptor d. cc (
        still_there descriptor.location (task_location task m descriptor.location
            (inr (inr (among-map (λ (x : Descriptor ℕ). x.location) task.descriptors descriptor d)))),
        among_from_list_all
            (λ (x : Descriptor ℕ). is_kind_in File (node_at nat_eq world x.location)) task.descriptors h descriptor d,
      ))

  pub settled_tasks : TaskInvariants nat_eq after
  settled_tasks = record {
    one_task = unsettled.tasks.one_task;
    small_tasks = unsettled.tasks.small_tasks;
    forks_counted = unsettled.tasks.forks_counted;
    locations_live = list_all_from_among (is_located_well nat_eq after) (all_locations world) located_well;
    directories = list_all_from_among (stands_on_directories nat_eq after) world.tasks (λ task m.
        on_directories task m ∙ among_from_list_all (stands_on_directories nat_eq world) world.tasks
        unsettled.tasks.directories
        task m);
    open_files = list_all_from_among (has_regular_files_open nat_eq after) world.tasks (λ task m.
        files_open task m
        (among_from_list_all (has_regular_files_open nat_eq world) world.tasks unsettled.tasks.open_files task m));
  }

  -- What mounts show
  shows : (mount : Mount ℕ) → Among mount world.mounts → mount_lives nat_eq world mount ≡ true
      → has_its_root nat_eq after mount ≡ true
  shows mount m lives =
      let parts = and_parts _ (list_all (is_directory_at nat_eq world) (option_to_list mount.mount_point))
      (among_from_list_all (has_its_root nat_eq world) world.mounts unsettled.roots mount m) in
      and_from _ (list_all (is_directory_at nat_eq after) (option_to_list mount.mount_point))
      (ap is_directory_node same_root ∙ parts.0)
      (list_all_from_among (is_directory_at nat_eq after) (option_to_list mount.mount_point)
      (λ place p. ap is_directory_node (same_place place (placed mount.mount_point refl place p))
      ∙ among_from_list_all (is_directory_at nat_eq world) (option_to_list mount.mount_point) parts.1 place p))
    where
      placed : (o : Option (Location ℕ)) → mount.mount_point ≡ o → (place : Location ℕ) → Among place (option_to_list o)
          → mount.mount_point ≡ Some place
      placed None e place p = absurd p
      placed (Some at) e place (inl same) = e ∙ ap Some (sym same)
      placed (Some at) e place (inr none) = absurd none

      live : Among mount live_mounts
      live = among-filter (mount_lives nat_eq world) world.mounts mount m lives

      found : mount_numbered nat_eq world mount.number ≡ mount
      found = itself world unsettled mount m

      found_lives : mount_lives nat_eq world (mount_numbered nat_eq world mount.number) ≡ true
      found_lives = ap (mount_lives nat_eq world) found ∙ lives

      same_root : (filesystem_numbered nat_eq after mount.filesystem).files.tree.node mount.root
          ≡ (filesystem_numbered nat_eq world mount.filesystem).files.tree.node mount.root
      same_root = ap (λ (x : Mount ℕ). (filesystem_numbered nat_eq after x.filesystem).files.tree.node mount.root)
          (sym (found_still world unsettled mount.number found_lives ∙ found))
          ∙ seen_stays world unsettled (root_of mount)
          (among-append_left (all_locations world ++ map root_of live_mounts)
          (filter_map (λ x. x.mount_point) live_mounts) (root_of mount)
          (among-append_right (all_locations world) (map root_of live_mounts) (root_of mount)
          (among-map root_of live_mounts mount live))) (subst (λ x. Among x world.mounts) (sym found) m) found_lives
          ∙ ap (λ (x : Mount ℕ). (filesystem_numbered nat_eq world x.filesystem).files.tree.node mount.root) found

      below_attached : (place : Location ℕ) → mount.mount_point ≡ Some place
          → is_some (mount_at nat_eq world place).namespace ≡ true
      below_attached place e = by mount.number (among_from_all
          (λ (x : Mount ℕ). Stands nat_eq world x.number) world.mounts unsettled.mounts.standing mount m) found
        where
          by : (number : ℕ) → Stands nat_eq world number → mount_numbered nat_eq world number ≡ mount
              → is_some (mount_at nat_eq world place).namespace ≡ true
          by number (at_root it f) same = absurd (cc e)
          by number (on_parent it at f g stands) same = cc (
            same_Some place at (sym e ∙ ap (λ (x : Mount ℕ). x.mount_point) (sym same) ∙ f),
            placed_attached world unsettled mount m (ap is_some e),
          )

      same_place : (place : Location ℕ) → mount.mount_point ≡ Some place → node_at nat_eq after place
          ≡ node_at nat_eq world place
      same_place place e = seen_stays world unsettled place
          (among-append_right (all_locations world ++ map root_of live_mounts)
          (filter_map (λ x. x.mount_point) live_mounts) place
          (among-filter_map (λ (x : Mount ℕ). x.mount_point) live_mounts mount place live e))
          (found_is_there world.mounts place.mount (below_attached place e))
          (attached_lives world unsettled (mount_at nat_eq world place) (below_attached place e))

  pub settled_roots : MountsShow after
  settled_roots = list_all_from_among (has_its_root nat_eq after) live_mounts (λ mount m.
      let was = among-from_filter (mount_lives nat_eq world) world.mounts mount m in shows mount was.0 was.1)

  -- Trees
  abbrev living : World ℕ
  living = without_dead_filesystems nat_eq (without_dead_mounts nat_eq world)

  abbrev first_round : World ℕ
  first_round = without_dead_in nat_eq is_overlay living

  pub trees_under_way : All (λ f. IsFileTree f.files) world.filesystems
  trees_under_way = grind (arith, common_steps, all_from_among, among_from_all)

  pub settled_trees : TreeInvariants nat_eq after
  settled_trees =
      let trees : All (λ f. IsFileTree f.files) after.filesystems = settling_keeps_trees world trees_under_way in
      record {
        trees = All-weaker (λ f. IsFileTree f.files) (λ f. IsTree f.files.tree)
            (λ f is. is.tree) after.filesystems trees;
        own_parents = All-weaker (λ f. IsFileTree f.files) (λ f. HasOwnParents f.files.tree)
            (λ f is. is.own_parents) after.filesystems trees;
        numbers = All-weaker (λ f. IsFileTree f.files) (λ f. ListsNumbers nat_eq f.files)
            (λ f is. is.numbers) after.filesystems trees;
        one_filesystem = same_numbers first_round (λ f. not (is_overlay f)) (same_numbers living is_overlay
            (pair-filter (λ (a b : Filesystem ℕ). nat_eq a.number b.number)
            (filesystem_lives nat_eq (without_dead_mounts nat_eq world)) world.filesystems
            unsettled.files.one_filesystem));
        fit_filesystems = settling_keeps_sizes world unsettled.files.fit_filesystems;
      }
    where
      same_numbers : (w : World ℕ) (chosen : Filesystem ℕ → Bool)
          → any_pair (λ (a b : Filesystem ℕ). nat_eq a.number b.number) w.filesystems ≡ false
          → any_pair (λ (a b : Filesystem ℕ). nat_eq a.number b.number)
          (without_dead_in nat_eq chosen w).filesystems ≡ false
      same_numbers w chosen apart = grind (arith, common_steps, pair-map, number-only_used)

  pub listed_trees : All (λ f. IsListedTree f.files) world.filesystems
  listed_trees = All-weaker (λ f. IsFileTree f.files) (λ f. IsListedTree f.files)
      (λ f is. record { tree = is.tree; numbers = is.numbers }) world.filesystems trees_under_way

-- In a world of plain filesystems
pub under_way : (world : World ℕ) → IsWorldButForUse world → IsUnderWay world
under_way world unsettled = grind (arith, common_steps)

module _ (world : World ℕ) (unsettled : IsWorldButForUse world) where
  pub same_node : (location : Location ℕ) → Among location (all_locations world)
      → node_at nat_eq (settled nat_eq world) location ≡ node_at nat_eq world location
  same_node = still_there world (under_way world unsettled)

  pub of_task : (task : Task ℕ) → Among task world.tasks → (location : Location ℕ) → Among location (locations_of task)
      → Among location (all_locations world)
  of_task = task_location world (under_way world unsettled)

  pub file_trees : All (λ f. IsFileTree f.files) world.filesystems
  file_trees = trees_under_way world (under_way world unsettled)

  settled_plain : IsPlain (settled nat_eq world)
  settled_plain = without_dead_plain (λ f. not (is_overlay f)) (first_round world (under_way world unsettled))
      (without_dead_plain is_overlay (living world (under_way world unsettled))
      (All-filter (filesystem_lives nat_eq (without_dead_mounts nat_eq world))
      (λ f. is_overlay f ≡ false) world.filesystems unsettled.plain))

  settled_is : IsWorldButForUse (settled nat_eq world)
  settled_is = record {
    plain = settled_plain;
    files = settled_trees world (under_way world unsettled);
    mounts = settled_mounts world (under_way world unsettled);
    namespaces = settled_namespaces world (under_way world unsettled);
    tasks = settled_tasks world (under_way world unsettled);
    roots = settled_roots world (under_way world unsettled);
  }

  settled_leaves : IsWorld nat_eq (settled nat_eq world) × IsPlain (settled nat_eq world)
  settled_leaves = (
    world_of (settled nat_eq world) settled_is
        (one_sweep_is_enough world (listed_trees world (under_way world unsettled))
        (uppers_plain world unsettled.plain)),
    settled_plain,
  )

pub settling_leaves_a_world : SettlingLeavesAWorld
settling_leaves_a_world world unsettled = settled_leaves world unsettled
