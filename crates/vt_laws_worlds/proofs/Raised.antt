-- Change numbers: no invariant reads one.
use Rattle.std.proofs.Common.{arith, ◌≡◌, refl, ap, subst, ◌∙◌, ◌≤◌, ℕ, nat_eq, Bool, false, List, [], ◌∷◌, find, map, Option, is_some, option_to_list, unwrap_or, ◌&&◌}
use Rattle.vt_spec.proofs.Common.{All-map, Descriptor, FileTree, Filesystem, ForksAreCounted, HasOwnParents, IsTree, ListsNumbers, Location, Mount, MountInvariants, Namespace, NamespaceInvariants, Node, Task, TaskInvariants, TreeInvariants, World, all-map, all_locations, among-from_map, among_from_contains, common_steps, contains_from_among, filesystem_numbered, is_among, is_directory_node, is_fit_filesystem, is_kind_in, is_overlay, is_within_limits, list_all, locations_of, map_twice, mount_at, no_filesystem, pair-map, same_name, stands_alike}
use Rattle.vt_spec.specs.declared.attributes.Kind.TheVariants.{File}
use Rattle.vt_laws_mounts.proofs.letting_go.Lists.{any-map, flat_map-map}
use Rattle.vt_laws_worlds.specs.Worlds.Kept.{IsPlain, IsWorldButForUse, MountsShow}

-- the trees by the numbers of their filesystems
abbrev pub FilesBy : Type 0
FilesBy = ℕ → FileTree ℕ

abbrev pub files_by : World ℕ → FilesBy
files_by world number = (filesystem_numbered nat_eq world number).files

-- a world with other change numbers
module _ (of_filesystem : Filesystem ℕ → ℕ) (of_namespace : Namespace ℕ → ℕ) (of_task : Task ℕ → ℕ) (change : ℕ)
    (world : World ℕ) where
  abbrev filesystem_counted : Filesystem ℕ → Filesystem ℕ
  filesystem_counted filesystem = record filesystem { change = of_filesystem filesystem }

  abbrev namespace_counted : Namespace ℕ → Namespace ℕ
  namespace_counted namespace = record namespace { change = of_namespace namespace }

  abbrev task_counted : Task ℕ → Task ℕ
  task_counted task = record task { change = of_task task }

  abbrev pub counted : World ℕ
  counted = record world {
    filesystems = map filesystem_counted world.filesystems;
    namespaces = map namespace_counted world.namespaces;
    tasks = map task_counted world.tasks;
    change = change;
  }

  -- Lookups
  files_in : (number : ℕ) (list : List (Filesystem ℕ))
      → (unwrap_or (find (λ f. nat_eq number f.number) (map filesystem_counted list)) (no_filesystem number)).files
      ≡ (unwrap_or (find (λ f. nat_eq number f.number) list) (no_filesystem number)).files
  files_in number [] = refl
  files_in number (filesystem ∷ list) = grind (arith, common_steps, files_in number list)

  pub same_files : files_by counted ≡ files_by world
  same_files = λ i number. files_in number world.filesystems i

  same_listed : map (λ (namespace : Namespace ℕ). namespace.number) counted.namespaces
      ≡ map (λ namespace. namespace.number) world.namespaces
  same_listed = map_twice _ _ _

  same_locations : all_locations counted ≡ all_locations world
  same_locations = flat_map-map task_counted locations_of world.tasks (λ task. refl)

  -- The invariants
  plain_counted : IsPlain world → IsPlain counted
  plain_counted plain = All-map (λ f. is_overlay f ≡ false) filesystem_counted world.filesystems plain

  pub trees_counted : TreeInvariants nat_eq world → TreeInvariants nat_eq counted
  trees_counted is = record {
    trees = All-map (λ f. IsTree f.files.tree) filesystem_counted world.filesystems is.trees;
    own_parents = All-map (λ f. HasOwnParents f.files.tree) filesystem_counted world.filesystems is.own_parents;
    numbers = All-map (λ f. ListsNumbers nat_eq f.files) filesystem_counted world.filesystems is.numbers;
    one_filesystem = pair-map (λ (a b : Filesystem ℕ). nat_eq a.number b.number)
        (λ (a b : Filesystem ℕ). nat_eq a.number b.number)
        filesystem_counted world.filesystems (λ a b m n e. e) is.one_filesystem;
    fit_filesystems = all-map is_fit_filesystem filesystem_counted (λ f e. e) world.filesystems is.fit_filesystems;
  }

  pub mounts_counted : MountInvariants nat_eq world → MountInvariants nat_eq counted
  mounts_counted is = grind (arith, common_steps, stands_alike)

  pub namespaces_counted : NamespaceInvariants nat_eq world → NamespaceInvariants nat_eq counted
  namespaces_counted is = grind (arith, common_steps, pair-map, same_listed, all-map, any-map)

  -- what is asked of a location, by the trees
  abbrev node_by : FilesBy → Location ℕ → Option (Node ℕ)
  node_by files location = (files (mount_at nat_eq world location).filesystem).tree.node location.node

  abbrev is_located_by : FilesBy → Location ℕ → Bool
  is_located_by files location =
      is_among nat_eq location.mount (map (λ mount. mount.number) world.mounts) && is_some (node_by files location)

  abbrev is_seen_by : FilesBy → ℕ → Location ℕ → Bool
  is_seen_by files namespace location = is_directory_node (node_by files location)
      && list_all (nat_eq namespace) (option_to_list (mount_at nat_eq world location).namespace)

  abbrev stands_by : FilesBy → Task ℕ → Bool
  stands_by files task = is_seen_by files task.namespace task.root && is_seen_by files task.namespace task.directory

  abbrev has_open_by : FilesBy → Task ℕ → Bool
  has_open_by files task =
      list_all (λ (descriptor : Descriptor ℕ). is_kind_in File (node_by files descriptor.location)) task.descriptors

  abbrev has_root_by : FilesBy → Mount ℕ → Bool
  has_root_by files mount = is_directory_node ((files mount.filesystem).tree.node mount.root)
      && list_all (λ place. is_directory_node (node_by files place)) (option_to_list mount.mount_point)

  forks_counted : ForksAreCounted world → ForksAreCounted counted
  forks_counted is task other number rest m n e =
      let one = among-from_map _ _ task (among_from_contains _ task m) in
      let two = among-from_map _ _ other (among_from_contains _ other n) in
      subst (λ k. number ≤ k) (cc) (is one.0 two.0 number rest (contains_from_among _ one.0 one.1)
      (contains_from_among _ two.0 two.1) (cc))

  pub tasks_counted : TaskInvariants nat_eq world → TaskInvariants nat_eq counted
  tasks_counted is = record {
    one_task = pair-map (λ (a b : Task ℕ). same_name a.name b.name) (λ (a b : Task ℕ). same_name a.name b.name)
        task_counted world.tasks (λ a b m n e. e) is.one_task;
    small_tasks = all-map is_within_limits task_counted (λ task e. e) world.tasks is.small_tasks;
    forks_counted = forks_counted is.forks_counted;
    locations_live = ap (λ files. list_all (is_located_by files) (all_locations counted)) same_files
        ∙ ap (list_all (is_located_by (files_by world))) same_locations ∙ is.locations_live;
    directories = ap (λ files. list_all (stands_by files) counted.tasks) same_files
        ∙ all-map (stands_by (files_by world)) task_counted (λ task e. e) world.tasks is.directories;
    open_files = ap (λ files. list_all (has_open_by files) counted.tasks) same_files
        ∙ all-map (has_open_by (files_by world)) task_counted (λ task e. e) world.tasks is.open_files;
  }

  pub roots_counted : MountsShow world → MountsShow counted
  roots_counted is = ap (λ files. list_all (has_root_by files) world.mounts) same_files ∙ is

  pub unsettled_counted : IsWorldButForUse world → IsWorldButForUse counted
  unsettled_counted is = record {
    plain = plain_counted is.plain;
    files = trees_counted is.files;
    mounts = mounts_counted is.mounts;
    namespaces = namespaces_counted is.namespaces;
    tasks = tasks_counted is.tasks;
    roots = roots_counted is.roots;
  }
