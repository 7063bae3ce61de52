-- The invariants of trees, mounts, namespaces and tasks go along worlds that are the same.
use Rattle.std.proofs.Common.{arith, ◌≤◌, ◌≡◌, sym, ap, subst, ◌∙◌, ℕ, nat_eq, Bool, ◌&&◌, [], ◌∷◌, ◌++◌, map, Option, is_some, option_to_list}
use Rattle.vt_spec.proofs.Common.{Descriptor, FileTree, Filesystem, ForksAreCounted, HasOwnParents, IsTree, ListsNumbers, Location, Mount, MountInvariants, Namespace, NamespaceInvariants, Node, SameFiles, SameFilesystem, Task, TaskInvariants, Tree, TreeInvariants, World, all_locations, among_from_contains, common_steps, contains_from_among, filesystem_numbered, has_fit_names, has_fit_text, is_among, is_directory_node, is_fit_filesystem, is_kind_in, is_no_larger, is_within_limits, list_all, list_any-IsPermutation, mount_at, same_name, stands_alike}
use Rattle.vt_laws_trees.proofs.runs.EachHas.{each_all, each_among, each_holds, each_pair}
use Rattle.vt_laws_trees.proofs.runs.answered.AlikeChanges.{found_alike, locations_same}
use Rattle.vt_laws_trees.proofs.runs.answered.AlikeWorlds.{Alike, SameNamespace, SameTask, with_mounts_of}
use Rattle.vt_laws_trees.proofs.runs.Each.{each_any, each_to_one}
use Rattle.vt_laws_trees.proofs.runs.Permuted.{list_all-IsPermutation}
use Rattle.vt_spec.specs.declared.attributes.Kind.TheVariants.{File}
use Rattle.vt_laws_worlds.specs.Worlds.Kept.{MountsShow}

-- the trees by the numbers of their filesystems
abbrev pub TreesBy : Type 0
TreesBy = ℕ → Tree ℕ

abbrev pub trees_by : World ℕ → TreesBy
trees_by world number = (filesystem_numbered nat_eq world number).files.tree

-- One tree with its numbers in another order
module _ (one other : FileTree ℕ) (same : SameFiles one other) where
  numbers_listed : ListsNumbers nat_eq one → ListsNumbers nat_eq other
  numbers_listed lists number = sym (list_any-IsPermutation _ _ _ same.numbers)
      ∙ lists number ∙ (λ i. is_some ((same.tree i).node number))

  abbrev fits : Tree ℕ → ℕ → Bool
  fits tree number = is_no_larger (record { tree = tree; numbers = [] }) number
      && has_fit_names (record { tree = tree; numbers = [] }) number
      && has_fit_text (record { tree = tree; numbers = [] }) number

  fit_alike : list_all (fits one.tree) one.numbers ≡ list_all (fits other.tree) other.numbers
  fit_alike = list_all-IsPermutation (fits one.tree) _ _ same.numbers
      ∙ (λ i. list_all (fits (same.tree i)) other.numbers)

-- Two worlds with the very same mounts
module _ (one second : World ℕ) (same : Alike one (with_mounts_of one second)) where
  abbrev other : World ℕ
  other = with_mounts_of one second

  pub trees_same : trees_by one ≡ trees_by other
  trees_same = λ i number. (found_alike one other same number).files.tree i

  listed_same : map (λ (namespace : Namespace ℕ). namespace.number) one.namespaces
      ≡ map (λ (namespace : Namespace ℕ). namespace.number) other.namespaces
  listed_same = each_to_one SameNamespace (λ (namespace : Namespace ℕ). namespace.number)
      (λ (namespace : Namespace ℕ). namespace.number) (λ a b e. λ i. (e i).number) one.namespaces other.namespaces
      same.namespaces

  pub trees_keep : TreeInvariants nat_eq one → TreeInvariants nat_eq other
  trees_keep is = record {
    trees = each_holds SameFilesystem (λ f. IsTree f.files.tree) (λ f. IsTree f.files.tree)
        (λ a b alike holds. subst IsTree alike.files.tree holds) one.filesystems other.filesystems same.filesystems
        is.trees;
    own_parents = each_holds SameFilesystem (λ f. HasOwnParents f.files.tree) (λ f. HasOwnParents f.files.tree)
        (λ a b alike holds. subst HasOwnParents alike.files.tree holds) one.filesystems other.filesystems
        same.filesystems is.own_parents;
    numbers = each_holds SameFilesystem (λ f. ListsNumbers nat_eq f.files) (λ f. ListsNumbers nat_eq f.files)
        (λ a b alike holds. numbers_listed a.files b.files alike.files holds) one.filesystems other.filesystems
        same.filesystems is.numbers;
    one_filesystem = sym (each_pair SameFilesystem (λ (a b : Filesystem ℕ). nat_eq a.number b.number)
        (λ (a b : Filesystem ℕ). nat_eq a.number b.number)
        (λ a b c d first next. λ i. nat_eq (first.number i) (next.number i)) one.filesystems other.filesystems
        same.filesystems) ∙ is.one_filesystem;
    fit_filesystems = sym (each_all SameFilesystem is_fit_filesystem is_fit_filesystem
        (λ a b alike. fit_alike a.files b.files alike.files) one.filesystems other.filesystems same.filesystems)
        ∙ is.fit_filesystems;
  }

  pub mounts_keep : MountInvariants nat_eq one → MountInvariants nat_eq other
  mounts_keep is = grind (arith, common_steps, stands_alike)

  pub namespaces_keep : NamespaceInvariants nat_eq one → NamespaceInvariants nat_eq other
  namespaces_keep is = grind (arith, common_steps, each_pair, listed_same, each_all, each_any)

  -- what is asked of a location, by the trees
  abbrev node_by : TreesBy → Location ℕ → Option (Node ℕ)
  node_by trees location = (trees (mount_at nat_eq one location).filesystem).node location.node

  abbrev is_located_by : TreesBy → Location ℕ → Bool
  is_located_by trees location =
      is_among nat_eq location.mount (map (λ mount. mount.number) one.mounts) && is_some (node_by trees location)

  abbrev is_seen_by : TreesBy → ℕ → Location ℕ → Bool
  is_seen_by trees namespace location = is_directory_node (node_by trees location)
      && list_all (nat_eq namespace) (option_to_list (mount_at nat_eq one location).namespace)

  abbrev stands_by : TreesBy → Task ℕ → Bool
  stands_by trees task = is_seen_by trees task.namespace task.root && is_seen_by trees task.namespace task.directory

  abbrev has_open_by : TreesBy → Task ℕ → Bool
  has_open_by trees task =
      list_all (λ (descriptor : Descriptor ℕ). is_kind_in File (node_by trees descriptor.location)) task.descriptors

  abbrev has_root_by : TreesBy → Mount ℕ → Bool
  has_root_by trees mount = is_directory_node ((trees mount.filesystem).node mount.root)
      && list_all (λ place. is_directory_node (node_by trees place)) (option_to_list mount.mount_point)

  forks_keep : ForksAreCounted one → ForksAreCounted other
  forks_keep is task again number rest m n e =
      let first = each_among _ _ _ same.tasks task (among_from_contains _ task m) in
      let next = each_among _ _ _ same.tasks again (among_from_contains _ again n) in
      subst (λ k. number ≤ k) (λ i. (first.2 i).forks) (is first.0 next.0 number rest (contains_from_among _ _ first.1)
      (contains_from_among _ next.0 next.1) ((λ i. (next.2 i).name) ∙ e
      ∙ (λ i. (sym first.2 i).name ++ (number ∷ rest))))

  pub tasks_keep : TaskInvariants nat_eq one → TaskInvariants nat_eq other
  tasks_keep is = record {
    one_task =
        sym (each_pair SameTask (λ (a b : Task ℕ). same_name a.name b.name) (λ (a b : Task ℕ). same_name a.name b.name)
        (λ a b c d first next. λ i. same_name (first i).name (next i).name) one.tasks other.tasks same.tasks)
        ∙ is.one_task;
    small_tasks =
        sym (each_all SameTask is_within_limits is_within_limits (λ a b e. ap is_within_limits e) one.tasks other.tasks
        same.tasks) ∙ is.small_tasks;
    forks_counted = forks_keep is.forks_counted;
    locations_live = (λ i. list_all (is_located_by (sym trees_same i)) (all_locations other))
        ∙ ap (list_all (is_located_by (trees_by one))) (sym (locations_same one other same)) ∙ is.locations_live;
    directories = (λ i. list_all (stands_by (sym trees_same i)) other.tasks)
        ∙ sym (each_all SameTask (stands_by (trees_by one)) (stands_by (trees_by one))
        (λ a b e. ap (stands_by (trees_by one)) e) one.tasks other.tasks same.tasks) ∙ is.directories;
    open_files = (λ i. list_all (has_open_by (sym trees_same i)) other.tasks)
        ∙ sym (each_all SameTask (has_open_by (trees_by one)) (has_open_by (trees_by one))
        (λ a b e. ap (has_open_by (trees_by one)) e) one.tasks other.tasks same.tasks) ∙ is.open_files;
  }

  pub roots_keep : MountsShow one → MountsShow other
  roots_keep is = (λ i. list_all (has_root_by (sym trees_same i)) one.mounts) ∙ is
