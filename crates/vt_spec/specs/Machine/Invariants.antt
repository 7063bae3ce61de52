-- The invariants of a world, which every call keeps. The records at the end name what they are taken from.
use Rattle.std.specs.Prelude.{All, Bool, Contains, List, None, Option, Some, [], false, filter, flat_map, is_some, length, map, nat_le, nat_lt, not, option_map, option_to_list, slice_get, true, ℕ, ⊤, ◌&&◌, ◌++◌, ◌+◌, ◌==◌, ◌||◌, ◌≡◌, ◌≤◌, ◌∷◌}
use Rattle.std.specs.List.{list_all, list_any}
use Rattle.std.specs.Str.{bytes_eq}
use Rattle.vt_spec.specs.declared.attributes.Kind.TheVariants.{File, White}
use Rattle.vt_spec.specs.Machine.Attach.{has_too_many}
use Rattle.vt_spec.specs.FileTree.{FileTree, is_kind_in, is_opaque_in, symlink_text}
use Rattle.vt_spec.specs.Machine.Layers.{node_at_path, shown}
use Rattle.vt_spec.specs.Lists.{any_pair, chain, holds_of, is_among, is_empty_list, last_or, same_option, then_some}
use Rattle.vt_spec.specs.Machine.Locked.{live_upper_and_work, of_overlay, overlaps_one_of, overlays}
use Rattle.vt_spec.specs.Machine.Merging.{layer_node, merged_at, real_object}
use Rattle.vt_spec.specs.Machine.Mounts.{Location, Mount, Propagation, same_location, source_of}
use Rattle.vt_spec.specs.Machine.Mounts.Propagation.{Private, Shared, Slave, Unbindable}
use Rattle.vt_spec.specs.Machine.Namespaces.{has_tasks}
use Rattle.vt_spec.specs.Language.Limits.{deepest_name, largest_file, longest_name, longest_path, most_descriptors, most_forks, most_groups, most_lowers, umask_bound}
use Rattle.vt_spec.specs.Machine.Policy.{same_bool}
use Rattle.vt_spec.specs.Machine.Receives.{groups_up, has_members}
use Rattle.vt_spec.specs.PathText.{is_empty}
use Rattle.vt_spec.specs.Machine.Settled.{settled}
use Rattle.vt_spec.specs.Tree.{Content, Node, bytes_in, is_directory_node, names_in}
use Rattle.vt_spec.specs.Tree.Content.{Directory, Regular, Symlink}
use Rattle.vt_spec.specs.TreeInvariant.{HasOwnParents, IsReached, IsTree, led}
use Rattle.vt_spec.specs.Machine.World.{Descriptor, Filesystem, Layer, Namespace, Overlay, Real, Task, World, all_locations, filesystem_numbered, is_directory_at, is_overlay, layers_of, mount_at, mount_numbered, mounts_of, node_at, open_layer, shown_layers}
use Rattle.vt_spec.specs.Language.Calls.{TaskName, same_name}
use Rattle.vt_spec.specs.Machine.World.Real.{Lower, Upper}

module _ {N : Type 0} where
  -- the same kind, and the same bytes or text; entries of directories may differ
  abbrev pub same_content : Content N → Content N → Bool
  same_content (Directory parent entries opaque) (Directory other_parent other_entries other_opaque) = true
  same_content (Regular bytes) (Regular other) = bytes_eq bytes other
  same_content (Symlink text) (Symlink other) = bytes_eq text other
  same_content a b = false

  -- A merged inode and its real object have the same owner, mode, kind, and bytes or text; entries of directories
  -- differ (overlayfs, "upper and lower").
  abbrev pub SameObject : Option (Node N) → Option (Node N) → Type 0
  SameObject None None = ⊤
  SameObject None (Some other) = ⊥
  SameObject (Some node) None = ⊥
  SameObject (Some node) (Some other) = (node.attr ≡ other.attr) × (same_content node.content other.content ≡ true)

  -- the mount is private: mount_namespaces(7), MS_PRIVATE
  abbrev pub is_private : Propagation N → Bool
  is_private (Shared group) = false
  is_private (Slave master) = false
  is_private Private = true
  is_private Unbindable = false

  -- a mount outside every namespace has no mount point and is private: umount(2), MNT_DETACH
  abbrev pub is_nowhere_or_attached : Mount N → Bool
  is_nowhere_or_attached mount =
      is_some mount.namespace || (not (is_some mount.mount_point) && is_private mount.propagation)

  -- descriptors stand in the order of their numbers, each once: open(2)
  abbrev pub are_ascending_from : ℕ → List (Descriptor N) → Bool
  are_ascending_from least [] = true
  are_ascending_from least (descriptor ∷ rest) =
      nat_le least descriptor.number && are_ascending_from (descriptor.number + 1) rest

  -- the limits of a task (profile)
  abbrev pub is_within_limits : Task N → Bool
  is_within_limits task =
      nat_le (length task.descriptors) most_descriptors && are_ascending_from 0 task.descriptors
      && list_all (λ descriptor. nat_lt descriptor.number most_descriptors) task.descriptors
      && nat_le task.forks most_forks
      && nat_le (length task.name) deepest_name && nat_le (length task.credentials.groups) most_groups
      && nat_lt task.umask umask_bound

  -- a task has counted its forks: where a task's name goes on from its own, the next number is no more than its count
  -- (profile)
  abbrev pub ForksAreCounted : World N → Type 0
  ForksAreCounted world =
      (task other : Task N) (number : ℕ) (rest : TaskName) → Contains world.tasks task → Contains world.tasks other
      → other.name ≡ task.name ++ (number ∷ rest) → number ≤ task.forks

  -- a file has no more bytes than the limit
  abbrev pub is_no_larger : FileTree N → N → Bool
  is_no_larger files number = not (is_kind_in File (files.tree.node number))
      || nat_le (length (bytes_in (files.tree.node number))) largest_file

  -- the names of a directory are not empty and not too long: path_resolution(7)
  abbrev pub has_fit_names : FileTree N → N → Bool
  has_fit_names files number =
      list_all (λ name. not (is_empty name) && nat_le (length name) longest_name) (names_in (files.tree.node number))

  -- the text of a symlink is not empty and not too long: symlink(2)
  abbrev pub has_fit_text : FileTree N → N → Bool
  has_fit_text files number =
      list_all (λ text. not (is_empty text) && nat_le (length text) longest_path)
      (option_to_list (symlink_text (files.tree.node number)))

  -- files, names and texts of a filesystem are within their limits
  abbrev pub is_fit_filesystem : Filesystem N → Bool
  is_fit_filesystem filesystem =
      list_all (λ number. is_no_larger filesystem.files number && has_fit_names filesystem.files number
      && has_fit_text filesystem.files number)
      filesystem.files.numbers

  -- an overlay has 1 to 128 lower layers, and a work directory just where it has an upper layer: overlayfs
  abbrev pub has_fit_layers : Overlay N → Bool
  has_fit_layers overlay =
      not (is_empty_list overlay.lowers) && nat_le (length overlay.lowers) most_lowers
      && same_bool (is_some overlay.upper) (is_some overlay.work)

  -- where names lead from the root of a tree
  abbrev pub number_at_path : FileTree N → List (List ℕ) → Option N
  number_at_path files path = led files.tree files.tree.root path

-- A mount stands: it has no mount point, or its parent is in the same namespace and stands. Mounts are given by
-- numbers; a number that no mount has stands too, and `nowhere` excludes it as a parent.
pub data Stands {N : Type 0} (eq : N → N → Bool) (world : World N) : N → Type 0 where
  at_root : (number : N) → (mount_numbered eq world number).mount_point ≡ None → Stands eq world number
  on_parent : (number : N) (point : Location N) → (mount_numbered eq world number).mount_point ≡ Some point
      → (mount_numbered eq world number).namespace ≡ (mount_numbered eq world point.mount).namespace
      → Stands eq world point.mount → Stands eq world number

-- A peer group lives: it has a member, and its master, if it has one, lives. Groups are given by their numbers.
pub data Lives {N : Type 0} (members : N → Bool) (master : N → Option N) : N → Type 0 where
  has_no_master : (group : N) → members group ≡ true → master group ≡ None → Lives members master group
  has_master : (group above : N) → members group ≡ true → master group ≡ Some above → Lives members master above
      → Lives members master group

module _ {N : Type 0} (eq : N → N → Bool) where
  -- Mounts

  -- two mounts have one mount point
  abbrev pub share_a_mount_point : Mount N → Mount N → Bool
  share_a_mount_point a b = is_some a.mount_point && same_option (same_location eq) a.mount_point b.mount_point

  -- the mount at which the chain of parents ends
  abbrev pub last_parent : World N → Mount N → Mount N
  last_parent world mount = last_or mount
      (chain (length world.mounts) (λ child. option_map (mount_at eq world) child.mount_point) mount)

  -- as a test: the chain of parents ends at a mount without a mount point, in the same namespace
  abbrev pub stands_in_its_namespace : World N → Mount N → Bool
  stands_in_its_namespace world mount =
      not (is_some (last_parent world mount).mount_point)
      && same_option eq mount.namespace (last_parent world mount).namespace

  -- the peer group or master of each mount lives
  abbrev pub HasLivingGroups : World N → Mount N → Type 0
  HasLivingGroups world mount =
      (group : N) → source_of mount.propagation ≡ Some group → Lives (has_members eq world.mounts) world.master group

  -- the masters up from a group come to an end
  abbrev pub masters_end : World N → N → Bool
  masters_end world group = not (is_some (world.master (last_or group (groups_up world group))))

  -- as a test: the masters up from a mount's group come to an end, and each group has a member
  abbrev pub has_living_groups : World N → Mount N → Bool
  has_living_groups world mount =
      list_all (λ group. list_all (has_members eq world.mounts) (groups_up world group) && masters_end world group)
      (option_to_list (source_of mount.propagation))

  -- the namespace of a mount or a task exists: mount_namespaces(7)
  abbrev pub is_listed : World N → N → Bool
  is_listed world number = is_among eq number (map (λ namespace. namespace.number) world.namespaces)

  -- the mount has no mount point, as the root mount of a namespace
  abbrev pub is_root_mount : Mount N → Bool
  is_root_mount mount = not (is_some mount.mount_point)

  -- a namespace has one root mount: mount_namespaces(7)
  abbrev pub has_one_root : World N → Namespace N → Bool
  has_one_root world namespace = length (filter is_root_mount (mounts_of eq world namespace.number)) == 1

  -- the inode of a location, a mount or a layer exists in its filesystem
  abbrev pub is_there : World N → N → N → Bool
  is_there world filesystem number = is_some ((filesystem_numbered eq world filesystem).files.tree.node number)

  -- the mount and the inode of a location exist
  abbrev pub is_located_well : World N → Location N → Bool
  is_located_well world location =
      is_among eq location.mount (map (λ mount. mount.number) world.mounts)
      && is_there world (mount_at eq world location).filesystem location.node

  -- the root and the mount point of a mount are directories that exist: mount(2)
  abbrev pub has_its_root : World N → Mount N → Bool
  has_its_root world mount =
      is_directory_node ((filesystem_numbered eq world mount.filesystem).files.tree.node mount.root)
      && list_all (is_directory_at eq world) (option_to_list mount.mount_point)

  -- layers are directories of plain trees
  abbrev pub is_plain_layer : World N → Layer N → Bool
  is_plain_layer world layer =
      not (is_overlay (filesystem_numbered eq world layer.filesystem))
      && is_directory_node ((filesystem_numbered eq world layer.filesystem).files.tree.node layer.directory)

  -- the numbers beside a tree are those of its inodes
  abbrev pub ListsNumbers : FileTree N → Type 0
  ListsNumbers files = (number : N) → is_among eq number files.numbers ≡ is_some (files.tree.node number)

  -- the real object of what the layers show at a path
  abbrev pub real_shown : World N → Overlay N → List (List ℕ) → Option (Real N)
  real_shown world overlay path =
      option_map (λ object. real_object (is_some overlay.upper) object.seen.layer object)
      (merged_at (map (open_layer eq world) (shown_layers overlay)) path)

  -- the inode that the layers show at a path
  abbrev pub node_shown : World N → Overlay N → List (List ℕ) → Option (Node N)
  node_shown world overlay path =
      then_some (shown (map (open_layer eq world) (shown_layers overlay)) path)
      (layer_node (map (open_layer eq world) (shown_layers overlay)))

  -- the inode of a real object: one of the upper layer, or what a path leads to in a lower one
  abbrev pub real_node : World N → Overlay N → Real N → Option (Node N)
  real_node world overlay (Upper object) =
      then_some overlay.upper (λ layer. (filesystem_numbered eq world layer.filesystem).files.tree.node object)
  real_node world overlay (Lower layer path) =
      then_some (slice_get overlay.lowers layer) (λ lower. node_at_path (open_layer eq world lower) path)

  -- The merged tree of an overlay has at every path what the layers show, and no whiteout and no mark. Two inodes have
  -- two real objects; the real object of an inode with a name is the one that is shown there (overlayfs, "upper and
  -- lower").
  pub record IsMerged (world : World N) (filesystem : Filesystem N) (overlay : Overlay N) : Type 0 where
    pub shows : (path : List (List ℕ))
        → SameObject (then_some (number_at_path filesystem.files path) filesystem.files.tree.node)
        (node_shown world overlay path)
    pub names : (path : List (List ℕ)) (number : N) → number_at_path filesystem.files path ≡ Some number
        → overlay.real number ≡ real_shown world overlay path
    -- each inode, with a name or without one, has a real object of its kind, owner, mode and content
    pub real_objects : (number : N)
        → SameObject (filesystem.files.tree.node number) (then_some (overlay.real number) (real_node world overlay))
    -- and nothing else has one
    pub real_there : (number : N) → filesystem.files.tree.node number ≡ None → overlay.real number ≡ None
    pub no_whiteout : (number : N) → is_kind_in White (filesystem.files.tree.node number) ≡ false
    pub no_mark : (number : N) → is_opaque_in (filesystem.files.tree.node number) ≡ false
    pub upper_there : (number object : N) → overlay.real number ≡ Some (Upper object)
        → holds_of (λ layer. is_there world layer.filesystem object) overlay.upper ≡ true
    pub one_to_one : (a b : N) → is_some (overlay.real a) ≡ true → overlay.real a ≡ overlay.real b → a ≡ b

  -- some inode lies or counts under both layers: overlayfs, "sharing and copying layers"
  abbrev pub overlap : World N → Layer N → Layer N → Bool
  overlap world a b = overlaps_one_of eq world (b ∷ []) a

  -- the lower layers of live overlays
  abbrev pub live_lowers : World N → List (Layer N)
  live_lowers world = flat_map (of_overlay [] (λ overlay. overlay.lowers)) (overlays world)

  -- a location is a directory, seen through a mount of the namespace, or through one that is in none
  abbrev pub is_directory_seen_in : World N → N → Location N → Bool
  is_directory_seen_in world namespace location =
      is_directory_at eq world location
      && list_all (eq namespace) (option_to_list (mount_at eq world location).namespace)

  -- a task's root and working directory are directories, seen in its namespace: path_resolution(7)
  abbrev pub stands_on_directories : World N → Task N → Bool
  stands_on_directories world task =
      is_directory_seen_in world task.namespace task.root && is_directory_seen_in world task.namespace task.directory

  -- a task's descriptors are on regular files
  abbrev pub has_regular_files_open : World N → Task N → Bool
  has_regular_files_open world task =
      list_all (λ descriptor. is_kind_in File (node_at eq world descriptor.location)) task.descriptors

  -- Invariants of trees: path_resolution(7)
  pub record TreeInvariants (world : World N) : Type 0 where
    pub trees : All (λ filesystem. IsTree filesystem.files.tree) world.filesystems
    pub own_parents : All (λ filesystem. HasOwnParents filesystem.files.tree) world.filesystems
    pub numbers : All (λ filesystem. ListsNumbers filesystem.files) world.filesystems
    pub one_filesystem : any_pair (λ a b. eq a.number b.number) world.filesystems ≡ false
    pub fit_filesystems : list_all is_fit_filesystem world.filesystems ≡ true

  -- Invariants of overlays: overlayfs. An upper or work directory has no inode in common with another layer of a live
  -- overlay; so no object of an upper layer lies in one, nor under a lower layer of its own overlay. An upper directory
  -- keeps its name, since it is locked; the directories above it are not, and may be renamed.
  pub record OverlayInvariants (world : World N) : Type 0 where
    pub overlays_merge : (number : N) (overlay : Overlay N)
        → (filesystem_numbered eq world number).overlay ≡ Some overlay
        → IsMerged world (filesystem_numbered eq world number) overlay
    pub fit_layers : list_all (of_overlay true has_fit_layers) world.filesystems ≡ true
    pub plain_layers : list_all (of_overlay true
        (λ overlay. list_all (is_plain_layer world) (layers_of overlay))) world.filesystems ≡ true
    pub changed_apart : any_pair (overlap world) (live_upper_and_work world) ≡ false
    pub lowers_apart : list_any (overlaps_one_of eq world (live_lowers world)) (live_upper_and_work world) ≡ false
    pub uppers_reached : (number : N) (overlay : Overlay N) (upper : Layer N)
        → (filesystem_numbered eq world number).overlay ≡ Some overlay → overlay.upper ≡ Some upper
        → IsReached (filesystem_numbered eq world upper.filesystem).files.tree upper.directory

  -- Invariants of mounts: mount_namespaces(7), sharedsubtree
  pub record MountInvariants (world : World N) : Type 0 where
    pub one_number : any_pair (λ a b. eq a.number b.number) world.mounts ≡ false
    pub one_child : any_pair share_a_mount_point world.mounts ≡ false
    pub standing : All (λ mount. Stands eq world mount.number) world.mounts
    pub nowhere : list_all is_nowhere_or_attached world.mounts ≡ true
    pub groups : All (HasLivingGroups world) world.mounts

  -- Invariants of namespaces: mount_namespaces(7)
  pub record NamespaceInvariants (world : World N) : Type 0 where
    pub one_namespace : any_pair (λ a b. eq a.number b.number) world.namespaces ≡ false
    pub mounts_listed : list_all (λ mount. list_all (is_listed world) (option_to_list mount.namespace)) world.mounts
        ≡ true
    pub tasks_listed : list_all (λ task. is_listed world task.namespace) world.tasks ≡ true
    pub root_mounts : list_all (has_one_root world) world.namespaces ≡ true
    pub namespaces_live : list_all (has_tasks eq world) world.namespaces ≡ true
    pub few_mounts : has_too_many eq world ≡ false

  -- Invariants of tasks: credentials(7), path_resolution(7), open(2)
  pub record TaskInvariants (world : World N) : Type 0 where
    pub one_task : any_pair (λ a b. same_name a.name b.name) world.tasks ≡ false
    pub small_tasks : list_all is_within_limits world.tasks ≡ true
    pub forks_counted : ForksAreCounted world
    pub locations_live : list_all (is_located_well world) (all_locations world) ≡ true
    pub directories : list_all (stands_on_directories world) world.tasks ≡ true
    pub open_files : list_all (has_regular_files_open world) world.tasks ≡ true

  -- All of them. The root and the mount point of each mount exist, and nothing is left that is not in use.
  pub record IsWorld (world : World N) : Type 0 where
    pub files : TreeInvariants world
    pub overlays : OverlayInvariants world
    pub mounts : MountInvariants world
    pub namespaces : NamespaceInvariants world
    pub tasks : TaskInvariants world
    pub roots : list_all (has_its_root world) world.mounts ≡ true
    pub nothing_unused : settled eq world ≡ world
