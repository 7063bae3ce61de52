-- The state of the machine: mounts, groups, filesystems, namespaces and tasks. Tasks are those of credentials(7) and
-- mount_namespaces(7).
use Rattle.std.specs.Prelude.{Bool, List, None, Option, Some, [], filter, find, flat_map, if◌then◌else◌, is_some, map, not, option_to_list, unwrap_or, ℕ, ◌++◌, ◌∷◌}
use Rattle.vt_spec.specs.declared.attributes.Attr.{Attr}
use Rattle.vt_spec.specs.FileTree.{FileTree, is_removed}
use Rattle.vt_spec.specs.Machine.Layers.{OpenLayer}
use Rattle.vt_spec.specs.Lists.{Fresh, holds_of}
use Rattle.vt_spec.specs.Machine.Mounts.{Location, Mount, mount_in, with_mount}
use Rattle.vt_spec.specs.Language.Calls.{MountFlags, TaskName, plain_flags, same_name}
use Rattle.vt_spec.specs.Machine.Mounts.Propagation.{Private}
use Rattle.vt_spec.specs.Rights.{Credentials, all_capabilities}
use Rattle.vt_spec.specs.Tree.{Node, is_directory_node, tree_of_root}

-- a layer of an overlay: a directory of a plain tree: overlayfs, "upper and lower"
pub record Layer (N : Type 0) : Type 0 where
  pub filesystem : N
  pub directory : N

-- the real object of a merged one: an inode of the upper layer, or a path of one lower layer, counted from the top
pub data Real (N : Type 0) : Type 0 where
  Upper : (object : N) → Real N
  Lower : (layer : ℕ) → (path : List (List ℕ)) → Real N

-- What makes a tree an overlay: its layers, the credentials that it was mounted with, and the real object of each of
-- its inodes. Without an upper layer it is read-only. The kernel's overlayfs document, "permission model".
pub record Overlay (N : Type 0) : Type 0 where
  pub upper : Option (Layer N)
  pub work : Option (Layer N)
  pub lowers : List (Layer N)
  pub mounter : Credentials
  pub real : N → Option (Real N)

-- A filesystem is a tree. That of an overlay is the merged one, in which each call changes what it changes in any tree;
-- what it changes in the upper layer is defined in `CopyUp.antt`.
pub record Filesystem (N : Type 0) : Type 0 where
  pub number : N
  pub files : FileTree N
  pub overlay : Option (Overlay N)
  pub change : ℕ

-- a mount namespace, with its change number: mount_namespaces(7)
pub record Namespace (N : Type 0) : Type 0 where
  pub number : N
  pub change : ℕ

-- an open file description: open(2). Those of a task stand in order of their numbers.
pub record Descriptor (N : Type 0) : Type 0 where
  pub number : ℕ
  pub location : Location N
  pub reads : Bool
  pub writes : Bool

-- A process with one thread: credentials(7), umask(2), path_resolution(7) for its root and working directory. `forks`
-- counts the children that it has made.
pub record Task (N : Type 0) : Type 0 where
  pub name : TaskName
  pub credentials : Credentials
  pub umask : ℕ
  pub namespace : N
  pub root : Location N
  pub directory : Location N
  pub descriptors : List (Descriptor N)
  pub forks : ℕ
  pub change : ℕ

-- Mounts stand in order of attachment, namespaces in order of creation. A group of mounts has a master group or none.
-- Change numbers count the calls that changed what has them (profile).
pub record World (N : Type 0) : Type 0 where
  pub mounts : List (Mount N)
  pub master : N → Option N
  pub filesystems : List (Filesystem N)
  pub namespaces : List (Namespace N)
  pub tasks : List (Task N)
  pub change : ℕ

module _ {N : Type 0} where
  -- a tree without inodes
  abbrev pub no_tree : N → FileTree N
  no_tree number = record { tree = record { root = number; node = λ other. None }; numbers = [] }

  -- the value of a number that no filesystem has
  abbrev pub no_filesystem : N → Filesystem N
  no_filesystem number = record { number = number; files = no_tree number; overlay = None; change = 0 }

  -- the world with these mounts in place of its own
  abbrev pub with_mounts : World N → List (Mount N) → World N
  with_mounts world mounts = record world { mounts = mounts }

  -- the task of this name, if there is one
  abbrev pub task_called : World N → TaskName → Option (Task N)
  task_called world name = find (λ task. same_name name task.name) world.tasks

  -- the new task in place of the old one, if both have one name
  abbrev pub replaced_if_called : Task N → Task N → Task N
  replaced_if_called new old = if same_name new.name old.name then new else old

  -- a task in the place of the one with its name
  abbrev pub with_task : World N → Task N → World N
  with_task world task = record world { tasks = map (replaced_if_called task) world.tasks }

  -- the world without the task of this name: _exit(2)
  abbrev pub without_task : World N → TaskName → World N
  without_task world name = record world { tasks = filter (λ task. not (same_name name task.name)) world.tasks }

  -- the locations that a task uses: its root, its working directory and its open files
  abbrev pub locations_of : Task N → List (Location N)
  locations_of task = task.root ∷ task.directory ∷ map (λ descriptor. descriptor.location) task.descriptors

  -- the locations that tasks use
  abbrev pub all_locations : World N → List (Location N)
  all_locations world = flat_map locations_of world.tasks

  -- the filesystem is an overlay, no plain tree
  abbrev pub is_overlay : Filesystem N → Bool
  is_overlay filesystem = is_some filesystem.overlay

  -- all layers of an overlay: overlayfs
  abbrev pub layers_of : Overlay N → List (Layer N)
  layers_of overlay = option_to_list overlay.upper ++ option_to_list overlay.work ++ overlay.lowers

  -- the layers in which something may be shown, from the top
  abbrev pub shown_layers : Overlay N → List (Layer N)
  shown_layers overlay = option_to_list overlay.upper ++ overlay.lowers

  -- the inode of the upper layer that is the real object, if it is one
  abbrev pub upper_object : Option (Real N) → Option N
  upper_object None = None
  upper_object (Some (Upper object)) = Some object
  upper_object (Some (Lower layer path)) = None

module _ {N : Type 0} (eq : N → N → Bool) where
  -- the mount of this number
  abbrev pub mount_numbered : World N → N → Mount N
  mount_numbered world number = mount_in eq world.mounts number

  -- the world with other flags of a mount: mount(2) with MS_REMOUNT and MS_BIND
  abbrev pub with_flags : World N → N → MountFlags → World N
  with_flags world mount flags =
      with_mounts world (with_mount eq world.mounts (record (mount_numbered world mount) { flags = flags }))

  -- the filesystem of this number
  abbrev pub filesystem_numbered : World N → N → Filesystem N
  filesystem_numbered world number =
      unwrap_or (find (λ filesystem. eq number filesystem.number) world.filesystems) (no_filesystem number)

  -- the new filesystem in place of the old one, if both have one number
  abbrev pub replaced_if_numbered : Filesystem N → Filesystem N → Filesystem N
  replaced_if_numbered new old = if eq new.number old.number then new else old

  -- a filesystem in the place of the one with its number
  abbrev pub with_filesystem : World N → Filesystem N → World N
  with_filesystem world filesystem =
      record world { filesystems = map (replaced_if_numbered filesystem) world.filesystems }

  -- What is at a location

  -- the mount through which it is seen
  abbrev pub mount_at : World N → Location N → Mount N
  mount_at world location = mount_numbered world location.mount

  -- the filesystem that its mount shows
  abbrev pub filesystem_at : World N → Location N → Filesystem N
  filesystem_at world location = filesystem_numbered world (mount_at world location).filesystem

  -- the tree of that filesystem
  abbrev pub files_at : World N → Location N → FileTree N
  files_at world location = (filesystem_at world location).files

  -- the inode there, if it exists: inode(7)
  abbrev pub node_at : World N → Location N → Option (Node N)
  node_at world location = (files_at world location).tree.node location.node

  -- a directory is there
  abbrev pub is_directory_at : World N → Location N → Bool
  is_directory_at world location = is_directory_node (node_at world location)

  -- a directory that has lost its name is there: rmdir(2) while it is in use
  abbrev pub is_removed_at : World N → Location N → Bool
  is_removed_at world location = is_removed eq (files_at world location).tree location.node

  -- the mounts attached in a namespace
  abbrev pub mounts_of : World N → N → List (Mount N)
  mounts_of world namespace = filter (λ mount. holds_of (eq namespace) mount.namespace) world.mounts

  -- the root mount of a namespace
  abbrev pub root_mount : World N → N → Option (Mount N)
  root_mount world namespace = find (λ mount. not (is_some mount.mount_point)) (mounts_of world namespace)

  -- a layer as it is looked into: its tree and its directory
  abbrev pub open_layer : World N → Layer N → OpenLayer N
  open_layer world layer =
      record { tree = (filesystem_numbered world layer.filesystem).files.tree; directory = layer.directory }

-- owner and mode of the first root directory: 0, 0 and 0755 (profile)
abbrev pub root_attr : Attr
root_attr = record { uid = 0; gid = 0; mode = 493 }

-- the first task's credentials (profile)
abbrev pub first_credentials : Credentials
first_credentials = record { uid = 0; gid = 0; groups = []; capabilities = all_capabilities }

module _ {N : Type 0} (eq : N → N → Bool) where
  -- a tree of one empty directory, with the attributes of the first root directory
  abbrev pub new_tree : N → FileTree N
  new_tree root = record { tree = tree_of_root eq root root_attr; numbers = root ∷ [] }

  -- a new plain filesystem of one empty directory: mount(2) of a tmpfs
  abbrev pub new_plain : N → N → Filesystem N
  new_plain number root = record { number = number; files = new_tree root; overlay = None; change = 0 }

  -- the first mount: the root mount of the first namespace, private
  abbrev pub first_mount : Fresh N → Mount N
  first_mount fresh =
      record {
        number = fresh 0;
        namespace = Some (fresh 1);
        mount_point = None;
        filesystem = fresh 2;
        root = fresh 3;
        flags = plain_flags;
        propagation = Private;
      }

  -- the location of the first mount's root
  abbrev pub first_location : Fresh N → Location N
  first_location fresh = record { mount = fresh 0; node = fresh 3 }

  -- the first task, `t`, with umask 022 (profile)
  abbrev pub first_task : Fresh N → Task N
  first_task fresh =
      record {
        name = [];
        credentials = first_credentials;
        umask = 18;
        namespace = fresh 1;
        root = first_location fresh;
        directory = first_location fresh;
        descriptors = [];
        forks = 0;
        change = 0;
      }

  -- The opening world: one namespace with one root mount of one tree, an empty root directory of mode 0755, and a task
  -- with uid 0, gid 0, no supplementary groups, all capabilities and umask 022 (profile).
  abbrev pub opening : Fresh N → World N
  opening fresh = record {
    mounts = first_mount fresh ∷ [];
    master = λ group. None;
    filesystems = new_plain (fresh 2) (fresh 3) ∷ [];
    namespaces = record { number = fresh 1; change = 0 } ∷ [];
    tasks = first_task fresh ∷ [];
    change = 0;
  }
