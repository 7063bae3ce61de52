-- What walks and tables of rules look at in a world. Worlds that look alike are walked and judged alike, however their
-- state is kept.
use Rattle.std.specs.Prelude.{Bool, List, Option, length, option_map, ℕ}
use Rattle.vt_spec.specs.Errors.{Rules}
use Rattle.vt_spec.specs.Language.Changes.{Change}
use Rattle.vt_spec.specs.Machine.Detach.{is_busy, is_written_through, mounts_on}
use Rattle.vt_spec.specs.FileTree.{is_directory_under}
use Rattle.vt_spec.specs.Machine.Filesystems.{has_lower_directory_at, mounter_rules}
use Rattle.vt_spec.specs.Lists.{last_or}
use Rattle.vt_spec.specs.Machine.Locked.{in_use, is_locked_at, overlaps_one_of}
use Rattle.vt_spec.specs.Machine.Mounts.{Location, Mount, mount_tree, mounts_over}
use Rattle.vt_spec.specs.Machine.Rightful.{mounter_allows, node_allows}
use Rattle.vt_spec.specs.Tree.{Node, is_directory_node}
use Rattle.vt_spec.specs.Machine.World.{Layer, Overlay, Task, World, filesystem_at, filesystem_numbered, is_removed_at, mount_numbered, node_at, task_called}
use Rattle.vt_spec.specs.Language.Calls.{TaskName}

-- what walks and rules may see of a world
pub record Looks (N : Type 0) : Type 0 where
  -- the namespace of the task that has a name: the process of setns(2)
  pub namespace_called : TaskName → Option N
  -- the mount with a number; how many mounts exist; a mount and all its descendants, each before its children:
  -- mount_namespaces(7)
  pub mount : N → Mount N
  pub mount_count : ℕ
  pub mount_tree : N → List (Mount N)
  -- a location, then the root of the mount that stands there, of the mount on that root, and so on: mount(2)
  pub mounts_over : Location N → List (Location N)
  -- the mounts with a directory as their mount point, through whatever mount it is seen: EBUSY of rmdir(2), rename(2)
  pub mounts_on : Location N → List (Mount N)
  -- EBUSY of umount(2): a mount is in use; of mount(2) with MS_REMOUNT: a file is open for writing through it
  pub is_busy : N → Bool
  pub is_written_through : N → Bool
  -- the inode at a location: inode(7)
  pub node : Location N → Option (Node N)
  -- a directory that has lost its name: rmdir(2) while it is in use
  pub is_removed : Location N → Bool
  -- of two directories of a filesystem the second is the first, or lies under it: EINVAL of rename(2)
  pub is_under : (filesystem : N) → (top : N) → (directory : N) → Bool
  -- the overlay that a location is in, if it is in one: its layers and its mounter
  pub overlay : Location N → Option (Overlay N)
  -- B1 and B2 of a change there, which the mounter of an overlay is asked for (profile; overlayfs, "permission model")
  pub mounter_rules : Location N → Change N → Rules
  -- O1: a lower layer that is not cut has a directory under this name of a directory: overlayfs, "renaming directories"
  pub has_lower_directory : Location N → List ℕ → Bool
  -- L1: what is there lies in a layer of a live overlay: overlayfs, "changes to underlying filesystems"
  pub is_locked : Location N → Bool
  -- O2, O5: some inode lies or counts under a layer and under one of others; O3: a layer of a new overlay overlaps one
  -- of a live overlay (profile)
  pub overlaps_one_of : List (Layer N) → Layer N → Bool
  pub is_in_use : Overlay N → Bool

-- what a world shows to walks and rules
abbrev pub looks_of : {N : Type 0} → (N → N → Bool) → World N → Looks N
looks_of eq world = record {
  namespace_called = λ name. option_map (λ task. task.namespace) (task_called world name);
  mount = mount_numbered eq world;
  mount_count = length world.mounts;
  mount_tree = λ number. mount_tree eq world.mounts (mount_numbered eq world number);
  mounts_over = mounts_over eq world.mounts;
  mounts_on = mounts_on eq world;
  is_busy = is_busy eq world;
  is_written_through = is_written_through eq world;
  node = node_at eq world;
  is_removed = is_removed_at eq world;
  is_under = λ filesystem top directory.
      is_directory_under eq (filesystem_numbered eq world filesystem).files top directory;
  overlay = λ location. (filesystem_at eq world location).overlay;
  mounter_rules = mounter_rules eq world;
  has_lower_directory = has_lower_directory_at eq world;
  is_locked = is_locked_at eq world;
  overlaps_one_of = overlaps_one_of eq world;
  is_in_use = in_use eq world;
}

module _ {N : Type 0} where
  -- the mount through which a location is seen
  abbrev pub mount_at : Looks N → Location N → Mount N
  mount_at looks location = looks.mount location.mount

  -- the root of the topmost mount over a location, or the location itself
  abbrev pub topmost : Looks N → Location N → Location N
  topmost looks location = last_or location (looks.mounts_over location)

  -- a directory is at the location
  abbrev pub is_directory_at : Looks N → Location N → Bool
  is_directory_at looks location = is_directory_node (looks.node location)

  -- the caller has the wanted rights at a location: path_resolution(7), "Permissions"
  abbrev pub may : Looks N → Task N → Location N → ℕ → Bool
  may looks task location wanted = node_allows task.credentials wanted (looks.node location)

  -- so has the mounter of the overlay there: overlayfs, "permission model"
  abbrev pub mounter_may : Looks N → Location N → ℕ → Bool
  mounter_may looks location wanted = mounter_allows (looks.overlay location) wanted (looks.node location)
