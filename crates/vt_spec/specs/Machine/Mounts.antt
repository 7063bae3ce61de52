-- Mounts: mount(2), mount_namespaces(7) and the kernel's document sharedsubtree.
use Rattle.std.specs.Prelude.{Bool, List, None, Option, Some, [], false, filter, find, flat_map, if◌then◌else◌, is_some, length, map, option_map, suc, true, unwrap_or, zero, ℕ, ◌&&◌, ◌∷◌}
use Rattle.vt_spec.specs.Language.Calls.{MountFlags, plain_flags}
use Rattle.vt_spec.specs.Lists.{Fresh, chain, holds_of, last_or, index_from}

-- a location: an inode seen through a mount, as the kernel's struct path: path_resolution(7)
pub record Location (N : Type 0) : Type 0 where
  pub mount : N
  pub node : N

-- Propagation types: mount_namespaces(7), sharedsubtree. A shared mount is a member of a peer group; where that group
-- has a master it is slave and shared. A slave has a master group.
pub data Propagation (N : Type 0) : Type 0 where
  Shared : (group : N) → Propagation N
  Slave : (master : N) → Propagation N
  Private : Propagation N
  Unbindable : Propagation N

-- A mount shows a filesystem from a root directory on. Its mount point is a directory of another mount, its parent; the
-- root mount of a namespace has none. A mount outside every namespace has no mount point and is private: mount(2),
-- mount_namespaces(7).
pub record Mount (N : Type 0) : Type 0 where
  pub number : N
  pub namespace : Option N
  pub mount_point : Option (Location N)
  pub filesystem : N
  pub root : N
  pub flags : MountFlags
  pub propagation : Propagation N

module _ {N : Type 0} where
  -- the peer group of a shared mount
  abbrev pub group_of : Propagation N → Option N
  group_of (Shared group) = Some group
  group_of (Slave master) = None
  group_of Private = None
  group_of Unbindable = None

  -- the peer group from which a mount receives events: its own, or its master: sharedsubtree
  abbrev pub source_of : Propagation N → Option N
  source_of (Shared group) = Some group
  source_of (Slave master) = Some master
  source_of Private = None
  source_of Unbindable = None

  -- the mount is a member of a peer group: mount(2), MS_SHARED
  abbrev pub is_shared : Propagation N → Bool
  is_shared kind = is_some (group_of kind)

  -- the mount is unbindable: mount(2), MS_UNBINDABLE
  abbrev pub is_unbindable : Propagation N → Bool
  is_unbindable (Shared group) = false
  is_unbindable (Slave master) = false
  is_unbindable Private = false
  is_unbindable Unbindable = true

  -- the location of a mount's root
  abbrev pub root_of : Mount N → Location N
  root_of mount = record { mount = mount.number; node = mount.root }

  -- a detached mount has no mount point, namespace or peer group: umount(2) with MNT_DETACH
  abbrev pub detached : Mount N → Mount N
  detached mount = record mount { namespace = None; mount_point = None; propagation = Private }

  -- the value of a number that no mount has
  abbrev pub no_mount : N → Mount N
  no_mount number =
      record {
        number = number;
        namespace = None;
        mount_point = None;
        filesystem = number;
        root = number;
        flags = plain_flags;
        propagation = Private;
      }

module _ {N : Type 0} (eq : N → N → Bool) where
  -- one inode, seen through one mount
  abbrev pub same_location : Location N → Location N → Bool
  same_location a b = eq a.mount b.mount && eq a.node b.node

  -- the mount of this number in a list
  abbrev pub mount_in : List (Mount N) → N → Mount N
  mount_in mounts number = unwrap_or (find (λ mount. eq number mount.number) mounts) (no_mount number)

  -- the mount's mount point is this location
  abbrev pub stands_at : Location N → Mount N → Bool
  stands_at location mount = holds_of (same_location location) mount.mount_point

  -- the mount is a child of the mount of this number
  abbrev pub stands_on : N → Mount N → Bool
  stands_on number mount = holds_of (λ point. eq number point.mount) mount.mount_point

  -- the mount whose mount point is this location
  abbrev pub child_at : List (Mount N) → Location N → Option (Mount N)
  child_at mounts location = find (stands_at location) mounts

  -- the children of a mount, in order of attachment
  abbrev pub children : List (Mount N) → N → List (Mount N)
  children mounts number = filter (stands_on number) mounts

  -- a mount and all its descendants: each mount before its children, those in order of attachment
  abbrev pub tree_from : ℕ → List (Mount N) → Mount N → List (Mount N)
  tree_from zero mounts mount = mount ∷ []
  tree_from (suc depth) mounts mount = mount ∷ flat_map (tree_from depth mounts) (children mounts mount.number)

  -- a mount and all its descendants
  abbrev pub mount_tree : List (Mount N) → Mount N → List (Mount N)
  mount_tree mounts mount = tree_from (length mounts) mounts mount

  -- a location, then the root of the mount that stands there, of the mount on that root, and so on
  abbrev pub mounts_over : List (Mount N) → Location N → List (Location N)
  mounts_over mounts location = chain (length mounts) (λ here. option_map root_of (child_at mounts here)) location

  -- the root of the topmost mount over a location, or the location itself where none stands there
  abbrev pub topmost : List (Mount N) → Location N → Location N
  topmost mounts location = last_or location (mounts_over mounts location)

  -- the new mount in place of the old one, if both have one number
  abbrev pub replaced_if_same : Mount N → Mount N → Mount N
  replaced_if_same new old = if eq new.number old.number then new else old

  -- the list with the mount of this number replaced
  abbrev pub with_mount : List (Mount N) → Mount N → List (Mount N)
  with_mount mounts mount = map (replaced_if_same mount) mounts

  -- the index of the mount of this number in a list
  abbrev pub index_of : List (Mount N) → N → ℕ
  index_of mounts number = unwrap_or (index_from (λ mount. eq number mount.number) 0 mounts) 0

  -- new numbers by mounts: the i-th mount of a list gets the i-th number
  abbrev pub numbers_by : Fresh N → List (Mount N) → N → N
  numbers_by fresh mounts number = fresh (index_of mounts number)
