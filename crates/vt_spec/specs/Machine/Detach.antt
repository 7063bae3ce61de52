-- Detaching mounts: umount(2), MNT_DETACH, and the kernel's document sharedsubtree, "Unmount semantics".
use Rattle.std.specs.Prelude.{Bool, List, None, Option, Some, [], false, filter, filter_map, flat_map, if◌then◌else◌, is_some, length, map, nat_lt, option_map, option_to_list, true, ℕ, ◌&&◌, ◌||◌, ◌∷◌}
use Rattle.std.specs.List.{list_any}
use Rattle.vt_spec.specs.Machine.Attach.{receivers_of}
use Rattle.vt_spec.specs.Lists.{chain, folded, holds_of, is_among, last_or, then_some, when}
use Rattle.vt_spec.specs.Machine.Locked.{of_overlay}
use Rattle.vt_spec.specs.Machine.Mounts.{Location, Mount, child_at, children, detached, is_shared, mount_tree, root_of, stands_at, stands_on}
use Rattle.vt_spec.specs.Machine.Receives.{regrouped}
use Rattle.vt_spec.specs.Machine.World.{Filesystem, Overlay, World, all_locations, filesystem_at, mount_at, mount_numbered, upper_object, with_mounts}

module _ {N : Type 0} where
  -- the upper layer's inode that is the real object of an inode of an overlay, with that layer's filesystem, if there
  -- is one
  abbrev pub upper_points : World N → Filesystem N → Overlay N → N → List (N × N)
  upper_points world filesystem overlay node =
      option_to_list (then_some overlay.upper
      (λ layer. option_map (λ object. (layer.filesystem, object)) (upper_object (overlay.real node))))

module _ {N : Type 0} (eq : N → N → Bool) where
  -- a child has the root of the mount as its mount point
  abbrev pub covers_root : Mount N → Mount N → Bool
  covers_root mount child = stands_at eq (root_of mount) child

  -- of the children of a mount: there is none, or a single one that covers its root
  abbrev pub only_cover : Mount N → List (Mount N) → Bool
  only_cover mount [] = true
  only_cover mount (child ∷ []) = covers_root mount child
  only_cover mount (child ∷ other ∷ rest) = false

  -- a mount is detached at a receiver if it has no child: sharedsubtree, "Unmount semantics"; or a single child that
  -- covers its root (profile)
  abbrev pub may_go : World N → Mount N → Bool
  may_go world mount = only_cover mount (children eq world.mounts mount.number)

  -- the child of a receiver with this mount point, if it may be detached
  abbrev pub goes_at : World N → N → Mount N → Option (Mount N)
  goes_at world node receiver =
      then_some (child_at eq world.mounts (record { mount = receiver.number; node = node }))
      (λ child. when (may_go world child) child)

  -- The numbers of the mounts that one unmount event detaches: where the parent is shared, the mount with the same
  -- mount point at each receiver of the parent's group; else the mount alone (sharedsubtree, "Unmount semantics").
  abbrev pub going_from : World N → Mount N → Location N → (shared : Bool) → List N
  going_from world mount point true =
      map (λ gone. gone.number) (filter_map (goes_at world point.node)
      (receivers_of eq world (mount_at eq world point)))
  going_from world mount point false = mount.number ∷ []

  -- the numbers of the mounts that one unmount event detaches; a mount without a mount point is detached alone
  abbrev pub going_at : World N → Mount N → Option (Location N) → List N
  going_at world mount None = mount.number ∷ []
  going_at world mount (Some point) = going_from world mount point (is_shared (mount_at eq world point).propagation)

  -- the numbers of the mounts that the unmount event of a mount detaches
  abbrev pub going : World N → Mount N → List N
  going world mount = going_at world mount mount.mount_point

  -- a mount of this number is detached
  abbrev pub is_going : List N → N → Bool
  is_going gone number = is_among eq number gone

  -- the mount point of the parent, if that one is detached
  abbrev pub mount_point_of_parent : World N → List N → Location N → Option (Location N)
  mount_point_of_parent world gone point =
      if is_going gone point.mount then (mount_at eq world point).mount_point else None

  -- The mount point of a mount that stays. Where its parent is detached it takes that one's mount point, and so on
  -- (profile).
  abbrev pub inherited_mount_point : World N → List N → Location N → Location N
  inherited_mount_point world gone point =
      last_or point (chain (length world.mounts) (mount_point_of_parent world gone) point)

  -- a mount after the event: detached, or with the mount point that is left for it
  abbrev pub after_going : World N → List N → Mount N → Mount N
  after_going world gone mount =
      if is_going gone mount.number then detached mount
      else record mount { mount_point = option_map (inherited_mount_point world gone) mount.mount_point }

  -- the world with these mounts detached, and without peer groups that have no member: umount(2)
  abbrev pub taken_away : World N → List N → World N
  taken_away world gone = regrouped eq (with_mounts world (map (after_going world gone) world.mounts))

  -- the world after the unmount event of one mount: umount(2)
  abbrev pub unmounted : World N → N → World N
  unmounted world number = taken_away world (going world (mount_numbered eq world number))

  -- the depth of a mount: how many ancestors it has
  abbrev pub depth_of : World N → Mount N → ℕ
  depth_of world mount =
      length (chain (length world.mounts) (λ child. option_map (mount_at eq world) child.mount_point) mount)

  -- a mount put before the first of these that is no deeper
  abbrev pub insert_deepest : World N → Mount N → List (Mount N) → List (Mount N)
  insert_deepest world mount [] = mount ∷ []
  insert_deepest world mount (other ∷ rest) =
      if nat_lt (depth_of world mount) (depth_of world other) then other ∷ insert_deepest world mount rest
      else mount ∷ other ∷ rest

  -- mounts ordered by depth, the deepest first; of one depth, the last in the tree comes first
  abbrev pub deepest_first : World N → List (Mount N) → List (Mount N)
  deepest_first world mounts = folded (λ sorted mount. insert_deepest world mount sorted) [] mounts

  -- a mount that an earlier event detached is skipped
  abbrev pub unmounted_if_there : World N → Mount N → World N
  unmounted_if_there world mount =
      if is_some (mount_numbered eq world mount.number).namespace then unmounted world mount.number else world

  -- a lazy unmount: one unmount event for each mount of the tree, as the tree is when the call begins: umount(2),
  -- MNT_DETACH
  abbrev pub lazily_unmounted : World N → N → World N
  lazily_unmounted world number =
      folded unmounted_if_there world
      (deepest_first world (mount_tree eq world.mounts (mount_numbered eq world number)))

  -- mounts and their descendants are detached without propagation: at a removed mount point, mount_namespaces(7)
  abbrev pub trees_taken_away : World N → List (Mount N) → World N
  trees_taken_away world mounts =
      taken_away world (map (λ mount. mount.number) (flat_map (mount_tree eq world.mounts) mounts))

  -- a task's root, working directory or descriptor is on one of these mounts
  abbrev pub is_used : World N → List N → Bool
  is_used world mounts = list_any (λ location. is_among eq location.mount mounts) (all_locations world)

  -- the mount has a child
  abbrev pub has_child : World N → N → Bool
  has_child world number = list_any (stands_on eq number) world.mounts

  -- EBUSY of umount(2): the mount has a child, or a mount that would be detached is in use
  abbrev pub is_busy : World N → N → Bool
  is_busy world number = has_child world number || is_used world (going world (mount_numbered eq world number))

  -- EBUSY of mount(2) with MS_REMOUNT and MS_RDONLY: a file is open for writing through the mount
  abbrev pub is_written_through : World N → N → Bool
  is_written_through world mount =
      list_any (λ task. list_any (λ descriptor. descriptor.writes
      && eq mount descriptor.location.mount) task.descriptors) world.tasks

  -- The mount points that a directory is, through whatever mount it is seen; on an overlay its upper directory counts
  -- too.

  -- the mount has this inode of this filesystem as its mount point
  abbrev pub is_point : World N → N → N → Mount N → Bool
  is_point world filesystem node mount =
      holds_of (λ point. eq point.node node && eq (mount_at eq world point).filesystem filesystem) mount.mount_point

  -- the directories that count as one mount point with this one
  abbrev pub points_of : World N → Location N → List (N × N)
  points_of world location =
      ((filesystem_at eq world location).number, location.node)
      ∷ of_overlay [] (λ overlay. upper_points world (filesystem_at eq world location) overlay location.node)
      (filesystem_at eq world location)

  -- the mounts, of all namespaces, that have a location as their mount point in this sense
  abbrev pub mounts_on : World N → Location N → List (Mount N)
  mounts_on world location =
      filter (λ mount. list_any (λ point. is_point world point.0 point.1 mount) (points_of world location)) world.mounts

  -- the mounts on a removed directory are detached in every namespace, with their descendants: mount_namespaces(7),
  -- "restrictions"
  abbrev pub without_mounts_on : World N → Location N → World N
  without_mounts_on world location = trees_taken_away world (mounts_on world location)

  -- the world without the mounts on an object that a rename replaces: mount_namespaces(7), "restrictions"
  abbrev pub without_replaced : World N → Option (Location N) → World N
  without_replaced world None = world
  without_replaced world (Some new) = without_mounts_on world new
