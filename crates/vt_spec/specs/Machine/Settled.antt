-- The end of what is no longer in use: mounts, filesystems, inodes, peer groups. path_resolution(7) and unlink(2) on
-- inodes that are still in use, umount(2) with MNT_DETACH on mounts, mount_namespaces(7) on namespaces.
use Rattle.std.specs.Prelude.{Bool, List, None, [], false, filter, filter_map, flat_map, if◌then◌else◌, is_some, map, not, option_map, true, ◌&&◌, ◌++◌, ◌||◌, ◌∷◌}
use Rattle.std.specs.List.{list_all, list_any}
use Rattle.vt_spec.specs.FileTree.{FileTree, targets_in}
use Rattle.vt_spec.specs.Lists.{holds_of, is_among}
use Rattle.vt_spec.specs.Machine.Locked.{of_overlay}
use Rattle.vt_spec.specs.Machine.Mounts.{Mount, root_of}
use Rattle.vt_spec.specs.Machine.Receives.{has_members}
use Rattle.vt_spec.specs.Machine.World.{Filesystem, Overlay, World, all_locations, is_overlay, layers_of, mount_at, upper_object, with_mounts}

module _ {N : Type 0} where
  -- The inodes in use: the root, those with a name, those of locations, mounts and mount points, the directories of
  -- layers, and the objects that an overlay has in its upper layer.

  -- the inodes that entries lead to: inode(7), "Hard link count"
  abbrev pub named_in : FileTree N → List N
  named_in files = flat_map (λ directory. targets_in (files.tree.node directory)) files.numbers

module _ {N : Type 0} (eq : N → N → Bool) where
  -- a root, working directory or descriptor is on the mount
  abbrev pub is_located : World N → N → Bool
  is_located world number = list_any (λ location. eq number location.mount) (all_locations world)

  -- a mount is in use while it is in a namespace, or a location that a task uses is on it: umount(2), MNT_DETACH
  abbrev pub mount_lives : World N → Mount N → Bool
  mount_lives world mount = is_some mount.namespace || is_located world mount.number

  -- some mount shows the filesystem
  abbrev pub is_mounted : World N → N → Bool
  is_mounted world filesystem = list_any (λ mount. eq filesystem mount.filesystem) world.mounts

  -- an overlay has a layer in this filesystem
  abbrev pub has_layer_on : N → Filesystem N → Bool
  has_layer_on filesystem merged =
      of_overlay false (λ overlay. list_any (λ layer. eq filesystem layer.filesystem) (layers_of overlay)) merged

  -- a filesystem is in use while it is mounted, or a mounted overlay has a layer in it
  abbrev pub filesystem_lives : World N → Filesystem N → Bool
  filesystem_lives world filesystem =
      is_mounted world filesystem.number
      || list_any (λ merged. has_layer_on filesystem.number merged && is_mounted world merged.number) world.filesystems

  -- the inodes of a filesystem at locations that tasks use, at roots of mounts and at mount points
  abbrev pub located_in : World N → N → List N
  located_in world filesystem =
      map (λ location. location.node) (filter (λ location. eq filesystem (mount_at eq world location).filesystem)
      (all_locations world ++ map root_of world.mounts ++ filter_map (λ mount. mount.mount_point) world.mounts))

  -- the directories of a filesystem that are layers of overlays
  abbrev pub layers_in : World N → N → List N
  layers_in world filesystem =
      map (λ layer. layer.directory) (filter (λ layer. eq filesystem layer.filesystem)
      (flat_map (of_overlay [] layers_of) world.filesystems))

  -- the inodes of a filesystem that are real objects of an overlay with its upper layer there
  abbrev pub objects_of_overlay : N → Filesystem N → List N
  objects_of_overlay filesystem merged =
      of_overlay [] (λ overlay.
      if holds_of (λ layer. eq filesystem layer.filesystem) overlay.upper
      then filter_map (λ number. upper_object (overlay.real number)) merged.files.numbers else []) merged

  -- all inodes of a filesystem that are in use
  abbrev pub used_in : World N → Filesystem N → List N
  used_in world filesystem =
      filesystem.files.tree.root ∷ (named_in filesystem.files ++ located_in world filesystem.number
      ++ layers_in world filesystem.number ++ flat_map (objects_of_overlay filesystem.number) world.filesystems)

  -- the tree with these inodes alone
  abbrev pub only_among : List N → FileTree N → FileTree N
  only_among used files = record {
    tree = record {
      root = files.tree.root;
      node = λ number. if is_among eq number used then files.tree.node number
          else None;
    };
    numbers = filter (λ number. is_among eq number used) files.numbers;
  }

  -- an inode of an overlay that is removed loses its real object
  abbrev pub real_among : List N → Overlay N → Overlay N
  real_among used overlay =
      record overlay { real = λ number. if is_among eq number used then overlay.real number else None }

  -- the filesystem with these inodes alone; the flag says that it has no others
  abbrev pub only_used_by : (all_used : Bool) → List N → Filesystem N → Filesystem N
  only_used_by true used filesystem = filesystem
  only_used_by false used filesystem = record filesystem {
    files = only_among used filesystem.files;
    overlay = option_map (real_among used) filesystem.overlay;
  }

  -- the filesystem with these inodes alone
  abbrev pub only_used_of : List N → Filesystem N → Filesystem N
  only_used_of used filesystem =
      only_used_by (list_all (λ number. is_among eq number used) filesystem.files.numbers) used filesystem

  -- a filesystem that is chosen, with its inodes in use alone: unlink(2) on a file that is still open
  abbrev pub only_used : World N → (chosen : Bool) → Filesystem N → Filesystem N
  only_used world true filesystem = only_used_of (used_in world filesystem) filesystem
  only_used world false filesystem = filesystem

  -- the world without the mounts that nothing uses: umount(2), MNT_DETACH
  abbrev pub without_dead_mounts : World N → World N
  without_dead_mounts world = with_mounts world (filter (mount_lives world) world.mounts)

  -- the world without the filesystems that nothing uses: umount(2)
  abbrev pub without_dead_filesystems : World N → World N
  without_dead_filesystems world = record world { filesystems = filter (filesystem_lives world) world.filesystems }

  -- the world with the inodes in use alone, in the filesystems that are chosen
  abbrev pub without_dead_in : (Filesystem N → Bool) → World N → World N
  without_dead_in chosen world =
      record world {
        filesystems = map
            (λ filesystem. only_used world (chosen filesystem) filesystem) world.filesystems;
      }

  -- first the inodes of overlays are removed, then those of plain trees, in which their layers are
  abbrev pub without_dead_inodes : World N → World N
  without_dead_inodes world =
      without_dead_in (λ filesystem. not (is_overlay filesystem)) (without_dead_in is_overlay world)

  -- a peer group ends with its last member, and loses its master: mount_namespaces(7)
  abbrev pub without_dead_groups : World N → World N
  without_dead_groups world =
      record world { master = λ group. if has_members eq world.mounts group then world.master group else None }

  -- the world without what nothing uses any longer: mounts first, then filesystems, inodes and peer groups
  abbrev pub settled : World N → World N
  settled world = without_dead_groups (without_dead_inodes (without_dead_filesystems (without_dead_mounts world)))
