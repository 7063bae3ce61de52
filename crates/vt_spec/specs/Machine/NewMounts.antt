-- New filesystems, plain and overlay, with a mount of each: mount(2).
use Rattle.std.specs.Prelude.{Bool, List, None, Some, [], false, is_some, length, map, sum, ℕ, ◌++◌, ◌∷◌}
use Rattle.vt_spec.specs.Language.Calls.{MountFlags}
use Rattle.vt_spec.specs.Lists.{Fresh, evens, odds}
use Rattle.vt_spec.specs.Machine.Attach.{attach}
use Rattle.vt_spec.specs.Machine.Merging.{MergedInode, merged_inodes, merged_objects, real_of, tree_of}
use Rattle.vt_spec.specs.Machine.Mounts.{Location, Mount}
use Rattle.vt_spec.specs.Machine.Mounts.Propagation.{Private}
use Rattle.vt_spec.specs.Machine.World.{Filesystem, Overlay, World, new_plain, open_layer, shown_layers}

module _ {N : Type 0} where
  -- a mount of a filesystem from its root on, before it is attached
  abbrev pub new_mount : N → N → MountFlags → Mount N
  new_mount filesystem root flags =
      record {
        number = filesystem;
        namespace = None;
        mount_point = None;
        filesystem = filesystem;
        root = root;
        flags = flags;
        propagation = Private;
      }

  -- the world with one filesystem more
  abbrev pub with_new_filesystem : World N → Filesystem N → World N
  with_new_filesystem world filesystem = record world { filesystems = world.filesystems ++ (filesystem ∷ []) }

  -- how many inodes there are, in all filesystems
  abbrev pub inode_count : World N → ℕ
  inode_count world = sum (map (λ filesystem. length filesystem.files.numbers) world.filesystems)

module _ {N : Type 0} (eq : N → N → Bool) where
  -- the world with a new filesystem, and a mount of it attached at a destination: mount(2)
  abbrev pub mounted : Fresh N → World N → Location N → Filesystem N → MountFlags → World N
  mounted fresh world destination filesystem flags =
      attach eq (with_new_filesystem world filesystem) fresh destination false
      (new_mount filesystem.number filesystem.files.tree.root flags ∷ [])

  -- a new plain filesystem: mount(2) of a tmpfs
  abbrev pub plain_filesystem : Fresh N → Filesystem N
  plain_filesystem fresh = new_plain eq (evens fresh 0) (evens fresh 1)

  -- an overlay as a filesystem of these merged inodes
  abbrev pub overlay_of_inodes : N → N → Overlay N → List (MergedInode N) → Filesystem N
  overlay_of_inodes number root overlay inodes = record {
    number = number;
    files = tree_of eq root inodes;
    overlay = Some (record overlay { real = real_of eq inodes });
    change = 0;
  }

  -- the filesystem of a new overlay: the merged tree of its layers, with the real objects of its inodes
  abbrev pub overlay_filesystem : Fresh N → World N → Overlay N → Filesystem N
  overlay_filesystem fresh world overlay =
      overlay_of_inodes (evens fresh 0) (odds fresh 0) overlay
      (merged_inodes eq (odds fresh) (is_some overlay.upper) (map (open_layer eq world) (shown_layers overlay))
      (merged_objects (map (open_layer eq world) (shown_layers overlay)) (inode_count world)))
