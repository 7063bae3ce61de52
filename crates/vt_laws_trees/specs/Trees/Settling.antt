-- What nothing uses goes, and what is left are trees.
use Rattle.std.specs.Prelude.{All, List, None, Option, false, map, nat_eq, true, ℕ, ◌≡◌}
use Rattle.std.specs.List.{list_any}
use Rattle.vt_spec.specs.FileTree.{FileTree}
use Rattle.vt_spec.specs.Lists.{is_among}
use Rattle.vt_spec.specs.Machine.Mounts.{Location, same_location}
use Rattle.vt_spec.specs.Machine.Settled.{is_mounted, only_among, only_used, settled, used_in, without_dead_mounts}
use Rattle.vt_spec.specs.Machine.World.{Filesystem, World, all_locations, filesystem_numbered, node_at}
use Rattle.vt_spec.specs.Tree.{Node}
use Rattle.vt_spec.specs.TreeInvariant.{HasName}
use Rattle.vt_laws_trees.specs.Trees.{IsFileTree}

-- the inode of a filesystem in a world
abbrev pub inode_in : World ℕ → ℕ → ℕ → Option (Node ℕ)
inode_in world filesystem number = (filesystem_numbered nat_eq world filesystem).files.tree.node number

-- a list that has the root of a tree, and every inode with a name
pub record HoldsTree (used : List ℕ) (files : FileTree ℕ) : Type 0 where
  pub root : is_among nat_eq files.tree.root used ≡ true
  pub named : (number : ℕ) → HasName files.tree number → is_among nat_eq number used ≡ true

-- A tree without the inodes that are not used is a tree: unlink(2), rmdir(2) of what is in use no more.
abbrev pub ForgettingKeepsTrees : Type 0
ForgettingKeepsTrees =
    (used : List ℕ) (files : FileTree ℕ) → HoldsTree used files → IsFileTree files
    → IsFileTree (only_among nat_eq used files)

-- What is used stays as it was: its attributes, its bytes and its entries.
abbrev pub UsedStays : Type 0
UsedStays =
    (world : World ℕ) (filesystem : Filesystem ℕ) (number : ℕ)
    → is_among nat_eq number (used_in nat_eq world filesystem) ≡ true
    → (only_used nat_eq world true filesystem).files.tree.node number ≡ filesystem.files.tree.node number

-- What has a name, is a root, or is where a task, a mount or a layer is, is used.
abbrev pub NamedIsUsed : Type 0
NamedIsUsed =
    (world : World ℕ) (filesystem : Filesystem ℕ) → IsFileTree filesystem.files
    → HoldsTree (used_in nat_eq world filesystem) filesystem.files

-- What is not used is gone: an inode without names that no location is at.
abbrev pub UnusedIsGone : Type 0
UnusedIsGone =
    (world : World ℕ) (filesystem : Filesystem ℕ) (number : ℕ)
    → IsFileTree filesystem.files → is_among nat_eq number (used_in nat_eq world filesystem) ≡ false
    → (only_used nat_eq world true filesystem).files.tree.node number ≡ None

-- every filesystem of a world is a tree
abbrev pub HasFileTrees : World ℕ → Type 0
HasFileTrees world = All (λ filesystem. IsFileTree filesystem.files) world.filesystems

-- A world in which what nothing uses is gone has trees.
abbrev pub SettlingKeepsTrees : Type 0
SettlingKeepsTrees = (world : World ℕ) → HasFileTrees world → HasFileTrees (settled nat_eq world)

-- An inode with a name stays, in a filesystem that is mounted.
abbrev pub NamedStays : Type 0
NamedStays =
    (world : World ℕ) (number object : ℕ)
    → HasFileTrees world → is_mounted nat_eq (without_dead_mounts nat_eq world) number ≡ true
    → HasName (filesystem_numbered nat_eq world number).files.tree object
    → (filesystem_numbered nat_eq (settled nat_eq world) number).files.tree.node object
    ≡ (filesystem_numbered nat_eq world number).files.tree.node object

-- What is at the root, working directory or descriptor of a task stays, with or without a name: unlink(2), umount(2).
abbrev pub LocatedStays : Type 0
LocatedStays =
    (world : World ℕ) (location : Location ℕ)
    → list_any (same_location nat_eq location) (all_locations world) ≡ true
    → is_among nat_eq location.mount (map (λ mount. mount.number) world.mounts) ≡ true
    → node_at nat_eq (settled nat_eq world) location ≡ node_at nat_eq world location
