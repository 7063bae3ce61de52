-- A world in which all is in use, and the sweep at the end of a call: path_resolution(7), unlink(2), umount(2) with
-- MNT_DETACH.
use Rattle.std.specs.Prelude.{All, Bool, None, false, nat_eq, true, ℕ, ◌≡◌}
use Rattle.std.specs.List.{list_all}
use Rattle.vt_spec.specs.FileTree.{FileTree}
use Rattle.vt_spec.specs.Lists.{holds_of, is_among}
use Rattle.vt_spec.specs.Machine.Locked.{of_overlay}
use Rattle.vt_spec.specs.Machine.Receives.{has_members}
use Rattle.vt_spec.specs.Machine.Settled.{filesystem_lives, mount_lives, settled, used_in}
use Rattle.vt_spec.specs.Machine.World.{Filesystem, World, is_overlay}
use Rattle.vt_spec.specs.Machine.Invariants.{ListsNumbers}
use Rattle.vt_spec.specs.TreeInvariant.{IsTree}

-- each mount is in a namespace, or a root, working directory or descriptor is on it
abbrev pub MountsInUse : World ℕ → Type 0
MountsInUse world = list_all (mount_lives nat_eq world) world.mounts ≡ true

-- each filesystem is mounted, or an overlay with a layer in it is
abbrev pub FilesystemsInUse : World ℕ → Type 0
FilesystemsInUse world = list_all (filesystem_lives nat_eq world) world.filesystems ≡ true

-- the inode is the root, has a name, or is where a location, a mount, a place, a layer or an object of an overlay is
abbrev pub is_inode_used : World ℕ → Filesystem ℕ → ℕ → Bool
is_inode_used world filesystem number = is_among nat_eq number (used_in nat_eq world filesystem)

-- each inode of each filesystem is used
abbrev pub InodesInUse : World ℕ → Type 0
InodesInUse world =
    All (λ filesystem. list_all (is_inode_used world filesystem) filesystem.files.numbers ≡ true) world.filesystems

-- a group without members has no master
abbrev pub GroupsInUse : World ℕ → Type 0
GroupsInUse world = (group : ℕ) → has_members nat_eq world.mounts group ≡ false → world.master group ≡ None

pub record AllInUse (world : World ℕ) : Type 0 where
  pub mounts : MountsInUse world
  pub filesystems : FilesystemsInUse world
  pub inodes : InodesInUse world
  pub groups : GroupsInUse world

-- a tree, with the numbers of its inodes beside it
pub record IsListedTree (files : FileTree ℕ) : Type 0 where
  pub tree : IsTree files.tree
  pub numbers : ListsNumbers nat_eq files

abbrev pub HasTrees : World ℕ → Type 0
HasTrees world = All (λ filesystem. IsListedTree filesystem.files) world.filesystems

-- the filesystem is an overlay with its upper layer in the one of this number
abbrev pub has_upper_in : ℕ → Filesystem ℕ → Bool
has_upper_in number merged =
    of_overlay false (λ overlay. holds_of (λ layer. nat_eq number layer.filesystem) overlay.upper) merged

-- no upper layer of an overlay is in an overlay
abbrev pub UppersArePlain : World ℕ → Type 0
UppersArePlain world =
    All (λ filesystem. is_overlay filesystem ≡ true
    → All (λ merged. has_upper_in filesystem.number merged ≡ false) world.filesystems) world.filesystems

-- Where all is in use the sweep leaves the world as it was: a call that took no use away leaves all.
abbrev pub NothingGoes : Type 0
NothingGoes = (world : World ℕ) → AllInUse world → settled nat_eq world ≡ world

-- What the sweep leaves is in use,
abbrev pub WhatIsLeftIsInUse : Type 0
WhatIsLeftIsInUse = (world : World ℕ) → HasTrees world → UppersArePlain world → AllInUse (settled nat_eq world)

-- so a second sweep takes nothing.
abbrev pub OneSweepIsEnough : Type 0
OneSweepIsEnough =
    (world : World ℕ) → HasTrees world → UppersArePlain world
    → settled nat_eq (settled nat_eq world) ≡ settled nat_eq world
