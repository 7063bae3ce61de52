-- The sweep, one thing at a time: each thing that lost a use is looked at, and goes if it has none left.
-- path_resolution(7), unlink(2), umount(2) with MNT_DETACH.
use Rattle.std.specs.Prelude.{All, Bool, List, None, false, filter, if◌then◌else◌, is_some, map, nat_eq, not, true, ℕ, ◌&&◌, ◌||◌, ◌≡◌}
use Rattle.std.specs.List.{list_all, list_any}
use Rattle.vt_spec.specs.FileTree.{FileTree}
use Rattle.vt_spec.specs.Lists.{any_pair, folded, is_among}
use Rattle.vt_spec.specs.Machine.Mounts.{Mount}
use Rattle.vt_spec.specs.Machine.Receives.{has_members}
use Rattle.vt_spec.specs.Machine.Settled.{filesystem_lives, has_layer_on, is_located, is_mounted, mount_lives, settled, without_dead_filesystems, without_dead_groups, without_dead_inodes, without_dead_mounts}
use Rattle.vt_spec.specs.Machine.World.{Filesystem, World, filesystem_numbered, is_overlay, mount_numbered, with_mounts}
use Rattle.vt_laws_mounts.specs.LettingGo.InUse.{HasTrees, is_inode_used}

-- The mount of this number goes, unless it is in a namespace, or a root, working directory or descriptor is on it.
abbrev pub let_go_mount : World ℕ → ℕ → World ℕ
let_go_mount world number =
    with_mounts world
    (filter (λ mount. not (nat_eq mount.number number) || mount_lives nat_eq world mount) world.mounts)

-- The filesystem of this number goes, unless it is mounted, or an overlay with a layer in it is.
abbrev pub let_go_filesystem : World ℕ → ℕ → World ℕ
let_go_filesystem world number = record world {
  filesystems = filter (λ filesystem. not (nat_eq filesystem.number number) || filesystem_lives nat_eq world filesystem)
      world.filesystems;
}

-- a tree without an inode
abbrev pub without_inode : ℕ → FileTree ℕ → FileTree ℕ
without_inode number files = record {
  tree = record { root = files.tree.root; node = λ other. if nat_eq other number then None else files.tree.node other };
  numbers = filter (λ other. not (nat_eq other number)) files.numbers;
}

-- an inode: the number of its filesystem, and its own
abbrev pub Inode : Type 0
Inode = ℕ × ℕ

abbrev pub let_go_inode_of : World ℕ → Inode → Filesystem ℕ → Filesystem ℕ
let_go_inode_of world inode filesystem =
    if nat_eq filesystem.number inode.0 && not (is_inode_used world filesystem inode.1)
    then record filesystem { files = without_inode inode.1 filesystem.files } else filesystem

-- The inode of a plain tree goes, unless it is the root, has a name, or something is at it.
abbrev pub let_go_inode : World ℕ → Inode → World ℕ
let_go_inode world inode = record world { filesystems = map (let_go_inode_of world inode) world.filesystems }

-- The group hears of nothing any more, unless it has members.
abbrev pub let_go_group : World ℕ → ℕ → World ℕ
let_go_group world group = record world {
  master = λ other.
      if nat_eq other group && not (has_members nat_eq world.mounts other) then None else world.master other;
}

abbrev pub is_inode_among : ℕ → ℕ → List Inode → Bool
is_inode_among filesystem number inodes = list_any (λ inode. nat_eq filesystem inode.0 && nat_eq number inode.1) inodes

-- What may have lost uses
pub record Losers : Type 0 where
  pub mounts : List ℕ
  pub filesystems : List ℕ
  pub inodes : List Inode
  pub groups : List ℕ

abbrev pub let_go_mounts : World ℕ → List ℕ → World ℕ
let_go_mounts world numbers = folded let_go_mount world numbers

abbrev pub let_go_filesystems : World ℕ → List ℕ → World ℕ
let_go_filesystems world numbers = folded let_go_filesystem world numbers

abbrev pub let_go_inodes : World ℕ → List Inode → World ℕ
let_go_inodes world inodes = folded let_go_inode world inodes

abbrev pub let_go_groups : World ℕ → List ℕ → World ℕ
let_go_groups world groups = folded let_go_group world groups

-- first mounts, then filesystems, then inodes, then groups
abbrev pub let_go : World ℕ → Losers → World ℕ
let_go world losers =
    let_go_groups
    (let_go_inodes (let_go_filesystems (let_go_mounts world losers.mounts) losers.filesystems) losers.inodes)
    losers.groups

-- no filesystem is an overlay
abbrev pub IsPlain : World ℕ → Type 0
IsPlain world = list_any is_overlay world.filesystems ≡ false

-- All else is in use

abbrev pub MountsInUseBut : List ℕ → World ℕ → Type 0
MountsInUseBut losers world =
    list_all (λ mount. is_among nat_eq mount.number losers || mount_lives nat_eq world mount) world.mounts ≡ true

abbrev pub FilesystemsInUseBut : List ℕ → World ℕ → Type 0
FilesystemsInUseBut losers world =
    list_all (λ filesystem. is_among nat_eq filesystem.number losers || filesystem_lives nat_eq world filesystem)
    world.filesystems ≡ true

abbrev pub is_used_or_among : List Inode → World ℕ → Filesystem ℕ → ℕ → Bool
is_used_or_among losers world filesystem number =
    is_inode_among filesystem.number number losers || is_inode_used world filesystem number

abbrev pub InodesInUseBut : List Inode → World ℕ → Type 0
InodesInUseBut losers world =
    All (λ filesystem. list_all (is_used_or_among losers world filesystem) filesystem.files.numbers ≡ true)
    world.filesystems

abbrev pub GroupsInUseBut : List ℕ → World ℕ → Type 0
GroupsInUseBut losers world =
    (group : ℕ) → is_among nat_eq group losers ≡ false → has_members nat_eq world.mounts group ≡ false
    → world.master group ≡ None

-- each in the world that what went before it has left
pub record AllInUseBut (losers : Losers) (world : World ℕ) : Type 0 where
  pub mounts : MountsInUseBut losers.mounts world
  pub filesystems : FilesystemsInUseBut losers.filesystems (without_dead_mounts nat_eq world)
  pub inodes : InodesInUseBut losers.inodes (without_dead_filesystems nat_eq (without_dead_mounts nat_eq world))
  pub groups : GroupsInUseBut losers.groups (without_dead_mounts nat_eq world)

-- Where all other mounts are in use, the sweep of mounts is to look at these, one after the other.
abbrev pub MountsGoOneByOne : Type 0
MountsGoOneByOne =
    (world : World ℕ) (losers : List ℕ) → MountsInUseBut losers world
    → without_dead_mounts nat_eq world ≡ let_go_mounts world losers

-- So is that of filesystems, overlays among them,
abbrev pub FilesystemsGoOneByOne : Type 0
FilesystemsGoOneByOne =
    (world : World ℕ) (losers : List ℕ) → FilesystemsInUseBut losers world
    → without_dead_filesystems nat_eq world ≡ let_go_filesystems world losers

-- that of inodes, in a world of plain filesystems,
abbrev pub InodesGoOneByOne : Type 0
InodesGoOneByOne =
    (world : World ℕ) (losers : List Inode) → IsPlain world → HasTrees world → InodesInUseBut losers world
    → without_dead_inodes nat_eq world ≡ let_go_inodes world losers

-- that of groups,
abbrev pub GroupsGoOneByOne : Type 0
GroupsGoOneByOne =
    (world : World ℕ) (losers : List ℕ) → GroupsInUseBut losers world
    → without_dead_groups nat_eq world ≡ let_go_groups world losers

-- and the whole sweep: what lost uses goes one by one, mounts first, and nothing else.
abbrev pub AllGoesOneByOne : Type 0
AllGoesOneByOne =
    (world : World ℕ) (losers : Losers) → IsPlain world → HasTrees world → AllInUseBut losers world
    → settled nat_eq world ≡ let_go world losers

-- As code does it: what is looked up is left where it is used, and taken away where it is not.

abbrev pub is_mount_used : World ℕ → ℕ → Bool
is_mount_used world number = is_some (mount_numbered nat_eq world number).namespace || is_located nat_eq world number

abbrev pub without_mount : World ℕ → ℕ → World ℕ
without_mount world number = with_mounts world (filter (λ mount. not (nat_eq mount.number number)) world.mounts)

abbrev pub MountIsLookedUp : Type 0
MountIsLookedUp =
    (world : World ℕ) (number : ℕ) → any_pair (λ (a b : Mount ℕ). nat_eq a.number b.number) world.mounts ≡ false
    → let_go_mount world number ≡ (if is_mount_used world number then world else without_mount world number)

abbrev pub is_filesystem_used : World ℕ → ℕ → Bool
is_filesystem_used world number =
    is_mounted nat_eq world number
    || list_any (λ merged. has_layer_on nat_eq number merged && is_mounted nat_eq world merged.number) world.filesystems

abbrev pub without_filesystem : World ℕ → ℕ → World ℕ
without_filesystem world number =
    record world { filesystems = filter (λ filesystem. not (nat_eq filesystem.number number)) world.filesystems }

abbrev pub FilesystemIsLookedUp : Type 0
FilesystemIsLookedUp =
    (world : World ℕ) (number : ℕ)
    → let_go_filesystem world number
    ≡ (if is_filesystem_used world number then world else without_filesystem world number)

-- Of inodes of plain trees: where each filesystem has a number of its own, the inode is looked up in the one of that
-- number.
abbrev pub is_inode_used_in : World ℕ → Inode → Bool
is_inode_used_in world inode = is_inode_used world (filesystem_numbered nat_eq world inode.0) inode.1

abbrev pub without_inode_in : Inode → Filesystem ℕ → Filesystem ℕ
without_inode_in inode filesystem =
    if nat_eq filesystem.number inode.0
    then record filesystem { files = without_inode inode.1 filesystem.files } else filesystem

abbrev pub without_inode_at : World ℕ → Inode → World ℕ
without_inode_at world inode = record world { filesystems = map (without_inode_in inode) world.filesystems }

abbrev pub InodeIsLookedUp : Type 0
InodeIsLookedUp =
    (world : World ℕ) (inode : Inode)
    → any_pair (λ (a b : Filesystem ℕ). nat_eq a.number b.number) world.filesystems ≡ false
    → let_go_inode world inode ≡ (if is_inode_used_in world inode then world else without_inode_at world inode)

abbrev pub without_master : World ℕ → ℕ → World ℕ
without_master world group =
    record world { master = λ other. if nat_eq other group then None else world.master other }

abbrev pub GroupIsLookedUp : Type 0
GroupIsLookedUp =
    (world : World ℕ) (group : ℕ)
    → let_go_group world group
    ≡ (if has_members nat_eq world.mounts group then world else without_master world group)
