-- What nothing uses may go before the sweep at the end of a call: path_resolution(7), unlink(2), umount(2) with
-- MNT_DETACH, and the kernel's overlayfs document.
use Rattle.std.specs.Prelude.{Bool, List, nat_eq, true, ℕ, ◌≡◌}
use Rattle.vt_spec.specs.Lists.{folded, is_among}
use Rattle.vt_spec.specs.Machine.Settled.{located_in, settled, without_dead_mounts}
use Rattle.vt_spec.specs.Machine.World.{Filesystem, World}
use Rattle.vt_laws_trees.specs.Trees.Settling.{HasFileTrees}
use Rattle.vt_laws_mounts.specs.LettingGo.InUse.{AllInUse, HasTrees, MountsInUse, UppersArePlain}
use Rattle.vt_laws_mounts.specs.LettingGo.OneByOne.{Inode, let_go_filesystem, let_go_group, let_go_mount}
use Rattle.vt_laws_mounts.specs.LettingGo.Overlays.{RealsAreThere, let_go_in}

-- The mount of a number, unless it is in use: in every world,
abbrev pub MountsMayGoBefore : Type 0
MountsMayGoBefore =
    (world : World ℕ) (number : ℕ) → settled nat_eq (let_go_mount world number) ≡ settled nat_eq world

-- so a filesystem, an overlay or a plain one,
abbrev pub FilesystemsMayGoBefore : Type 0
FilesystemsMayGoBefore =
    (world : World ℕ) (number : ℕ) → settled nat_eq (let_go_filesystem world number) ≡ settled nat_eq world

-- and the master of a peer group without members.
abbrev pub GroupsMayGoBefore : Type 0
GroupsMayGoBefore =
    (world : World ℕ) (group : ℕ) → settled nat_eq (let_go_group world group) ≡ settled nat_eq world

-- What is located when the mounts are gone that nothing uses was located before: so it is if all are in use.
abbrev pub LocationsStay : World ℕ → Type 0
LocationsStay world =
    (filesystem number : ℕ)
    → is_among nat_eq number (located_in nat_eq (without_dead_mounts nat_eq world) filesystem) ≡ true
    → is_among nat_eq number (located_in nat_eq world filesystem) ≡ true

-- There an inode that nothing uses may go, of an overlay with its real object, or of a plain tree.
abbrev pub InodesMayGoBefore : Type 0
InodesMayGoBefore =
    (chosen : Filesystem ℕ → Bool) (world : World ℕ) (inode : Inode)
    → HasTrees world → UppersArePlain world → RealsAreThere world → LocationsStay world
    → settled nat_eq (let_go_in chosen world inode) ≡ settled nat_eq world

-- Things that may have lost uses, but for mounts: a filesystem, an inode of a kind of filesystem, a peer group.
pub data Loser : Type 0 where
  AFilesystem : (number : ℕ) → Loser
  AnInode : (chosen : Filesystem ℕ → Bool) (inode : Inode) → Loser
  AGroup : (group : ℕ) → Loser

-- It goes, unless something uses it.
abbrev pub let_go_loser : World ℕ → Loser → World ℕ
let_go_loser world (AFilesystem number) = let_go_filesystem world number
let_go_loser world (AnInode chosen inode) = let_go_in chosen world inode
let_go_loser world (AGroup group) = let_go_group world group

-- A world in which all mounts are in use, filesystems are trees, no upper layer is in an overlay, and real objects are
-- those of inodes.
pub record HasMountsInUse (world : World ℕ) : Type 0 where
  pub mounts : MountsInUse world
  pub trees : HasFileTrees world
  pub uppers : UppersArePlain world
  pub reals : RealsAreThere world

-- There any of these may be looked at before the sweep, one after the other, in any order and more than once.
abbrev pub AnyMayGoBefore : Type 0
AnyMayGoBefore =
    (world : World ℕ) (losers : List Loser) → HasMountsInUse world
    → settled nat_eq (folded let_go_loser world losers) ≡ settled nat_eq world

-- So where all is in use then, the sweep was done.
abbrev pub AnyOrderIsTheSweep : Type 0
AnyOrderIsTheSweep =
    (world : World ℕ) (losers : List Loser) → HasMountsInUse world → AllInUse (folded let_go_loser world losers)
    → folded let_go_loser world losers ≡ settled nat_eq world
