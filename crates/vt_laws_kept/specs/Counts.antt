-- How many locations are on inodes that an overlay keeps, and that such an inode goes with the last:
-- path_resolution(7), unlink(2) and rmdir(2) of what is in use, umount(2) with MNT_DETACH.
use Rattle.std.specs.Prelude.{Bool, List, None, Some, filter, if◌then◌else◌, is_some, nat_eq, nat_lt, not, option_map, true, ℕ, ◌+◌, ◌||◌, ◌≡◌}
use Rattle.vt_spec.specs.Machine.Invariants.{IsWorld, OverlayInvariants}
use Rattle.vt_spec.specs.Machine.Settled.{located_in, settled}
use Rattle.vt_spec.specs.Machine.World.{Filesystem, Overlay, World, filesystem_numbered, is_overlay}
use Rattle.vt_laws_mounts.specs.Counts.Using.{Exchanges, is_inode}
use Rattle.vt_laws_mounts.specs.LettingGo.Counts.{inode_uses, times}
use Rattle.vt_laws_mounts.specs.LettingGo.OneByOne.{Inode}
use Rattle.vt_laws_worlds.specs.Worlds.Kept.{IsUnderWay}
use Rattle.vt_laws_kept.specs.Kept.{is_unnamed}

-- how many locations of tasks, roots of mounts and mount points are on an inode of a filesystem
abbrev pub locations_on : World ℕ → ℕ → ℕ → ℕ
locations_on world filesystem inode = times (nat_eq inode) (located_in nat_eq world filesystem)

-- what is said of an inode of an overlay that is neither the root nor has a name, whether it exists or not
abbrev pub OfUnnamed : (World ℕ → ℕ → ℕ → Type 0) → Type 0
OfUnnamed Said =
    (world : World ℕ) (number : ℕ) (overlay : Overlay ℕ) (inode : ℕ) → IsWorld nat_eq world
    → (filesystem_numbered nat_eq world number).overlay ≡ Some overlay
    → is_unnamed (filesystem_numbered nat_eq world number).files inode ≡ true → Said world number inode

-- Its uses are the locations on it,
abbrev pub UnnamedUsesAreLocations : Type 0
UnnamedUsesAreLocations =
    OfUnnamed (λ world number inode.
    inode_uses world (filesystem_numbered nat_eq world number) inode ≡ locations_on world number inode)

-- and it exists just while there are any.
abbrev pub UnnamedExistWhileLocated : Type 0
UnnamedExistWhileLocated =
    OfUnnamed (λ world number inode.
    is_some ((filesystem_numbered nat_eq world number).files.tree.node inode)
    ≡ nat_lt 0 (locations_on world number inode))

-- Uses that mounts and tasks exchange are locations, whatever becomes of filesystems.
abbrev pub LocationsAreExchanged : Type 0
LocationsAreExchanged =
    (world after : World ℕ) (gained lost : List Inode) (number inode : ℕ)
    → Exchanges gained lost number world (record after { filesystems = world.filesystems })
    → locations_on world number inode + times (is_inode number inode) gained
    ≡ locations_on after number inode + times (is_inode number inode) lost

-- an inode stays: it is the root, has a name, or a location is on it
abbrev pub stays_in : World ℕ → Filesystem ℕ → ℕ → Bool
stays_in world merged inode = not (is_unnamed merged.files inode) || nat_lt 0 (locations_on world merged.number inode)

-- an overlay with the real objects of the inodes that stay, and a filesystem with these inodes
abbrev pub real_staying : (ℕ → Bool) → Overlay ℕ → Overlay ℕ
real_staying stays overlay = record overlay { real = λ inode. if stays inode then overlay.real inode else None }

abbrev pub only_staying : (ℕ → Bool) → Filesystem ℕ → Filesystem ℕ
only_staying stays merged = record merged {
  files = record {
    tree = record {
      root = merged.files.tree.root;
      node = λ inode. if stays inode then merged.files.tree.node inode else None;
    };
    numbers = filter stays merged.files.numbers;
  };
  overlay = option_map (real_staying stays) merged.overlay;
}

-- The sweep leaves of an overlay the inodes that stay, in their order.
abbrev pub UnnamedGoWithTheirLastLocation : Type 0
UnnamedGoWithTheirLastLocation =
    (world : World ℕ) (number : ℕ) → IsUnderWay world → OverlayInvariants nat_eq world
    → is_overlay (filesystem_numbered nat_eq (settled nat_eq world) number) ≡ true
    → filesystem_numbered nat_eq (settled nat_eq world) number
    ≡ only_staying (stays_in (settled nat_eq world) (filesystem_numbered nat_eq world number))
    (filesystem_numbered nat_eq world number)
