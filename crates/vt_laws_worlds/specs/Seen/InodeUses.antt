-- What uses an inode of an overlay: path_resolution(7) and unlink(2) on inodes that are still in use, and the kernel's
-- overlayfs document, "multiple lower layers": no layer is in an overlay (profile).
use Rattle.std.specs.Prelude.{Some, nat_eq, ℕ, ◌++◌, ◌∷◌, ◌≡◌, ◌≢◌}
use Rattle.vt_spec.specs.Lists.{is_among}
use Rattle.vt_spec.specs.Machine.Invariants.{IsWorld}
use Rattle.vt_spec.specs.Machine.Settled.{located_in, named_in, used_in}
use Rattle.vt_spec.specs.Machine.World.{Overlay, World, filesystem_numbered}
use Rattle.vt_spec.specs.TreeInvariant.{HasName}

-- The root, names, and what is at locations, the roots of mounts and the mount points: no layers, and no upper objects.
abbrev pub OverlaysAreUsedByLocations : Type 0
OverlaysAreUsedByLocations =
    (world : World ℕ) (number : ℕ) (overlay : Overlay ℕ) → IsWorld nat_eq world
    → (filesystem_numbered nat_eq world number).overlay ≡ Some overlay
    → used_in nat_eq world (filesystem_numbered nat_eq world number)
    ≡ (filesystem_numbered nat_eq world number).files.tree.root
    ∷ (named_in (filesystem_numbered nat_eq world number).files ++ located_in nat_eq world number)

-- So an inode without a name, other than the root, is in use just if a location, a root or a mount point is on it.
abbrev pub UnnamedAreUsedWhereLocated : Type 0
UnnamedAreUsedWhereLocated =
    (world : World ℕ) (number : ℕ) (overlay : Overlay ℕ) (inode : ℕ) → IsWorld nat_eq world
    → (filesystem_numbered nat_eq world number).overlay ≡ Some overlay
    → ¬ (HasName (filesystem_numbered nat_eq world number).files.tree inode)
    → inode ≢ (filesystem_numbered nat_eq world number).files.tree.root
    → is_among nat_eq inode (used_in nat_eq world (filesystem_numbered nat_eq world number))
    ≡ is_among nat_eq inode (located_in nat_eq world number)
