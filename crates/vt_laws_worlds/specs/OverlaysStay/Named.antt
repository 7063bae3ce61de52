-- Inodes of overlays that have names: where an overlay's real objects are found along the paths of its layers, and none
-- is held, each inode is the root or has a name.
use Rattle.std.specs.Prelude.{None, Some, nat_eq, true, ℕ, ◌≡◌}
use Rattle.vt_spec.specs.Machine.Invariants.{IsWorld}
use Rattle.vt_spec.specs.Machine.World.{Overlay, Real, World, filesystem_numbered}
use Rattle.vt_laws_mounts.specs.LettingGo.Keeping.{has_only_named}
use Rattle.vt_laws_trees.specs.Overlays.MergedTrees.{IsNamedBy}
use Rattle.vt_laws_trees.specs.Overlays.TreesSeen.{real_seen}
use Rattle.vt_laws_mounts.specs.Counts.OverlaysStay.{OverlaysAreNamed}

-- So it is of one overlay,
abbrev pub SeenOverlaysHaveNames : Type 0
SeenOverlaysHaveNames =
    (number_of : Real ℕ → ℕ) (longest : ℕ) (world : World ℕ) (number : ℕ) (overlay : Overlay ℕ)
    → IsWorld nat_eq world → (filesystem_numbered nat_eq world number).overlay ≡ Some overlay
    → overlay.real ≡ real_seen number_of (λ inode. None) longest world overlay
    → IsNamedBy number_of (λ inode. None) (filesystem_numbered nat_eq world number) overlay
    × (has_only_named (filesystem_numbered nat_eq world number) ≡ true)

-- and of all.
abbrev pub SeenWorldsHaveNames : Type 0
SeenWorldsHaveNames =
    (number_of : ℕ → Real ℕ → ℕ) (longest : ℕ → ℕ) (world : World ℕ) → IsWorld nat_eq world
    → ((number : ℕ) (overlay : Overlay ℕ) → (filesystem_numbered nat_eq world number).overlay ≡ Some overlay
    → overlay.real ≡ real_seen (number_of number) (λ inode. None) (longest number) world overlay)
    → OverlaysAreNamed world
