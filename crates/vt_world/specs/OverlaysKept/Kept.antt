-- What is kept of an overlay is its layers. Its tree is a function of what they show: the kernel's overlayfs document,
-- "upper and lower" and "multiple lower layers".
use Rattle.std.specs.Prelude.{All, None, Option, Some, length, nat_eq, true, ℕ, ◌≡◌}
use Rattle.vt_spec.specs.Lists.{Fresh}
use Rattle.vt_spec.specs.Machine.Invariants.{IsWorld}
use Rattle.vt_spec.specs.Machine.Permits.{Permit}
use Rattle.vt_spec.specs.Machine.World.{Overlay, Real, Task, World, filesystem_numbered, is_overlay}
use Rattle.vt_laws_mounts.specs.Counts.BesideOverlays.{OverlaysHaveNoUpper}
use Rattle.vt_laws_mounts.specs.Counts.OverlaysStay.{OverlaysAreNamed}
use Rattle.vt_laws_worlds.specs.Permits.Left.{IsGiven, left_by}
use Rattle.vt_laws_trees.specs.Overlays.TreesSeen.{real_seen}
use Rattle.vt_location.specs.Numbers.{counted}
use Rattle.vt_fs.specs.FilesystemsValue.{Filesystems, files_at}
use Rattle.vt_overlay.specs.declared.merge.layers.LayerRef.{LayerRef}
use Rattle.vt_overlay.specs.MergedTree.{AreLayers, OverlayValue, longest, merged_tree, overlay_seen, plain_world, real_number}

-- The tree of a layer in the world is the one that is kept, and beside it are as many numbers.
pub record ShowsLayer (world : World ℕ) (trees : Filesystems) (layer : LayerRef) : Type 0 where
  pub tree : (files_at trees layer.directory.filesystem.count).tree
      ≡ (filesystem_numbered nat_eq world (counted layer.directory.filesystem.count)).files.tree
  pub numbers : length (files_at trees layer.directory.filesystem.count).numbers
      ≡ length (filesystem_numbered nat_eq world (counted layer.directory.filesystem.count)).files.numbers

-- So it is with all layers of an overlay, each of which is a directory.
pub record ShowsLayers (world : World ℕ) (trees : Filesystems) (overlay : OverlayValue) : Type 0 where
  pub are : AreLayers trees overlay.lowers
  pub all : All (ShowsLayer world trees) overlay.lowers

-- the real objects that plain trees show in an overlay, and the overlay with these
abbrev pub real_objects : Filesystems → OverlayValue → ℕ → Option (Real ℕ)
real_objects trees overlay =
    real_seen (real_number trees overlay) (λ number. None) (longest trees overlay.lowers) (plain_world trees)
    (overlay_seen overlay)

abbrev pub with_objects : Filesystems → OverlayValue → Overlay ℕ
with_objects trees overlay = record (overlay_seen overlay) { real = real_objects trees overlay }

-- two lists of plain trees show an overlay alike
pub record IsShownAlike (old new : Filesystems) (overlay : OverlayValue) : Type 0 where
  pub tree : merged_tree new overlay ≡ merged_tree old overlay
  pub real : real_objects new overlay ≡ real_objects old overlay

-- A permit leaves an overlay as it was: the plain trees of the world that is left show it as those of the world before.
abbrev pub KeptOverlaysStay : Type 0
KeptOverlaysStay =
    (world : World ℕ) (fresh : Fresh ℕ) (task : Task ℕ) (permit : Permit ℕ) (old new : Filesystems)
    (overlay : OverlayValue) (number : ℕ)
    → IsWorld nat_eq world → OverlaysHaveNoUpper world → OverlaysAreNamed world → IsGiven fresh world task permit
    → (filesystem_numbered nat_eq world number).overlay ≡ Some (with_objects old overlay)
    → is_overlay (filesystem_numbered nat_eq (left_by fresh world task permit) number) ≡ true
    → ShowsLayers world old overlay → ShowsLayers (left_by fresh world task permit) new overlay
    → IsShownAlike old new overlay
