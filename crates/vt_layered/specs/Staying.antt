-- Overlays whose layers stay as they were: the kernel's overlayfs document, "sharing and copying layers".
use Rattle.std.specs.Prelude.{All, Option, length, ℕ, ◌≡◌}
use Rattle.vt_fs.specs.FilesystemsValue.{Filesystems, files_at}
use Rattle.vt_overlay.specs.MergedTree.{OverlayValue}
use Rattle.vt_overlay.specs.declared.merge.layers.LayerRef.{LayerRef}
use Rattle.vt_layered.specs.LayeredTree.{StandsLayered, layered_files, layered_lent, layered_objects}
use Rattle.vt_layered.specs.LayeredValue.{Above}

-- the tree of a layer is as it was, and beside it are as many numbers
pub record StaysAsLayer (old new : Filesystems) (layer : LayerRef) : Type 0 where
  pub tree : (files_at new layer.directory.filesystem.count).tree
      ≡ (files_at old layer.directory.filesystem.count).tree
  pub numbers : length (files_at new layer.directory.filesystem.count).numbers
      ≡ length (files_at old layer.directory.filesystem.count).numbers

-- What an overlay shows is a function of the trees of its layers, of its births and of what it keeps without a name.
pub record ShowsTheSame (old new : Filesystems) (overlay : OverlayValue) (above : Option Above) : Type 0 where
  pub files : layered_files new overlay above ≡ layered_files old overlay above
  pub objects : layered_objects new overlay above ≡ layered_objects old overlay above
  pub lent : (number : ℕ) → layered_lent new overlay above number ≡ layered_lent old overlay above number

abbrev pub LayeredOverlaysStay : Type 0
LayeredOverlaysStay =
    (old new : Filesystems) (overlay : OverlayValue) (above : Option Above)
    → All (StaysAsLayer old new) overlay.lowers → ShowsTheSame old new overlay above

-- And it stands as its looks ask, if it did.
abbrev pub LayeredOverlaysStandStill : Type 0
LayeredOverlaysStandStill =
    (old new : Filesystems) (overlay : OverlayValue) (above : Option Above)
    → StandsLayered old overlay above → All (StaysAsLayer old new) overlay.lowers → StandsLayered new overlay above
