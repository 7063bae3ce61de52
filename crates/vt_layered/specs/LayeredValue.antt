-- What contracts see of an overlay of one kind or the other: the kernel's overlayfs document, "upper and lower" and
-- "multiple lower layers".
use Rattle.std.specs.Prelude.{Bool, List, None, Option, Some, [], false, nat_eq, slice_get, ◌&&◌, ◌++◌, ◌∷◌, ⊤}
use Rattle.vt_spec.specs.Lists.{holds_of}
use Rattle.vt_births.specs.KeptObjects.{AreOf, has_kept_object}
use Rattle.vt_births.specs.declared.upper_nodes.UpperNodes.{UpperNodes}
use Rattle.vt_location.specs.declared.locations.InodeRef.{InodeRef}
use Rattle.vt_overlay.specs.declared.merge.layers.LayerRef.{LayerRef}
use Rattle.vt_overlay.specs.MergedTree.{OverlayValue}
use Rattle.vt_upper_overlay.specs.UpperValue.{UpperOverlayValue}
use Rattle.vt_layered.specs.declared.layered.LayeredKind.{LayeredKind}
use Rattle.vt_layered.specs.declared.layered.LayeredKind.TheVariants.{Lower, Upper}

-- what an overlay has more if its first layer is an upper one: its work directory, its births and what it keeps without
-- a name
pub record Above : Type 0 where
  pub work : LayerRef
  pub nodes : UpperNodes

-- the number of an overlay, all its layers from the top, and who mounted it; and what it has more with an upper layer
pub record LayeredValue : Type 0 where
  pub overlay : OverlayValue
  pub above : Option Above

abbrev pub value_of : LayeredKind → LayeredValue
value_of (Lower overlay) = record { overlay = overlay; above = None }
value_of (Upper overlay) = record {
  overlay = overlay.layers;
  above = Some (record { work = overlay.work; nodes = overlay.nodes });
}

-- an overlay with an upper layer
abbrev pub upper_of : OverlayValue → Above → UpperOverlayValue
upper_of overlay above = record { layers = overlay; work = above.work; nodes = above.nodes }

-- the directories that are in use as long as the overlay is: its layers, and the work directory
abbrev pub held_layers : OverlayValue → Option Above → List LayerRef
held_layers overlay None = overlay.lowers
held_layers overlay (Some above) = overlay.lowers ++ above.work ∷ []

-- an inode is in the filesystem of the upper layer, and is the object of what is kept without a name
abbrev pub keeps_object : OverlayValue → Option Above → InodeRef → Bool
keeps_object overlay None inode = false
keeps_object overlay (Some above) inode =
    holds_of (λ (top : LayerRef). nat_eq inode.filesystem.count top.directory.filesystem.count)
    (slice_get overlay.lowers 0)
    && has_kept_object above.nodes inode.slot

-- what is kept is of the overlay
abbrev pub KeepsItsOwn : OverlayValue → Option Above → Type 0
KeepsItsOwn overlay None = ⊤
KeepsItsOwn overlay (Some above) = AreOf overlay.number above.nodes
