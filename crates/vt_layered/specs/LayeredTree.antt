-- The tree of an overlay of one kind or the other, what is lent of its nodes, and what its looks ask: the kernel's
-- overlayfs document.
use Rattle.std.specs.Prelude.{None, Option, Some, length, ⊤, ℕ, ◌<◌, ◌≡◌, ◌≤◌}
use Rattle.vt_spec.specs.FileTree.{FileTree}
use Rattle.vt_spec.specs.Machine.World.{Overlay, Real}
use Rattle.vt_spec.specs.Tree.{Node}
use Rattle.vt_laws_trees.specs.Overlays.TreesSeen.{real_seen}
use Rattle.vt_location.specs.Fronts.{front}
use Rattle.vt_fs.specs.FilesystemsValue.{Filesystems}
use Rattle.vt_overlay.specs.declared.merge.merging.TheConstants.{MOST_LAYERS}
use Rattle.vt_overlay.specs.Alike as alike
use Rattle.vt_overlay.specs.MergedTree as lower
use Rattle.vt_overlay.specs.MergedTree.{AreLayers, OverlayValue, longest, plain_world}
use Rattle.vt_upper_overlay.specs.Lent as lent
use Rattle.vt_upper_overlay.specs.MergedAbove as upper
use Rattle.vt_upper_overlay.specs.Standing.{StandsAbove}
use Rattle.vt_layered.specs.LayeredValue.{Above, upper_of}

-- the overlay as the definitions see it,
abbrev pub layered_seen : OverlayValue → Option Above → Overlay ℕ
layered_seen overlay None = lower.overlay_seen overlay
layered_seen overlay (Some above) = upper.upper_seen (upper_of overlay above)

-- its tree,
abbrev pub layered_files : Filesystems → OverlayValue → Option Above → FileTree ℕ
layered_files trees overlay None = lower.merged_files trees overlay
layered_files trees overlay (Some above) = upper.merged_files trees (upper_of overlay above)

-- and the real objects of its inodes
abbrev pub layered_objects : Filesystems → OverlayValue → Option Above → ℕ → Option (Real ℕ)
layered_objects trees overlay None =
    real_seen (lower.real_number trees overlay) (λ number. None) (longest trees overlay.lowers) (plain_world trees)
    (lower.overlay_seen overlay)
layered_objects trees overlay (Some above) =
    real_seen (upper.real_number trees (upper_of overlay above)) (upper.held trees (upper_of overlay above))
    (longest trees overlay.lowers) (plain_world trees) (upper.upper_seen (upper_of overlay above))

-- what is lent of a node: its real object
abbrev pub layered_lent : Filesystems → OverlayValue → Option Above → ℕ → Option (Node ℕ)
layered_lent trees overlay None number = alike.real_lent trees overlay number
layered_lent trees overlay (Some above) number = lent.real_lent trees (upper_of overlay above) number

-- what it keeps beside its layers is right
abbrev pub KeepsRight : Filesystems → OverlayValue → Option Above → Type 0
KeepsRight trees overlay None = ⊤
KeepsRight trees overlay (Some above) = StandsAbove trees (upper_of overlay above)

-- its layers are directories of plain trees, one at least, and not too many
pub record StandsLayered (trees : Filesystems) (overlay : OverlayValue) (above : Option Above) : Type 0 where
  pub layers : AreLayers trees overlay.lowers
  pub some : 0 < length overlay.lowers
  pub few : length overlay.lowers ≤ MOST_LAYERS
  pub right : KeepsRight trees overlay above

-- A node has the owner, group, mode, kind and content of its real object.
abbrev pub LayeredObjectsAreAlike : Type 0
LayeredObjectsAreAlike =
    (trees : Filesystems) (overlay : OverlayValue) (above : Option Above) (number : ℕ)
    → StandsLayered trees overlay above
    → front (layered_lent trees overlay above number) ≡ front ((layered_files trees overlay above).tree.node number)
