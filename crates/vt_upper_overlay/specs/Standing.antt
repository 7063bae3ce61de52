-- What has to hold of the layers of an overlay with an upper one, and of what it keeps, so that its looks are right.
use Rattle.std.specs.Prelude.{All, Bool, IsSome, List, None, Some, is_some, length, slice_get, suc, true, ℕ, ◌<◌, ◌||◌, ◌≡◌, ◌≤◌}
use Rattle.std.specs.Map.{keys_of}
use Rattle.vt_spec.specs.Machine.Layers.{shown}
use Rattle.vt_location.specs.declared.locations.NodeRef.{NodeRef}
use Rattle.vt_location.specs.Locations.{is_small_node, number_of}
use Rattle.vt_births.specs.Births.{AreOneToOne, copy_of, node_of}
use Rattle.vt_births.specs.Kept.{is_kept}
use Rattle.vt_births.specs.KeptObjects.{IsOf}
use Rattle.vt_fs.specs.FilesystemsValue.{Filesystems}
use Rattle.vt_overlay.specs.Merge.LayerValue.{layers_of}
use Rattle.vt_overlay.specs.declared.merge.layers.LayerRef.{LayerRef}
use Rattle.vt_overlay.specs.declared.merge.merging.TheConstants.{MOST_LAYERS}
use Rattle.vt_overlay.specs.MergedTree.{AreLayers, node_born}
use Rattle.vt_upper_overlay.specs.MergedAbove.{object_kept, object_shown, path_at}
use Rattle.vt_upper_overlay.specs.UpperValue.{UpperOverlayValue}

-- what is kept is one of the overlay's own nodes, is at no path, and has its object
pub record IsKeptWell (trees : Filesystems) (overlay : UpperOverlayValue) (node : NodeRef) : Type 0 where
  pub small : is_small_node node ≡ true
  pub own : IsOf overlay.layers.number overlay.nodes.births node
  pub unnamed : path_at trees overlay (number_of node) ≡ None
  pub object : IsSome (object_kept trees overlay node)

-- The layers are directories of plain trees, the upper one among them, and not too many. Each copy is that of one node
-- of this overlay; and what a lower layer shows was not copied up, since a copy hides it, or a whiteout does.
pub record StandsAbove (trees : Filesystems) (overlay : UpperOverlayValue) : Type 0 where
  pub layers : AreLayers trees overlay.layers.lowers
  pub upper : 0 < length overlay.layers.lowers
  pub few : length overlay.layers.lowers ≤ MOST_LAYERS
  pub one_to_one : AreOneToOne overlay.nodes.births
  pub own : (slot : ℕ) (node : NodeRef) → node_of overlay.nodes.births slot ≡ Some node
      → node.filesystem ≡ overlay.layers.number
  pub uncopied : (path : List (List ℕ)) (layer object : ℕ) (lower : LayerRef)
      → shown (layers_of trees overlay.layers.lowers) path ≡ Some (record { layer = suc layer; object = object })
      → slice_get overlay.layers.lowers (suc layer) ≡ Some lower
      → copy_of overlay.nodes.births (node_born trees overlay.layers.number layer lower path) ≡ None
  pub kept : All (IsKeptWell trees overlay) (keys_of overlay.nodes.kept.by_node)

-- something is shown of a node, or it is kept without a name
abbrev pub is_there : Filesystems → UpperOverlayValue → NodeRef → Bool
is_there trees overlay node =
    is_some (object_shown trees overlay (number_of node)) || is_kept overlay.nodes.kept node
