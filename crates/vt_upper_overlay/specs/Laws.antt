-- The tree that looks see is the merged tree of the definitions: the kernel's overlayfs document, "upper and lower".
use Rattle.std.specs.Prelude.{All, IsSome, Option, Some, length, true, ℕ, ◌<◌, ◌≡◌, ◌≢◌, ◌≤◌}
use Rattle.std.specs.Map.{keys_of}
use Rattle.vt_spec.specs.Machine.World.{Filesystem, Overlay, Real}
use Rattle.vt_spec.specs.Machine.World.Real.{Upper}
use Rattle.vt_spec.specs.Tree.{Tree}
use Rattle.vt_spec.specs.TreeInvariant.{HasName}
use Rattle.vt_laws_trees.specs.Overlays.MergedTrees.{IsMergedTree, IsNamedBy}
use Rattle.vt_location.specs.declared.locations.NodeRef.{NodeRef}
use Rattle.vt_location.specs.Locations.{is_small_node, number_of}
use Rattle.vt_location.specs.Numbers.{inode_number}
use Rattle.vt_births.specs.Births.{AreOneToOne, node_of}
use Rattle.vt_births.specs.KeptObjects.{IsOf}
use Rattle.vt_fs.specs.FilesystemsValue.{Filesystems}
use Rattle.vt_overlay.specs.declared.merge.merging.TheConstants.{MOST_LAYERS}
use Rattle.vt_overlay.specs.MergedTree.{AreLayers, plain_world}
use Rattle.vt_upper_overlay.specs.MergedAbove.{held, merged_above, real_number, upper_count, upper_seen}
use Rattle.vt_upper_overlay.specs.Standing.{StandsAbove}
use Rattle.vt_upper_overlay.specs.UpperValue.{UpperOverlayValue}

-- an overlay of the definitions, with these layers and these real objects
abbrev pub with_objects : UpperOverlayValue → (ℕ → Option (Real ℕ)) → Overlay ℕ
with_objects overlay real = record (upper_seen overlay) { real = real }

-- A merged tree of these layers whose inodes are named by the births, and those without a name by what is kept, is the
-- tree that looks see.
abbrev pub LooksSeeMergedTrees : Type 0
LooksSeeMergedTrees =
    (trees : Filesystems) (overlay : UpperOverlayValue) (filesystem : Filesystem ℕ) (real : ℕ → Option (Real ℕ))
    → IsMergedTree (plain_world trees) filesystem (with_objects overlay real)
    → IsNamedBy (real_number trees overlay) (held trees overlay) filesystem (with_objects overlay real)
    → filesystem.files.tree ≡ merged_above trees overlay

-- What an overlay keeps is right: each copy is the real object of the node that was copied; and what is kept is one of
-- the overlay's own inodes, without a name, and has a real object.
pub record IsLeftWithoutName (overlay : UpperOverlayValue) (tree : Tree ℕ) (real : ℕ → Option (Real ℕ)) (node : NodeRef)
    : Type 0 where
  pub small : is_small_node node ≡ true
  pub own : IsOf overlay.layers.number overlay.nodes.births node
  pub unnamed : ¬ (HasName tree (number_of node))
  pub other : number_of node ≢ tree.root
  pub object : IsSome (real (number_of node))

pub record IsKeptRight (overlay : UpperOverlayValue) (tree : Tree ℕ) (real : ℕ → Option (Real ℕ)) : Type 0 where
  pub one_to_one : AreOneToOne overlay.nodes.births
  pub own : (slot : ℕ) (node : NodeRef) → node_of overlay.nodes.births slot ≡ Some node
      → node.filesystem ≡ overlay.layers.number
  pub copies : (slot : ℕ) (node : NodeRef) → node_of overlay.nodes.births slot ≡ Some node
      → real (number_of node) ≡ Some (Upper (inode_number (upper_count overlay) slot))
  pub kept : All (IsLeftWithoutName overlay tree real) (keys_of overlay.nodes.kept.by_node)

-- So an overlay stands, as its looks ask, where the definitions have such a merged tree.
abbrev pub MergedTreesStandAbove : Type 0
MergedTreesStandAbove =
    (trees : Filesystems) (overlay : UpperOverlayValue) (filesystem : Filesystem ℕ) (real : ℕ → Option (Real ℕ))
    → AreLayers trees overlay.layers.lowers → 0 < length overlay.layers.lowers
    → length overlay.layers.lowers ≤ MOST_LAYERS
    → IsMergedTree (plain_world trees) filesystem (with_objects overlay real)
    → IsNamedBy (real_number trees overlay) (held trees overlay) filesystem (with_objects overlay real)
    → IsKeptRight overlay filesystem.files.tree real
    → StandsAbove trees overlay
