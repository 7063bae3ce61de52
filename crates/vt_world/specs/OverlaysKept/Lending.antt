-- What is lent for a node of an overlay, by its real object: the object as the tree of its layer keeps it.
use Rattle.std.specs.Prelude.{List, None, Option, slice_get, ℕ, ◌≡◌}
use Rattle.vt_spec.specs.Lists.{then_some}
use Rattle.vt_spec.specs.Machine.Layers.{at_path}
use Rattle.vt_spec.specs.Machine.World.{Real}
use Rattle.vt_spec.specs.Machine.World.Real.{Lower, Upper}
use Rattle.vt_spec.specs.Tree.{Node}
use Rattle.vt_fs.specs.FilesystemsValue.{Filesystems}
use Rattle.vt_overlay.specs.Merge.LayerValue.{layer_of}
use Rattle.vt_overlay.specs.declared.merge.layers.LayerRef.{LayerRef}
use Rattle.vt_overlay.specs.Alike.{lent_at, real_lent}
use Rattle.vt_overlay.specs.MergedTree.{AreLayers, OverlayValue}
use Rattle.vt_world.specs.OverlaysKept.Kept.{real_objects}

-- what a path leads to in a layer
abbrev pub lent_on : Filesystems → List (List ℕ) → LayerRef → Option (Node ℕ)
lent_on trees path layer = then_some (at_path (layer_of trees layer) path) (λ object. lent_at trees object layer)

-- a real object; there is no upper layer
abbrev pub object_lent : Filesystems → OverlayValue → Real ℕ → Option (Node ℕ)
object_lent trees overlay (Upper object) = None
object_lent trees overlay (Lower place path) = then_some (slice_get overlay.lowers place) (lent_on trees path)

-- The real object of a node is lent for it.
abbrev pub RealObjectsAreLent : Type 0
RealObjectsAreLent =
    (trees : Filesystems) (overlay : OverlayValue) → AreLayers trees overlay.lowers → (number : ℕ)
    → real_lent trees overlay number ≡ then_some (real_objects trees overlay number) (object_lent trees overlay)
