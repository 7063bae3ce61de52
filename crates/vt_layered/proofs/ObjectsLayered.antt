-- A node and what is lent for it, in an overlay of either kind.
use Rattle.std.proofs.Common.{◌≡◌, ◌∙◌, ap, None, option_map, Option, refl, slice_get, Some, sym, ℕ}
use Rattle.vt_spec.proofs.Common.{OpenLayer, Shown, layer_node, slice_get-map, then_some}
use Rattle.vt_location.specs.Fronts.{front}
use Rattle.vt_fs.specs.FilesystemsValue.{Filesystems, files_at}
use Rattle.vt_overlay.specs.Merge.LayerValue.{layer_of, layers_of}
use Rattle.vt_overlay.specs.declared.merge.layers.LayerRef.{LayerRef}
use Rattle.vt_overlay.specs.Alike.{lent_at, real_lent}
use Rattle.vt_overlay.specs.MergedTree.{AreLayers, OverlayValue, merged_tree, object_shown}
use Rattle.vt_overlay.proofs.ObjectsAlike.{inode_of_object, objects_alike}
use Rattle.vt_upper_overlay.proofs.LentAbove.{alike_above}
use Rattle.vt_upper_overlay.proofs.Objects.{front_seen}
use Rattle.vt_layered.specs.LayeredTree.{LayeredObjectsAreAlike}
use Rattle.vt_layered.specs.LayeredValue.{upper_of}

-- the real object of a node of a read-only overlay
pub lower_alike : (trees : Filesystems) (overlay : OverlayValue) → AreLayers trees overlay.lowers → (number : ℕ)
    → front (real_lent trees overlay number) ≡ front ((merged_tree trees overlay).node number)
lower_alike trees overlay are number = by (object_shown trees overlay number)
    ∙ ap front (sym (inode_of_object trees overlay are number (object_shown trees overlay number) refl))
    ∙ objects_alike trees overlay number
  where
    in_layer : (object : ℕ) (o : Option LayerRef) → front (then_some o (lent_at trees object))
        ≡ front (then_some (option_map (layer_of trees) o) (λ (layer : OpenLayer ℕ). layer.tree.node object))
    in_layer object None = refl
    in_layer object (Some layer) = sym (front_seen layer.directory.filesystem.count
        ((files_at trees layer.directory.filesystem.count).tree.node object))

    by : (o : Option (Shown ℕ)) → front (then_some o (λ (seen : Shown ℕ).
        then_some (slice_get overlay.lowers seen.layer) (lent_at trees seen.object)))
        ≡ front (then_some o (layer_node (layers_of trees overlay.lowers)))
    by None = refl
    by (Some seen) = in_layer seen.object (slice_get overlay.lowers seen.layer)
        ∙ ap (λ o. front (then_some o (λ (layer : OpenLayer ℕ). layer.tree.node seen.object)))
        (sym (slice_get-map (layer_of trees) overlay.lowers seen.layer))

pub layered_alike : LayeredObjectsAreAlike
layered_alike trees overlay None number stands = lower_alike trees overlay stands.layers number
layered_alike trees overlay (Some above) number stands = alike_above trees (upper_of overlay above) number
    stands.right
