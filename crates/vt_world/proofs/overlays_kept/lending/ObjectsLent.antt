-- Real objects are what their paths lead to.
use Rattle.std.proofs.Common.{◌≡◌, refl, sym, ap, ◌∙◌, ℕ, false, List, Option, Some, None, option_map, slice_get}
use Rattle.vt_spec.proofs.Common.{Merged, OpenLayer, Real, Shown, at_path, real_object, same_Some, shown, slice_get-map, then_some}
use Rattle.vt_laws_trees.proofs.layers.layers.ShownAtPath.{computed}
use Rattle.vt_laws_trees.specs.Overlays.TreesSeen.{real_by}
use Rattle.vt_fs.specs.FilesystemsValue.{Filesystems}
use Rattle.vt_overlay.specs.Merge.LayerValue.{layer_of, layers_of}
use Rattle.vt_overlay.specs.declared.merge.layers.LayerRef.{LayerRef}
use Rattle.vt_overlay.proofs.TreeFound.{layers_are}
use Rattle.vt_overlay.specs.Alike.{lent_at, real_lent}
use Rattle.vt_overlay.specs.MergedTree.{AreLayers, OverlayValue, longest, overlay_seen, path_at, plain_world, real_number}
use Rattle.vt_world.specs.OverlaysKept.Kept.{real_objects}
use Rattle.vt_world.specs.OverlaysKept.Lending.{RealObjectsAreLent, lent_on, object_lent}

module _ (trees : Filesystems) (overlay : OverlayValue) (are : AreLayers trees overlay.lowers) where
  -- the real object at a path, by what is shown there
  abbrev real_of : List (List ℕ) → Option (Shown ℕ) → Option (Real ℕ)
  real_of path o = option_map (λ (object : Merged ℕ). real_object false object.seen.layer object)
      (option_map (λ seen. record { path = path; seen = seen }) o)

  -- what is shown is what the path leads to in its layer
  leads_there : (path : List (List ℕ)) (seen : Shown ℕ) → shown (layers_of trees overlay.lowers) path ≡ Some seen
      → (o : Option LayerRef) → slice_get overlay.lowers seen.layer ≡ o
      → then_some o (lent_at trees seen.object) ≡ then_some o (lent_on trees path)
  leads_there path seen e None at = refl
  leads_there path seen e (Some layer) at =
      let has = ((computed (layers_of trees overlay.lowers) path seen).0 e).has_uncut.0 in
      let same = same_Some (layer_of trees layer) has.0
      (sym (slice_get-map (layer_of trees) overlay.lowers seen.layer ∙ ap (option_map (layer_of trees)) at) ∙ has.1) in
      ap (λ o. then_some o (λ object. lent_at trees object layer))
      (sym (ap (λ (one : OpenLayer ℕ). at_path one path) same ∙ has.2))

  lent_by_path : (path : List (List ℕ)) (o : Option (Shown ℕ)) → shown (layers_of trees overlay.lowers) path ≡ o
      → then_some o (λ (seen : Shown ℕ). then_some (slice_get overlay.lowers seen.layer) (lent_at trees seen.object))
      ≡ then_some (real_of path o) (object_lent trees overlay)
  lent_by_path path None e = refl
  lent_by_path path (Some seen) e = leads_there path seen e (slice_get overlay.lowers seen.layer) refl

  lent : (number : ℕ)
      → real_lent trees overlay number ≡ then_some (real_objects trees overlay number) (object_lent trees overlay)
  lent number = by (path_at trees overlay number)
    where
      by : (o : Option (List (List ℕ))) → then_some (then_some o (shown (layers_of trees overlay.lowers)))
          (λ (seen : Shown ℕ). then_some (slice_get overlay.lowers seen.layer) (lent_at trees seen.object))
          ≡ then_some (real_by (real_number trees overlay) (λ number. None) (longest trees overlay.lowers)
          (plain_world trees) (overlay_seen overlay) number o) (object_lent trees overlay)
      by None = refl
      by (Some path) = lent_by_path path (shown (layers_of trees overlay.lowers) path) refl
          ∙ ap (λ layers. then_some (real_of path (shown layers path)) (object_lent trees overlay))
          (sym (layers_are trees overlay are))

pub real_objects_are_lent : RealObjectsAreLent
real_objects_are_lent trees overlay are number = lent trees overlay are number
