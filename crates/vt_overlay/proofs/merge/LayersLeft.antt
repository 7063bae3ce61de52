-- What layers show that are looked through one after the other.
use Rattle.std.proofs.Common.{◌≡◌, ◌∙◌, ◌+◌, ◌<◌, Bool, List, None, Option, Some, ap, drop, false, get_or, length, map, option_map, subst, sym, true, ℕ, IfSome, slice_get, arith}
use Rattle.vt_spec.proofs.Common.{View, at_path, cuts, drop_more, shown_from, shown_over, slice_get-get_or, view_of, common_steps}
use Rattle.vt_spec.specs.Machine.Views.{Shown, visible}
use Rattle.vt_location.specs.declared.locations.InodeRef.{InodeRef}
use Rattle.vt_location.specs.Locations.{inode_of}
use Rattle.vt_fs.specs.FilesystemsValue.{Filesystems}
use Rattle.vt_overlay.specs.Merge.LayerValue.{layer_of, layers_of, opened}
use Rattle.vt_overlay.specs.declared.merge.layers.LayerRef.{LayerRef}
use Rattle.vt_overlay.specs.declared.merge.layers.Real.{Real}

module _ (fs : Filesystems) (layers : List LayerRef) (place : ℕ) (default : LayerRef) (names : List (List ℕ))
    (within : place < length layers) (object : Option InodeRef) (cut : Bool) where
  abbrev here : LayerRef
  here = get_or layers place default

  abbrev view : View ℕ
  view = view_of (layer_of fs here)

  abbrev left_from : ℕ → Option (Shown ℕ)
  left_from depth = shown_from depth (map view_of (layers_of fs (drop depth layers))) names

  -- the first layer that is left, and those under it
  step : left_from place ≡ shown_over view place (at_path (layer_of fs here) names) (cuts view names)
      (left_from (place + 1))
  step = ap (λ l. shown_from place (map view_of (layers_of fs l)) names) (drop_more layers place default within)

  module _ (leads : option_map inode_of object ≡ at_path (layer_of fs here) names)
      (cutting : cut ≡ cuts view names) where
    found : left_from place ≡ shown_over view place (option_map inode_of object) cut (left_from (place + 1))
    found = step ∙ (λ i. shown_over view place (sym leads i) (sym cutting i) (left_from (place + 1)))

    pub stops_here : object ≡ None → cut ≡ true → None ≡ left_from place
    stops_here none is_cut = cc found

    pub goes_lower : object ≡ None → cut ≡ false → left_from place ≡ left_from (place + 1)
    goes_lower none uncut = cc found

    module _ (inode : InodeRef) (is : object ≡ Some inode)
        (filesystem : IfSome object (λ o. o.filesystem ≡ here.directory.filesystem)) where
      same : inode.filesystem ≡ here.directory.filesystem
      same = subst (λ o. IfSome o (λ o. o.filesystem ≡ here.directory.filesystem)) is filesystem

      pub shows_here : (result : Option (Shown ℕ))
          → result ≡ visible (view_of (opened fs inode)) place (inode_of inode) → result ≡ left_from place
      shows_here result shown = grind (arith, common_steps)

      pub in_tree : (result : Option Real) → IfSome result (λ real. real ≡ record { layer = place; inode = inode })
          → IfSome result (λ real. option_map (λ (layer : LayerRef). layer.directory.filesystem)
          (slice_get layers real.layer) ≡ Some real.inode.filesystem)
      in_tree result none = grind (arith, common_steps, slice_get-get_or, same)
