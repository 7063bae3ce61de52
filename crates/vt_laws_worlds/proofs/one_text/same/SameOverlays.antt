-- The invariants of overlays go along worlds that are the same.
use Rattle.std.proofs.Common.{arith, ◌≡◌, sym, ap, subst, ◌∙◌, ℕ, nat_eq, true, not, ◌&&◌, ◌||◌, List, [], ◌∷◌, map, flat_map, Option, is_some, option_map, slice_get}
use Rattle.vt_spec.proofs.Common.{Filesystem, IsMerged, IsReached, Layer, Lower, Node, Overlay, OverlayInvariants, Real, SameFilesystem, SameObject, Upper, World, any_pair, common_steps, counts_as_in_layer, filesystem_numbered, has_fit_layers, holds_of, is_directory_node, is_kind_in, is_opaque_in, is_plain_layer, layer_node, layers_of, led, lies_in_layer, lies_or_counts_under, list_all, list_any, list_any-IsPermutation, live_lowers, live_upper_and_work, merged_at, node_at_path, of_overlay, overlaps_one_of, overlay_or, overlays, real_node, real_object, shown, shown_layers, then_some, upper_and_work}
use Rattle.vt_laws_trees.proofs.runs.answered.AlikeChanges.{found_alike, opened_same}
use Rattle.vt_laws_trees.proofs.runs.answered.AlikeDirected.{overlays_alike}
use Rattle.vt_laws_trees.proofs.runs.answered.AlikeWorlds.{Alike}
use Rattle.vt_laws_trees.proofs.runs.EachHas.{each_all}
use Rattle.vt_laws_rules.proofs.same.SameFiles.{under_same}
use Rattle.vt_laws_trees.proofs.runs.Each.{each_any, each_flat}
use Rattle.vt_spec.specs.declared.attributes.Kind.TheVariants.{White}

module _ (one other : World ℕ) (same : Alike one other) where
  tree_same : (number : ℕ)
      → (filesystem_numbered nat_eq one number).files.tree ≡ (filesystem_numbered nat_eq other number).files.tree
  tree_same number = (found_alike one other same number).files.tree

  -- the inode of a real object
  real_node_same : (overlay : Overlay ℕ) (real : Real ℕ)
      → real_node nat_eq one overlay real ≡ real_node nat_eq other overlay real
  real_node_same overlay (Upper object) = λ i.
      then_some overlay.upper (λ layer. (tree_same layer.filesystem i).node object)
  real_node_same overlay (Lower layer path) = λ i.
      then_some (slice_get overlay.lowers layer) (λ lower. node_at_path (opened_same one other same lower i) path)

  abbrev Pair : Type 0
  Pair = Option (Node ℕ) × Option (Node ℕ)

  -- An overlay is what its layers show: that is told by the trees.
  merged_alike : (number : ℕ) (overlay : Overlay ℕ)
      → IsMerged nat_eq one (filesystem_numbered nat_eq one number) overlay
      → IsMerged nat_eq other (filesystem_numbered nat_eq other number) overlay
  merged_alike number overlay is = record {
    shows = λ path. subst (λ (pair : Pair). SameObject pair.0 pair.1) (λ i. (
      then_some (led (tree_same number i) (tree_same number i).root path) (tree_same number i).node,
      then_some (shown (map (λ layer. opened_same one other same layer i) (shown_layers overlay)) path)
          (layer_node (map (λ layer. opened_same one other same layer i) (shown_layers overlay))),
    )) (is.shows path);
    names = λ path object e. is.names path object ((λ i. led (tree_same number i) (tree_same number i).root path) ∙ e)
        ∙ (λ i. option_map (λ object. real_object (is_some overlay.upper) object.seen.layer object)
        (merged_at (map (λ layer. opened_same one other same layer i) (shown_layers overlay)) path));
    real_objects = λ object. subst (λ (pair : Pair). SameObject pair.0 pair.1) (λ i. (
      (tree_same number i).node object,
      then_some (overlay.real object) (λ real. real_node_same overlay real i),
    )) (is.real_objects object);
    real_there = λ object e. is.real_there object ((λ i. (tree_same number i).node object) ∙ e);
    no_whiteout = λ object. sym (λ i. is_kind_in White ((tree_same number i).node object)) ∙ is.no_whiteout object;
    no_mark = λ object. sym (λ i. is_opaque_in ((tree_same number i).node object)) ∙ is.no_mark object;
    upper_there = λ inode object e.
        sym (λ i. holds_of (λ layer. is_some ((tree_same layer.filesystem i).node object)) overlay.upper)
        ∙ is.upper_there inode object e;
    one_to_one = is.one_to_one;
  }

  plain_same : (layer : Layer ℕ) → is_plain_layer nat_eq one layer ≡ is_plain_layer nat_eq other layer
  plain_same layer = λ i. not (is_some ((found_alike one other same layer.filesystem).overlay i))
      && is_directory_node ((tree_same layer.filesystem i).node layer.directory)

  -- the layers of live overlays
  layers_same : (some : Overlay ℕ → List (Layer ℕ)) → flat_map (of_overlay [] some) (overlays one)
      ≡ flat_map (of_overlay [] some) (overlays other)
  layers_same some = each_flat SameFilesystem (of_overlay [] some) (of_overlay [] some)
      (λ a b alike. ap (overlay_or [] some) alike.overlay) (overlays one) (overlays other)
      (overlays_alike one.filesystems other.filesystems same.filesystems)

  -- What lies or counts under a layer: that is told by the trees, and by which upper objects there are.
  pub lies_same : (filesystem object : ℕ) (layer : Layer ℕ)
      → lies_in_layer nat_eq one filesystem object layer ≡ lies_in_layer nat_eq other filesystem object layer
  lies_same filesystem object layer = ap (λ b. nat_eq filesystem layer.filesystem && b)
      (under_same _ _ (found_alike one other same filesystem).files layer.directory object)

  counts_same : (filesystem object : ℕ) (layer : Layer ℕ) (merged again : Filesystem ℕ) → SameFilesystem merged again
      → counts_as_in_layer nat_eq one filesystem object layer merged
      ≡ counts_as_in_layer nat_eq other filesystem object layer again
  counts_same filesystem object layer merged again alike =
      grind (arith, common_steps, lies_same, list_any-IsPermutation)

  lies_or_counts_same : (filesystem object : ℕ) (layer : Layer ℕ)
      → lies_or_counts_under nat_eq one filesystem object layer
      ≡ lies_or_counts_under nat_eq other filesystem object layer
  lies_or_counts_same filesystem object layer = λ i. lies_same filesystem object layer i
      || each_any SameFilesystem (counts_as_in_layer nat_eq one filesystem object layer)
      (counts_as_in_layer nat_eq other filesystem object layer) (counts_same filesystem object layer) (overlays one)
      (overlays other) (overlays_alike one.filesystems other.filesystems same.filesystems) i

  overlaps_same : (others : List (Layer ℕ)) (layer : Layer ℕ)
      → overlaps_one_of nat_eq one others layer ≡ overlaps_one_of nat_eq other others layer
  overlaps_same others layer = list_any-IsPermutation _ _ _ (found_alike one other same layer.filesystem).files.numbers
      ∙ (λ i. list_any (λ object. lies_or_counts_same layer.filesystem object layer i && list_any
      (λ other_layer. lies_or_counts_same layer.filesystem object other_layer i) others)
      (filesystem_numbered nat_eq other layer.filesystem).files.numbers)

  pub overlays_keep : OverlayInvariants nat_eq one → OverlayInvariants nat_eq other
  overlays_keep is = record {
    overlays_merge = λ number overlay e. merged_alike number overlay
        (is.overlays_merge number overlay ((found_alike one other same number).overlay ∙ e));
    fit_layers = sym (each_all SameFilesystem (of_overlay true has_fit_layers) (of_overlay true has_fit_layers)
        (λ a b alike. ap (overlay_or true has_fit_layers) alike.overlay) one.filesystems other.filesystems
        same.filesystems) ∙ is.fit_layers;
    plain_layers = sym (each_all SameFilesystem
        (of_overlay true (λ overlay. list_all (is_plain_layer nat_eq one) (layers_of overlay)))
        (of_overlay true (λ overlay. list_all (is_plain_layer nat_eq other) (layers_of overlay)))
        (λ a b alike. λ i. overlay_or true (λ overlay. list_all (λ layer. plain_same layer i) (layers_of overlay))
        (alike.overlay i)) one.filesystems other.filesystems same.filesystems) ∙ is.plain_layers;
    changed_apart = sym (λ i. any_pair (λ a b. overlaps_same (b ∷ []) a i) (layers_same upper_and_work i))
        ∙ is.changed_apart;
    lowers_apart =
        sym ((λ i. list_any (λ layer. overlaps_same (live_lowers nat_eq one) layer i) (live_upper_and_work one))
        ∙ (λ i. list_any (overlaps_one_of nat_eq other (layers_same (λ overlay. overlay.lowers) i))
        (layers_same upper_and_work i))) ∙ is.lowers_apart;
    uppers_reached = λ number overlay upper e has.
        subst (λ tree. IsReached tree upper.directory) (tree_same upper.filesystem)
        (is.uppers_reached number overlay upper ((found_alike one other same number).overlay ∙ e) has);
  }
