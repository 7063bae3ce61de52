-- A merged tree of a world is one of the plain trees in which its layers are kept.
use Rattle.std.proofs.Common.{◌≡◌, refl, sym, ap, subst, ◌∙◌, ℕ, suc, nat_eq, List, [], ◌∷◌, drop, map, Option, Some, None, option_map, is_some, All, slice_get}
use Rattle.vt_spec.proofs.Common.{All-head, All-tail, Filesystem, Layer, Lower, Node, OpenLayer, Overlay, Real, SameObject, Upper, World, filesystem_numbered, holds_of, is_there, layer_node, merged_at, node_at_path, node_shown, number_at_path, open_layer, real_node, real_object, real_shown, shown, slice_get-map, then_some}
use Rattle.vt_laws_trees.specs.Overlays.MergedTrees.{IsMergedTree, layers_shown}
use Rattle.vt_laws_trees.proofs.overlays.seen.Paths.{all_at}
use Rattle.vt_location.specs.Locations.{inode_of}
use Rattle.vt_fs.proofs.Numbers.{found_by_number}
use Rattle.vt_fs.specs.FilesystemsValue.{Filesystems}
use Rattle.vt_overlay.specs.declared.merge.layers.LayerRef.{LayerRef}
use Rattle.vt_overlay.specs.MergedTree.{layer_seen, plain_world}
use Rattle.vt_upper_overlay.specs.Laws.{with_objects}
use Rattle.vt_upper_overlay.specs.UpperValue.{UpperOverlayValue}
use Rattle.vt_upper_overlay.proofs.Shown.{all_layers}
use Rattle.vt_world.specs.OverlaysKept.Kept.{ShowsLayer, ShowsLayers}

-- a layer behind the first
slice_behind : (layers : List LayerRef) (place : ℕ) → slice_get (drop 1 layers) place ≡ slice_get layers (suc place)
slice_behind [] place = refl
slice_behind (first ∷ rest) place = refl

module _ (world : World ℕ) (trees : Filesystems) (overlay : UpperOverlayValue)
    (shows : ShowsLayers world trees overlay.layers) (real : ℕ → Option (Real ℕ)) where
  abbrev plain : World ℕ
  plain = plain_world trees

  abbrev its : Overlay ℕ
  its = with_objects overlay real

  abbrev layers : List LayerRef
  layers = overlay.layers.lowers

  opened : (layer : LayerRef) → ShowsLayer world trees layer
      → open_layer nat_eq plain (layer_seen layer) ≡ open_layer nat_eq world (layer_seen layer)
  opened layer is = λ i. record {
    tree = (ap (λ (filesystem : Filesystem ℕ). filesystem.files.tree)
        (found_by_number trees layer.directory.filesystem.count) ∙ is.tree) i;
    directory = inode_of layer.directory;
  }

  all_alike : (some : List LayerRef) → All (ShowsLayer world trees) some
      → map (open_layer nat_eq plain) (map layer_seen some) ≡ map (open_layer nat_eq world) (map layer_seen some)
  all_alike [] all = refl
  all_alike (layer ∷ some) all = λ i. opened layer (All-head (ShowsLayer world trees) layer some all) i
      ∷ all_alike some (All-tail (ShowsLayer world trees) layer some all) i

  pub layers_alike : layers_shown plain its ≡ layers_shown world its
  layers_alike = ap (map (open_layer nat_eq plain)) (all_layers layers) ∙ all_alike layers shows.all
      ∙ sym (ap (map (open_layer nat_eq world)) (all_layers layers))

  shows_at : (place : ℕ) (layer : LayerRef) → slice_get layers place ≡ Some layer → ShowsLayer world trees layer
  shows_at place layer at = all_at (ShowsLayer world trees) layers shows.all place layer at

  node_alike : (object : Real ℕ) → real_node nat_eq plain its object ≡ real_node nat_eq world its object
  node_alike (Upper object) = by (slice_get layers 0) refl
    where
      by : (o : Option LayerRef) → slice_get layers 0 ≡ o
          → then_some (option_map layer_seen o) (λ (layer : Layer ℕ).
          (filesystem_numbered nat_eq plain layer.filesystem).files.tree.node object)
          ≡ then_some (option_map layer_seen o) (λ (layer : Layer ℕ).
          (filesystem_numbered nat_eq world layer.filesystem).files.tree.node object)
      by None e = refl
      by (Some top) e = ap (λ (layer : OpenLayer ℕ). layer.tree.node object) (opened top (shows_at 0 top e))
  node_alike (Lower place path) =
      ap (λ o. then_some o (λ (lower : Layer ℕ). node_at_path (open_layer nat_eq plain lower) path))
      (slice_get-map layer_seen (drop 1 layers) place)
      ∙ by (slice_get (drop 1 layers) place) refl
      ∙ sym (ap (λ o. then_some o (λ (lower : Layer ℕ). node_at_path (open_layer nat_eq world lower) path))
      (slice_get-map layer_seen (drop 1 layers) place))
    where
      by : (o : Option LayerRef) → slice_get (drop 1 layers) place ≡ o
          → then_some (option_map layer_seen o) (λ (lower : Layer ℕ). node_at_path (open_layer nat_eq plain lower) path)
          ≡ then_some (option_map layer_seen o) (λ (lower : Layer ℕ). node_at_path (open_layer nat_eq world lower) path)
      by None e = refl
      by (Some lower) e = ap (λ layer. node_at_path layer path)
          (opened lower (shows_at (suc place) lower (sym (slice_behind layers place) ∙ e)))

  upper_alike : (object : ℕ) → holds_of (λ (layer : Layer ℕ). is_there nat_eq plain layer.filesystem object) its.upper
      ≡ holds_of (λ (layer : Layer ℕ). is_there nat_eq world layer.filesystem object) its.upper
  upper_alike object = by (slice_get layers 0) refl
    where
      by : (o : Option LayerRef) → slice_get layers 0 ≡ o
          → holds_of (λ (layer : Layer ℕ). is_there nat_eq plain layer.filesystem object) (option_map layer_seen o)
          ≡ holds_of (λ (layer : Layer ℕ). is_there nat_eq world layer.filesystem object) (option_map layer_seen o)
      by None e = refl
      by (Some top) e = ap (λ (layer : OpenLayer ℕ). is_some (layer.tree.node object)) (opened top (shows_at 0 top e))

  shown_alike : (path : List (List ℕ)) → node_shown nat_eq plain its path ≡ node_shown nat_eq world its path
  shown_alike path = ap (λ all. then_some (shown all path) (layer_node all)) layers_alike

  real_alike : (path : List (List ℕ)) → real_shown nat_eq plain its path ≡ real_shown nat_eq world its path
  real_alike path = ap (λ all. option_map (λ object. real_object (is_some its.upper) object.seen.layer object)
      (merged_at all path)) layers_alike

  pub merged_alike : (filesystem : Filesystem ℕ) → IsMergedTree world filesystem its
      → IsMergedTree plain filesystem its
  merged_alike filesystem is = record {
    layers = λ depth layer e. is.layers depth layer (ap (λ all. slice_get all depth) (sym layers_alike) ∙ e);
    tree = is.tree;
    own_parents = is.own_parents;
    numbers = is.numbers;
    merged = record {
      shows = λ path. subst (SameObject (then_some (number_at_path filesystem.files path) filesystem.files.tree.node))
          (sym (shown_alike path)) (is.merged.shows path);
      names = λ path number at. is.merged.names path number at ∙ sym (real_alike path);
      real_objects = λ number. subst (λ (f : Real ℕ → Option (Node ℕ)).
          SameObject (filesystem.files.tree.node number) (then_some (real number) f))
          (λ i. λ object. sym (node_alike object) i) (is.merged.real_objects number);
      real_there = is.merged.real_there;
      no_whiteout = is.merged.no_whiteout;
      no_mark = is.merged.no_mark;
      upper_there = λ number object e. upper_alike object ∙ is.merged.upper_there number object e;
      one_to_one = is.merged.one_to_one;
    };
  }
