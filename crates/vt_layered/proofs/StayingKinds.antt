-- So overlays of both kinds stay, where their layers do.
use Rattle.std.proofs.Common.{◌≡◌, ◌∙◌, ◌++◌, ◌∷◌, ◌+◌, [], All, ap, Bool, drop, false, find, is_some, IsSome, List, map, nat_eq, None, option_map, Option, refl, slice_get, Some, subst, suc, sym, unwrap_or, ℕ}
use Rattle.std.specs.Map.{keys_of}
use Rattle.vt_spec.proofs.Common.{All-tail, Layer, Lower, OpenLayer, Real, Shown, Tree, Upper, all_from_among, among_from_all, open_layer, paths_from, real_node, shown, then_some}
use Rattle.vt_laws_trees.specs.Overlays.MergedTrees.{layers_shown}
use Rattle.vt_laws_trees.specs.Overlays.TreesSeen.{real_seen}
use Rattle.vt_laws_trees.proofs.overlays.seen.Paths.{all_at}
use Rattle.vt_location.specs.declared.births.Birth.{Birth}
use Rattle.vt_location.specs.declared.births.Birth.TheVariants.{Below, Here}
use Rattle.vt_location.specs.declared.locations.NodeRef.{NodeRef}
use Rattle.vt_location.specs.declared.numbers.FilesystemId.{FilesystemId}
use Rattle.vt_location.specs.Locations.{number_of}
use Rattle.vt_location.specs.SameNodes.{same_node}
use Rattle.vt_births.specs.Births.{copy_of, slot_above}
use Rattle.vt_fs.specs.FilesystemsValue.{Filesystems, node_seen}
use Rattle.vt_overlay.specs.Alike as alike
use Rattle.vt_overlay.specs.Alike.{lent_at}
use Rattle.vt_overlay.specs.Merge.LayerValue.{layers_of, seen_of}
use Rattle.vt_overlay.specs.declared.merge.layers.LayerRef.{LayerRef}
use Rattle.vt_overlay.specs.MergedTree as below
use Rattle.vt_overlay.specs.MergedTree.{AreLayers, OverlayValue, layer_seen, longest, node_born, plain_world}
use Rattle.vt_upper_overlay.specs.MergedAbove as merged
use Rattle.vt_upper_overlay.specs.MergedAbove.{born_object, object_by, object_kept, object_lent, path_born, upper_seen}
use Rattle.vt_upper_overlay.specs.Lent.{lent_by_path, node_kept, real_lent}
use Rattle.vt_upper_overlay.specs.Standing.{IsKeptWell, StandsAbove}
use Rattle.vt_upper_overlay.specs.UpperValue.{UpperOverlayValue, real_at}
use Rattle.vt_upper_overlay.proofs.Shown.{all_layers}
use Rattle.vt_layered.specs.LayeredTree.{layered_objects}
use Rattle.vt_layered.specs.LayeredValue.{upper_of}
use Rattle.vt_layered.specs.Staying.{LayeredOverlaysStandStill, LayeredOverlaysStay, StaysAsLayer}
use Rattle.vt_layered.proofs.Staying.{all_open_alike, born_alike, inode_alike, layer_alike, layers_alike, longest_alike, numbers_in, open_alike, path_in, reals_are, reals_in, still_layer, tree_in, tree_is}

abbrev lower_at : ℕ → List (List ℕ) → Real ℕ
lower_at layer path = Lower layer path

-- the lower layers stay
all_behind : {A : Type 0} (P : A → Type 0) (list : List A) → All P list → All P (drop 1 list)
all_behind P [] stay = stay
all_behind P (first ∷ rest) stay = All-tail P first rest stay

module _ (old new : Filesystems) where
  abbrev Stays : LayerRef → Type 0
  Stays = StaysAsLayer old new

  -- what is lent of an object that is shown
  lent_alike : (layers : List LayerRef) → All Stays layers → (seen : Shown ℕ)
      → then_some (slice_get layers seen.layer) (lent_at new seen.object)
      ≡ then_some (slice_get layers seen.layer) (lent_at old seen.object)
  lent_alike layers stay seen = by (slice_get layers seen.layer) refl
    where
      by : (o : Option LayerRef) → slice_get layers seen.layer ≡ o
          → then_some o (lent_at new seen.object) ≡ then_some o (lent_at old seen.object)
      by None e = refl
      by (Some layer) e = ap (λ (tree : Tree ℕ). option_map (node_seen layer.directory.filesystem.count)
          (tree.node seen.object)) (all_at Stays layers stay seen.layer layer e).tree

  still : (layers : List LayerRef) → All Stays layers → AreLayers old layers → AreLayers new layers
  still layers stay are place layer at =
      still_layer old new layer (all_at Stays layers stay place layer at) (are place layer at)

  -- An overlay without an upper layer
  module _ (overlay : OverlayValue) (stay : All Stays overlay.lowers) where
    lower_numbers : below.real_number new overlay ≡ below.real_number old overlay
    lower_numbers = λ i real. by real i
      where
        by : (real : Real ℕ) → below.real_number new overlay real ≡ below.real_number old overlay real
        by (Upper object) = refl
        by (Lower place path) = at (slice_get overlay.lowers place) refl
          where
            at : (o : Option LayerRef) → slice_get overlay.lowers place ≡ o
                → unwrap_or (option_map (λ layer. number_of (node_born new overlay.number place layer path)) o) 0
                ≡ unwrap_or (option_map (λ layer. number_of (node_born old overlay.number place layer path)) o) 0
            at None e = refl
            at (Some layer) e = ap number_of (born_alike old new overlay.number place layer
                (all_at Stays overlay.lowers stay place layer e) path)

    lower_inodes : real_node nat_eq (plain_world new) (below.overlay_seen overlay)
        ≡ real_node nat_eq (plain_world old) (below.overlay_seen overlay)
    lower_inodes = λ i real. by real i
      where
        by : (real : Real ℕ) → real_node nat_eq (plain_world new) (below.overlay_seen overlay) real
            ≡ real_node nat_eq (plain_world old) (below.overlay_seen overlay) real
        by (Upper object) = refl
        by (Lower place path) = inode_alike old new overlay.lowers stay place path

    lower_open : layers_shown (plain_world new) (below.overlay_seen overlay)
        ≡ layers_shown (plain_world old) (below.overlay_seen overlay)
    lower_open = all_open_alike old new overlay.lowers stay

    lower_most : longest new overlay.lowers ≡ longest old overlay.lowers
    lower_most = longest_alike old new overlay.lowers stay

    lower_tree : below.merged_tree new overlay ≡ below.merged_tree old overlay
    lower_tree = tree_is (below.real_number new overlay) (λ number. None) (longest new overlay.lowers) (plain_world new)
        (below.overlay_seen overlay)
        ∙ (λ i. tree_in (lower_open i) false (lower_numbers i) (λ number. None) (lower_inodes i) (lower_most i))
        ∙ sym (tree_is (below.real_number old overlay) (λ number. None) (longest old overlay.lowers) (plain_world old)
        (below.overlay_seen overlay))

    pub lower_files : below.merged_files new overlay ≡ below.merged_files old overlay
    lower_files = λ i. record {
      tree = lower_tree i;
      numbers = numbers_in (lower_open i) false (lower_numbers i) (λ number. None) (lower_inodes i) (lower_most i);
    }

    pub lower_objects : layered_objects new overlay None ≡ layered_objects old overlay None
    lower_objects = reals_are (below.real_number new overlay) (λ number. None) (longest new overlay.lowers)
        (plain_world new) (below.overlay_seen overlay)
        ∙ (λ i. reals_in (lower_open i) false (lower_numbers i) (λ number. None) (lower_inodes i) (lower_most i))
        ∙ sym (reals_are (below.real_number old overlay) (λ number. None) (longest old overlay.lowers) (plain_world old)
        (below.overlay_seen overlay))

    pub lower_lent : (number : ℕ) → alike.real_lent new overlay number ≡ alike.real_lent old overlay number
    lower_lent number = ap (λ o. then_some o (λ (seen : Shown ℕ). then_some (slice_get overlay.lowers seen.layer)
        (lent_at new seen.object))) object_same ∙ by (below.object_shown old overlay number)
      where
        object_same : below.object_shown new overlay number ≡ below.object_shown old overlay number
        object_same = λ i. then_some (path_in (lower_open i) false (lower_numbers i) (λ number. None) (lower_inodes i)
            (lower_most i) number) (shown (layers_alike old new overlay.lowers stay i))

        by : (o : Option (Shown ℕ)) → then_some o (λ (seen : Shown ℕ). then_some (slice_get overlay.lowers seen.layer)
            (lent_at new seen.object))
            ≡ then_some o (λ (seen : Shown ℕ). then_some (slice_get overlay.lowers seen.layer)
            (lent_at old seen.object))
        by None = refl
        by (Some seen) = lent_alike overlay.lowers stay seen

  -- One with an upper layer
  module _ (overlay : UpperOverlayValue) (stay : All Stays overlay.layers.lowers) where
    abbrev lowers : List LayerRef
    lowers = overlay.layers.lowers

    abbrev id : FilesystemId
    id = overlay.layers.number

    upper_numbers : merged.real_number new overlay ≡ merged.real_number old overlay
    upper_numbers = λ i real. by real i
      where
        by : (real : Real ℕ) → merged.real_number new overlay real ≡ merged.real_number old overlay real
        by (Upper object) = refl
        by (Lower layer path) = at (slice_get lowers (suc layer)) refl
          where
            at : (o : Option LayerRef) → slice_get lowers (suc layer) ≡ o
                → unwrap_or (option_map (λ lower. number_of (node_born new id layer lower path)) o) 0
                ≡ unwrap_or (option_map (λ lower. number_of (node_born old id layer lower path)) o) 0
            at None e = refl
            at (Some lower) e = ap number_of (born_alike old new id layer lower
                (all_at Stays lowers stay (suc layer) lower e) path)

    upper_inodes : real_node nat_eq (plain_world new) (upper_seen overlay)
        ≡ real_node nat_eq (plain_world old) (upper_seen overlay)
    upper_inodes = λ i real. by real i
      where
        by : (real : Real ℕ) → real_node nat_eq (plain_world new) (upper_seen overlay) real
            ≡ real_node nat_eq (plain_world old) (upper_seen overlay) real
        by (Upper object) = at (slice_get lowers 0) refl
          where
            at : (o : Option LayerRef) → slice_get lowers 0 ≡ o
                → then_some (option_map layer_seen o)
                (λ (layer : Layer ℕ). (open_layer nat_eq (plain_world new) layer).tree.node object)
                ≡ then_some (option_map layer_seen o)
                (λ (layer : Layer ℕ). (open_layer nat_eq (plain_world old) layer).tree.node object)
            at None e = refl
            at (Some top) e = ap (λ (layer : OpenLayer ℕ). layer.tree.node object)
                (open_alike old new top (all_at Stays lowers stay 0 top e))
        by (Lower layer path) = inode_alike old new (drop 1 lowers) (all_behind Stays lowers stay) layer path

    -- what is kept without a name
    path_kept : (node : NodeRef) (layer : ℕ) (lower : LayerRef) → Stays lower
        → path_born new overlay node layer lower ≡ path_born old overlay node layer lower
    path_kept node layer lower same = λ i. find (λ path. same_node node (born_alike old new id layer lower same path i))
        (paths_from (same.numbers i + 0) (layer_alike old new lower same i ∷ []) [])

    born_kept : (node : NodeRef) (birth : Birth)
        → born_object new overlay node birth ≡ born_object old overlay node birth
    born_kept node Here = refl
    born_kept node (Below layer directory rank) = at (slice_get lowers (suc layer)) refl
      where
        at : (o : Option LayerRef) → slice_get lowers (suc layer) ≡ o
            → then_some o (λ lower. option_map (lower_at layer) (path_born new overlay node layer lower))
            ≡ then_some o (λ lower. option_map (lower_at layer) (path_born old overlay node layer lower))
        at None e = refl
        at (Some lower) e = ap (option_map (lower_at layer))
            (path_kept node layer lower (all_at Stays lowers stay (suc layer) lower e))

    object_stays : (node : NodeRef) → object_kept new overlay node ≡ object_kept old overlay node
    object_stays node = by (slot_above overlay.nodes.births node)
      where
        by : (o : Option ℕ) → object_by new overlay node o ≡ object_by old overlay node o
        by None = born_kept node node.birth
        by (Some slot) = refl

    held_stays : merged.held new overlay ≡ merged.held old overlay
    held_stays = λ i number. by (node_kept overlay number) i
      where
        by : (o : Option NodeRef)
            → then_some o (object_kept new overlay) ≡ then_some o (object_kept old overlay)
        by None = refl
        by (Some node) = object_stays node

    upper_open : layers_shown (plain_world new) (upper_seen overlay) ≡ layers_shown (plain_world old) (upper_seen overlay)
    upper_open = ap (map (open_layer nat_eq (plain_world new))) (all_layers lowers)
        ∙ all_open_alike old new lowers stay
        ∙ sym (ap (map (open_layer nat_eq (plain_world old))) (all_layers lowers))

    upper_most : longest new lowers ≡ longest old lowers
    upper_most = longest_alike old new lowers stay

    abbrev has_upper : Bool
    has_upper = is_some (upper_seen overlay).upper

    upper_tree : merged.merged_above new overlay ≡ merged.merged_above old overlay
    upper_tree = tree_is (merged.real_number new overlay) (merged.held new overlay) (longest new lowers)
        (plain_world new) (upper_seen overlay)
        ∙ (λ i. tree_in (upper_open i) has_upper (upper_numbers i) (held_stays i) (upper_inodes i) (upper_most i))
        ∙ sym (tree_is (merged.real_number old overlay) (merged.held old overlay) (longest old lowers) (plain_world old)
        (upper_seen overlay))

    pub upper_files : merged.merged_files new overlay ≡ merged.merged_files old overlay
    upper_files = λ i. record {
      tree = upper_tree i;
      numbers = numbers_in (upper_open i) has_upper (upper_numbers i) (held_stays i) (upper_inodes i) (upper_most i)
          ++ map number_of (keys_of overlay.nodes.kept.by_node);
    }

    pub upper_objects : real_seen (merged.real_number new overlay) (merged.held new overlay) (longest new lowers)
        (plain_world new) (upper_seen overlay)
        ≡ real_seen (merged.real_number old overlay) (merged.held old overlay) (longest old lowers) (plain_world old)
        (upper_seen overlay)
    upper_objects = reals_are (merged.real_number new overlay) (merged.held new overlay) (longest new lowers)
        (plain_world new) (upper_seen overlay)
        ∙ (λ i. reals_in (upper_open i) has_upper (upper_numbers i) (held_stays i) (upper_inodes i) (upper_most i))
        ∙ sym (reals_are (merged.real_number old overlay) (merged.held old overlay) (longest old lowers)
        (plain_world old) (upper_seen overlay))

    path_stays : (number : ℕ) → merged.path_at new overlay number ≡ merged.path_at old overlay number
    path_stays number = λ i. path_in (upper_open i) has_upper (upper_numbers i) (held_stays i) (upper_inodes i)
        (upper_most i) number

    lent_stays : (seen : Option (Shown ℕ)) → merged.lent new overlay seen ≡ merged.lent old overlay seen
    lent_stays None = refl
    lent_stays (Some seen) = lent_alike lowers stay seen

    pub upper_lent : (number : ℕ) → real_lent new overlay number ≡ real_lent old overlay number
    upper_lent number = ap (lent_by_path new overlay number) (path_stays number)
        ∙ by (merged.path_at old overlay number)
      where
        of_kept : (o : Option NodeRef) → then_some o (object_lent new overlay) ≡ then_some o (object_lent old overlay)
        of_kept None = refl
        of_kept (Some node) = lent_stays (option_map seen_of (real_at overlay node))

        by : (o : Option (List (List ℕ))) → lent_by_path new overlay number o ≡ lent_by_path old overlay number o
        by None = of_kept (node_kept overlay number)
        by (Some path) = lent_stays (shown (layers_of new lowers) path)
            ∙ ap (λ all. merged.lent old overlay (shown all path)) (layers_alike old new lowers stay)

    -- and what its looks ask holds still
    well : (node : NodeRef) → IsKeptWell old overlay node → IsKeptWell new overlay node
    well node is = record {
      small = is.small;
      own = is.own;
      unnamed = path_stays (number_of node) ∙ is.unnamed;
      object = subst IsSome (sym (object_stays node)) is.object;
    }

    pub upper_stands : StandsAbove old overlay → StandsAbove new overlay
    upper_stands stands = record {
      layers = still lowers stay stands.layers;
      upper = stands.upper;
      few = stands.few;
      one_to_one = stands.one_to_one;
      own = stands.own;
      uncopied = λ path layer object lower e at. ap (copy_of overlay.nodes.births)
          (born_alike old new id layer lower (all_at Stays lowers stay (suc layer) lower at) path)
          ∙ stands.uncopied path layer object lower
          (sym (ap (λ all. shown all path) (layers_alike old new lowers stay)) ∙ e) at;
      kept = all_from_among (IsKeptWell new overlay) (keys_of overlay.nodes.kept.by_node)
          (λ node m. well node (among_from_all (IsKeptWell old overlay) (keys_of overlay.nodes.kept.by_node) stands.kept
          node m));
    }

pub layered_stay : LayeredOverlaysStay
layered_stay old new overlay None stay = record {
  files = lower_files old new overlay stay;
  objects = lower_objects old new overlay stay;
  lent = lower_lent old new overlay stay;
}
layered_stay old new overlay (Some above) stay = record {
  files = upper_files old new (upper_of overlay above) stay;
  objects = upper_objects old new (upper_of overlay above) stay;
  lent = upper_lent old new (upper_of overlay above) stay;
}

pub layered_stand_still : LayeredOverlaysStandStill
layered_stand_still old new overlay None stands stay = record {
  layers = still old new overlay.lowers stay stands.layers;
  some = stands.some;
  few = stands.few;
  right = tt;
}
layered_stand_still old new overlay (Some above) stands stay = record {
  layers = still old new overlay.lowers stay stands.layers;
  some = stands.some;
  few = stands.few;
  right = upper_stands old new (upper_of overlay above) stay stands.right;
}
