-- Overlays that stand on layers.
use Rattle.std.proofs.Common.{◌&&◌, ◌≡◌, ◌<◌, ◌∙◌, ◌∷◌, [], arith, ap, Bool, eqb-true, false, find, length, List, map, nat_eq, None, not, Option, refl, Some, subst, suc, sym, true, true≢false, unwrap_or, zero, ℕ, All, is_some, nat_le, slice_get, leb-true}
use Rattle.vt_spec.proofs.Common.{Among, Filesystem, Inode, IsDirectory, IsTree, IsWorld, Layer, Tree, World, all_from_among, among_from_all, among_from_list_all, and_parts, filesystem_numbered, found_among, found_passes, has_fit_layers, is_directory_node, is_empty_list, is_overlay, is_plain_layer, layers_of, list_all, most_lowers, no_filesystem, node_in, none_is_some, of_overlay, common_steps}
use Rattle.vt_location.specs.Locations.{inode_of}
use Rattle.vt_location.specs.Numbers.{counted, is_inode_of}
use Rattle.vt_fs.specs.FilesystemsValue.{FilesystemEntry, Filesystems, entry_of, inodes_at, inodes_seen, no_entry}
use Rattle.vt_overlay.specs.declared.merge.layers.LayerRef.{LayerRef}
use Rattle.vt_overlay.specs.MergedTree.{AreLayers, IsLayer, layer_seen}
use Rattle.vt_layered.specs.LayeredTree.{KeepsRight, StandsLayered, layered_seen}
use Rattle.vt_layered.specs.LayeredValue.{Above, LayeredValue}
use Rattle.vt_layered.specs.Staying.{StaysAsLayer}
use Rattle.vt_layered.proofs.StayingKinds.{layered_stand_still}
use Rattle.vt_store.specs.Laws.{HasOwnNumbers, IsSameTree, KeepRight, OverlaysStandStill, StaysBy, WorldsStandOnLayers}
use Rattle.vt_store.specs.OverlaysValue.{OverlayEntry}
use Rattle.vt_store.specs.StoreValue.{StandsOnLayers, StoreValue, filesystem_found, filesystem_in, filesystems_of, layered_in, layers_and_objects, overlay_filesystem}
use Rattle.vt_store.proofs.Woven.{among-woven, is_plain}
use Rattle.vt_store.proofs.Woven.{is_overlay_in}
use Rattle.vt_laws_trees.proofs.overlays.seen.Paths.{all_at}

-- Layers whose trees are as they were

nothing_there : (o : Option (Inode ℕ)) → node_in o ≡ None → o ≡ None
nothing_there o e = grind (arith, common_steps)

pub still_layer : (old new : Filesystems) (layer : LayerRef) → IsSameTree old new layer → IsLayer old layer
    → IsLayer new layer
still_layer old new layer same is = record {
  tree = subst (λ (tree : Tree ℕ). IsTree tree) (sym same) is.tree;
  directory = subst (λ (tree : Tree ℕ). IsDirectory tree (inode_of layer.directory)) (sym same) is.directory;
  own_numbers = λ number e. nothing_there ((inodes_at new layer.directory.filesystem.count).inode number)
      (ap (λ (tree : Tree ℕ). tree.node number) same ∙ ap node_in (is.own_numbers number e));
}

pub overlays_stand_still : OverlaysStandStill
overlays_stand_still old new entry stands same = by entry.above stands.right same
  where
    layers : (above : Option Above) → All (StaysBy old new above) entry.overlay.lowers
        → AreLayers new entry.overlay.lowers
    layers None same place layer at = still_layer old new layer
        (all_at (IsSameTree old new) entry.overlay.lowers same place layer at) (stands.layers place layer at)
    layers (Some above) same place layer at = still_layer old new layer
        (all_at (StaysAsLayer old new) entry.overlay.lowers same place layer at).tree (stands.layers place layer at)

    by : (above : Option Above) → KeepsRight old entry.overlay above → All (StaysBy old new above) entry.overlay.lowers
        → StandsLayered new entry.overlay above
    by None right same = record { layers = layers None same; some = stands.some; few = stands.few; right = tt }
    by (Some above) right same = layered_stand_still old new entry.overlay (Some above)
        (record { layers = stands.layers; some = stands.some; few = stands.few; right = right }) same

-- Worlds

not_empty : {A : Type 0} (list : List A) → not (is_empty_list list) ≡ true → 0 < length list
not_empty list e = grind (arith, common_steps)

-- what holds of each as it is seen
each_seen : (test : Layer ℕ → Bool) (layers : List LayerRef) → list_all test (map layer_seen layers) ≡ true
    → (place : ℕ) (layer : LayerRef) → slice_get layers place ≡ Some layer → test (layer_seen layer) ≡ true
each_seen test [] all place layer e = none_is_some layer e
each_seen test (first ∷ layers) all zero layer e = grind (arith, common_steps)
each_seen test (first ∷ layers) all (suc place) layer e =
    each_seen test layers (and_parts (test (layer_seen first)) (list_all test (map layer_seen layers)) all).1
    place layer e

length-layers : (layers : List LayerRef) → length (map layer_seen layers) ≡ length layers
length-layers [] = refl
length-layers (layer ∷ layers) = ap suc (length-layers layers)

module _ (store : StoreValue) (world : World ℕ) (whole : IsWorld nat_eq world)
    (is : world.filesystems ≡ filesystems_of store) (own : All HasOwnNumbers store.plain) (right : KeepRight store) where
  found_so : (count : ℕ) → find (λ (one : Filesystem ℕ). nat_eq (counted count) one.number) world.filesystems
      ≡ filesystem_found store count
  found_so count = ap (find (λ (one : Filesystem ℕ). nat_eq (counted count) one.number)) is

  numbered_so : (count : ℕ) → filesystem_numbered nat_eq world (counted count) ≡ filesystem_in store count
  numbered_so count = ap (λ o. unwrap_or o (no_filesystem (counted count))) (found_so count)

  own_at : (count number : ℕ) → is_inode_of count number ≡ false → (inodes_at store.plain count).inode number ≡ None
  own_at count number e = by (entry_of store.plain count) refl
    where
      by : (o : Option FilesystemEntry) → entry_of store.plain count ≡ o
          → (inodes_seen (unwrap_or o (no_entry count))).inode number ≡ None
      by None s = refl
      by (Some entry) s =
          let same = eqb-true count entry.count (found_passes (λ (one : FilesystemEntry). nat_eq count one.count)
          store.plain entry s) in
          cc (among_from_all HasOwnNumbers store.plain own entry (found_among (λ (one : FilesystemEntry). nat_eq
          count one.count) store.plain entry s) number (ap (λ n. is_inode_of n number) (sym same) ∙ e))

  -- a layer is a directory of a plain tree
  layer_stands : (layer : LayerRef) → is_plain_layer nat_eq world (layer_seen layer) ≡ true → IsLayer store.plain layer
  layer_stands layer stands =
      let count = layer.directory.filesystem.count in
      let parts = and_parts (not (is_overlay (filesystem_numbered nat_eq world (counted count))))
      (is_directory_node ((filesystem_numbered nat_eq world (counted count)).files.tree.node
      (inode_of layer.directory))) stands in
      let none = no_overlay (layered_in store count) refl
      (ap (λ (one : Filesystem ℕ). not (is_overlay one)) (sym (numbered_so count)) ∙ parts.0) in
      let seen = numbered_so count ∙ is_plain store count none in
      let directory = ap (λ (one : Filesystem ℕ). is_directory_node (one.files.tree.node (inode_of layer.directory)))
      (sym seen) ∙ parts.1 in record {
        tree = subst (λ (one : Filesystem ℕ). IsTree one.files.tree) seen (tree_of_found count
            (find (λ (one : Filesystem ℕ). nat_eq (counted count) one.number) world.filesystems) refl
            (inode_of layer.directory) parts.1);
        directory = directory;
        own_numbers = own_at count;
      }
    where
      no_overlay : (o : Option LayeredValue) → layered_in store layer.directory.filesystem.count ≡ o
          → not (is_overlay (filesystem_in store layer.directory.filesystem.count)) ≡ true
          → layered_in store layer.directory.filesystem.count ≡ None
      no_overlay o s e = grind (arith, common_steps, is_overlay_in, is_some)

      tree_of_found : (count : ℕ) (o : Option (Filesystem ℕ))
          → find (λ (one : Filesystem ℕ). nat_eq (counted count) one.number) world.filesystems ≡ o → (number : ℕ)
          → is_directory_node ((unwrap_or o (no_filesystem (counted count))).files.tree.node number) ≡ true
          → IsTree (unwrap_or o (no_filesystem (counted count))).files.tree
      tree_of_found count None s number e = absurd (true≢false (sym e))
      tree_of_found count (Some filesystem) s number e =
          among_from_all (λ (one : Filesystem ℕ). IsTree one.files.tree) world.filesystems whole.files.trees filesystem
          (found_among (λ (one : Filesystem ℕ). nat_eq (counted count) one.number) world.filesystems filesystem s)

  module _ (entry : OverlayEntry) (there : Among entry store.overlays) where
    among : Among (overlay_filesystem store.plain entry) world.filesystems
    among = grind (arith, common_steps, among-woven)

    abbrev lowers : List (Layer ℕ)
    lowers = map layer_seen entry.overlay.lowers

    -- all layers, as the definitions see them, are among those of the overlay
    all_fit : list_all (is_plain_layer nat_eq world) (layers_of (layers_and_objects store.plain entry)) ≡ true
    all_fit = among_from_list_all
        (of_overlay true (λ one. list_all (is_plain_layer nat_eq world) (layers_of one))) world.filesystems
        whole.overlays.plain_layers (overlay_filesystem store.plain entry) among

    has_fit : has_fit_layers (layers_and_objects store.plain entry) ≡ true
    has_fit = among_from_list_all (of_overlay true has_fit_layers) world.filesystems whole.overlays.fit_layers
        (overlay_filesystem store.plain entry) among

    stands : StandsOnLayers store.plain entry
    stands = by entry.above refl (among_from_all (λ (one : OverlayEntry). KeepsRight store.plain one.overlay one.above)
        store.overlays right entry there)
      where
        by : (above : Option Above) → entry.above ≡ above → KeepsRight store.plain entry.overlay entry.above
            → StandsOnLayers store.plain entry
        by None e keeps =
            let plain_ones = ap (λ above. list_all (is_plain_layer nat_eq world)
            (layers_of (layered_seen entry.overlay above))) (sym e) ∙ all_fit in
            let fit = ap (λ above. has_fit_layers (layered_seen entry.overlay above)) (sym e) ∙ has_fit in
            let parts = and_parts (not (is_empty_list lowers)) (nat_le (length lowers) most_lowers)
            (and_parts (not (is_empty_list lowers) && nat_le (length lowers) most_lowers) _ fit).0 in
            let same = length-layers entry.overlay.lowers in
            let most = leb-true (length lowers) most_lowers parts.1 in
            let least = not_empty lowers parts.0 in record {
              layers = λ place layer at. layer_stands layer (each_seen (is_plain_layer nat_eq world)
                  entry.overlay.lowers plain_ones place layer at);
              some = omega (arith, least, same);
              few = omega (arith, most, same);
              right = keeps;
            }
        by (Some above) e keeps =
            let upper = subst (KeepsRight store.plain entry.overlay) e keeps in record {
              layers = upper.layers;
              some = upper.upper;
              few = upper.few;
              right = keeps;
            }

pub worlds_stand_on_layers : WorldsStandOnLayers
worlds_stand_on_layers store world whole is own right =
    all_from_among (StandsOnLayers store.plain) store.overlays (stands store world whole is own right)
