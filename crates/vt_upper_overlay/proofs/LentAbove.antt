-- What is lent for a node is its real object, if the node is there.
use Rattle.std.proofs.Common.{◌≡◌, ◌∙◌, ◌||◌, [], All, ap, Bool, eqb-true, false, IsSome, find, is_some, List, map, nat_eq, None, option_map, Option, refl, slice_get, Some, sym, true, true≢false, ℕ}
use Rattle.std.specs.Map.{keys_of}
use Rattle.vt_spec.proofs.Common.{Node, OpenLayer, Shown, among_from_all, any_from_among, found_among as found_in_list, found_passes, layer_node, list_any, node_shown, open_layer, or_right, real_node, shown, slice_get-map, then_some}
use Rattle.vt_laws_trees.specs.Overlays.MergedTrees.{layers_shown, node_as}
use Rattle.vt_laws_trees.specs.Overlays.TreesSeen.{node_by}
use Rattle.vt_location.specs.declared.locations.NodeRef.{NodeRef}
use Rattle.vt_location.specs.Locations.{number_of}
use Rattle.vt_location.specs.NodeNumbers.{IsSmall}
use Rattle.vt_location.specs.SameNodes.{same_node}
use Rattle.vt_location.proofs.NodeLemmas.{same_node-itself, small_parts}
use Rattle.vt_births.specs.Kept.{is_kept}
use Rattle.vt_fs.specs.FilesystemsValue.{Filesystems, files_at}
use Rattle.vt_location.specs.Fronts.{front}
use Rattle.vt_overlay.specs.Alike.{lent_at}
use Rattle.vt_overlay.specs.Merge.LayerValue.{layer_of, layers_of, seen_of}
use Rattle.vt_overlay.specs.declared.merge.layers.LayerRef.{LayerRef}
use Rattle.vt_overlay.specs.MergedTree.{longest, plain_world}
use Rattle.vt_overlay.proofs.TreeFound as plain
use Rattle.vt_upper_overlay.specs.Lent.{ObjectsAreAlikeAbove, lent_by_path, node_kept, real_lent}
use Rattle.vt_upper_overlay.specs.MergedAbove.{held, lent, merged_above, object_kept, object_lent, object_shown, path_at, real_number, upper_seen}
use Rattle.vt_upper_overlay.specs.Standing.{IsKeptWell, is_there}
use Rattle.vt_upper_overlay.specs.UpperValue.{UpperOverlayValue, real_at}
use Rattle.vt_upper_overlay.proofs.Objects.{alike_there, found_among, front_as, front_seen, none_among, path_number, real_shown_at}
use Rattle.vt_upper_overlay.proofs.Shown.{IsLooked, all_layers, layers_are, looked_by}
use Rattle.vt_upper_overlay.proofs.Ways as ways

module _ (trees : Filesystems) (overlay : UpperOverlayValue) (looked : IsLooked trees overlay) (node : NodeRef)
    (node_small : IsSmall node) where
  abbrev number : ℕ
  number = number_of node

  -- of a node that is there the real object
  pub lent_there : is_there trees overlay node ≡ true → object_lent trees overlay node
      ≡ real_lent trees overlay (number_of node)
  lent_there there = by (path_at trees overlay number) refl
    where
      by : (o : Option (List (List ℕ))) → path_at trees overlay number ≡ o
          → object_lent trees overlay node ≡ lent_by_path trees overlay number (path_at trees overlay number)
      by None e =
          let kept = sym (ap (λ o. is_some (then_some o (shown (layers_of trees overlay.layers.lowers)))
          || is_kept overlay.nodes.kept node) e) ∙ there in
          sym (ap (λ o. then_some o (object_lent trees overlay)) (found_among trees overlay node node_small
          (keys_of overlay.nodes.kept.by_node) looked.stands.kept kept))
          ∙ ap (lent_by_path trees overlay number) (sym e)
      by (Some path) e =
          ap (lent trees overlay) (real_shown_at trees overlay looked node node_small path
          (path_number trees overlay looked node node_small path e))
          ∙ ap (lent_by_path trees overlay number) (sym e)

  -- and of another one nothing
  pub lent_nowhere : is_there trees overlay node ≡ false → None ≡ real_lent trees overlay (number_of node)
  lent_nowhere nowhere = by (path_at trees overlay number) refl
    where
      by : (o : Option (List (List ℕ))) → path_at trees overlay number ≡ o
          → None ≡ lent_by_path trees overlay number (path_at trees overlay number)
      by None e =
          let unkept = sym (ap (λ o. is_some (then_some o (shown (layers_of trees overlay.layers.lowers)))
          || is_kept overlay.nodes.kept node) e) ∙ nowhere in
          sym (ap (λ o. then_some o (object_lent trees overlay)) (none_among trees overlay node node_small
          (keys_of overlay.nodes.kept.by_node) looked.stands.kept unkept))
          ∙ ap (lent_by_path trees overlay number) (sym e)
      by (Some path) e = absurd (true≢false (sym (ap (λ b. b || is_kept overlay.nodes.kept node) shows) ∙ nowhere))
        where
          shows : is_some (object_shown trees overlay number) ≡ true
          shows = ap (λ o. is_some (then_some o (shown (layers_of trees overlay.layers.lowers)))) e
              ∙ sym (ap (λ all. is_some (shown all path)) (layers_are trees overlay looked))
              ∙ sym (ways.number_is_shown (real_number trees overlay) (held trees overlay)
              (longest trees overlay.layers.lowers) (plain_world trees) (upper_seen overlay) path)
              ∙ ap is_some (path_number trees overlay looked node node_small path e)

  -- so what has something lent is there
  pub there_lent : IsSome (real_lent trees overlay (number_of node)) → is_there trees overlay node ≡ true
  there_lent some = by (is_there trees overlay node) refl
    where
      by : (b : Bool) → is_there trees overlay node ≡ b → is_there trees overlay node ≡ true
      by true e = e
      by false e = absurd (true≢false (sym some ∙ ap is_some (sym (lent_nowhere e))))

-- What is lent is like what is shown.
front_lent : (trees : Filesystems) (overlay : UpperOverlayValue) (seen : Option (Shown ℕ))
    → front (lent trees overlay seen) ≡ front (then_some seen (layer_node (layers_of trees overlay.layers.lowers)))
front_lent trees overlay None = refl
front_lent trees overlay (Some one) =
    by (slice_get overlay.layers.lowers one.layer)
    ∙ ap (λ o. front (then_some o (λ (layer : OpenLayer ℕ). layer.tree.node one.object)))
    (sym (slice_get-map (layer_of trees) overlay.layers.lowers one.layer))
  where
    by : (o : Option LayerRef) → front (then_some o (lent_at trees one.object))
        ≡ front (then_some (option_map (layer_of trees) o) (λ (layer : OpenLayer ℕ). layer.tree.node one.object))
    by None = refl
    by (Some lower) = sym (front_seen lower.directory.filesystem.count
        ((files_at trees lower.directory.filesystem.count).tree.node one.object))

-- a node that is found among those that are kept
kept_found : (nodes : List NodeRef) (P : NodeRef → Type 0) → All P nodes → (number : ℕ) (node : NodeRef)
    → find (λ one. nat_eq number (number_of one)) nodes ≡ Some node → P node × (list_any (same_node node) nodes ≡ true)
kept_found nodes P all number node e =
    let among = found_in_list (λ (one : NodeRef). nat_eq number (number_of one)) nodes node e in
    (among_from_all P nodes all node among, any_from_among (same_node node) nodes node among (same_node-itself node))

pub alike_above : ObjectsAreAlikeAbove
alike_above trees overlay number stands = by (path_at trees overlay number) refl
  where
    tree_by : Option (List (List ℕ)) → Option (Node ℕ)
    tree_by path = node_by (real_number trees overlay) (held trees overlay) (longest trees overlay.layers.lowers)
        (plain_world trees) (upper_seen overlay) number path

    layers_so : layers_shown (plain_world trees) (upper_seen overlay) ≡ layers_of trees overlay.layers.lowers
    layers_so = ap (map (open_layer nat_eq (plain_world trees))) (all_layers overlay.layers.lowers)
        ∙ plain.layers_are trees overlay.layers stands.layers

    of_kept : path_at trees overlay number ≡ None → (node : Option NodeRef) → node_kept overlay number ≡ node
        → front (then_some node (object_lent trees overlay)) ≡ front (tree_by (path_at trees overlay number))
    of_kept none None e = sym (ap (λ o. front (option_map (node_as number []) (then_some (then_some o
        (object_kept trees overlay)) (real_node nat_eq (plain_world trees) (upper_seen overlay))))) e)
        ∙ ap (λ o. front (tree_by o)) (sym none)
    of_kept none (Some node) e =
        let well = kept_found (keys_of overlay.nodes.kept.by_node) (IsKeptWell trees overlay) stands.kept number node e in
        let same : number ≡ number_of node = eqb-true number (number_of node)
        (found_passes (λ (one : NodeRef). nat_eq number (number_of one)) (keys_of overlay.nodes.kept.by_node) node e) in
        let looked = looked_by trees overlay node stands well.0.small well.0.own.own in
        front_lent trees overlay (option_map seen_of (real_at overlay node))
        ∙ alike_there trees overlay looked node (small_parts node well.0.small)
        (or_right (is_some (object_shown trees overlay (number_of node))) (is_kept overlay.nodes.kept node) well.1)
        ∙ ap (λ n. front ((merged_above trees overlay).node n)) (sym same)

    by : (o : Option (List (List ℕ))) → path_at trees overlay number ≡ o
        → front (lent_by_path trees overlay number (path_at trees overlay number))
        ≡ front (tree_by (path_at trees overlay number))
    by None e = ap (λ o. front (lent_by_path trees overlay number o)) e
        ∙ of_kept e (node_kept overlay number) refl
    by (Some path) e = ap (λ o. front (lent_by_path trees overlay number o)) e
        ∙ front_lent trees overlay (shown (layers_of trees overlay.layers.lowers) path)
        ∙ ap (λ all. front (then_some (shown all path) (layer_node all))) (sym layers_so)
        ∙ front_as _ _ (node_shown nat_eq (plain_world trees) (upper_seen overlay) path)
        ∙ ap (λ o. front (tree_by o)) (sym e)
