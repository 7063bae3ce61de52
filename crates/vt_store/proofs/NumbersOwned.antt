-- The inodes of overlays have numbers of their own nodes, which tell them apart.
use Rattle.std.proofs.Common.{◌≡◌, ◌<◌, ◌≤◌, [], refl, sym, ap, subst, ◌∙◌, true≢false, ℕ, nat_eq, eq-eqb, eqb-true, true, false, List, Option, Some, None, is_some, length, option_map, suc, zero, arith}
use Rattle.vt_spec.proofs.Common.{Node, Shown, among_from_all, found_among, found_passes, none_is_some, path_down, real_node, same_Some, shown, slice_get_within, then_some, common_steps}
use Rattle.vt_location.specs.declared.locations.NodeRef.{NodeRef}
use Rattle.vt_location.specs.declared.numbers.FilesystemId.{FilesystemId}
use Rattle.vt_location.specs.Numbers.{exchanged}
use Rattle.vt_location.specs.Locations.{is_small_node, number_of}
use Rattle.vt_location.specs.NodeNumbers.{IsSmall}
use Rattle.vt_location.proofs.NodeLemmas.{nodes_test, one_to_one, small_parts}
use Rattle.vt_fs.specs.FilesystemsValue.{Filesystems}
use Rattle.vt_fs.proofs.Nowhere.{path_to_itself}
use Rattle.vt_fs.proofs.TreesLookedAt.{nowhere_under}
use Rattle.vt_overlay.specs.MergedTree.{AreLayers, OverlayValue, longest, merged_tree, node_born, overlay_seen, path_at, plain_world, real_number}
use Rattle.vt_overlay.proofs.BirthsFound.{in_slot, small_birth}
use Rattle.vt_overlay.proofs.TreeFound.{found_is_at, in_layer}
use Rattle.vt_overlay.specs.Merge.LayerValue.{layers_of}
use Rattle.vt_overlay.specs.declared.merge.layers.LayerRef.{LayerRef}
use Rattle.std.specs.Map.{keys_of}
use Rattle.vt_laws_trees.specs.Overlays.MergedTrees.{node_as}
use Rattle.vt_laws_trees.specs.Overlays.TreesSeen.{node_by}
use Rattle.vt_births.specs.Births.{node_above}
use Rattle.vt_upper_overlay.specs.Lent.{node_kept}
use Rattle.vt_upper_overlay.specs.MergedAbove as above
use Rattle.vt_upper_overlay.specs.MergedAbove.{merged_above, object_kept}
use Rattle.vt_upper_overlay.specs.Standing.{IsKeptWell, StandsAbove}
use Rattle.vt_upper_overlay.specs.UpperValue.{UpperOverlayValue}
use Rattle.vt_upper_overlay.proofs.Shown.{IsLooked, is_looked, no_number, number_above, number_below, small_born, small_shown}
use Rattle.vt_upper_overlay.proofs.ThereAbove.{own_above}
use Rattle.vt_upper_overlay.proofs.Ways as ways
use Rattle.vt_layered.specs.LayeredTree.{StandsLayered, layered_files}
use Rattle.vt_layered.specs.LayeredValue.{Above, LayeredValue, upper_of}
use Rattle.vt_store.specs.StoreValue.{StandOnLayers, StandsOnLayers, StoreValue, files_in, layered_in}
use Rattle.vt_store.proofs.Woven.{files_over, is_over}

-- the number of a node of the filesystem with this count
record IsNodeOf (count number : ℕ) : Type 0 where
  node : NodeRef
  small : IsSmall node
  here : node.filesystem.count ≡ count
  is : number_of node ≡ number

-- what an overlay shows was born in one of its layers
born_in_layer : (plain : Filesystems) (overlay : OverlayValue) → overlay.number.count < 18446744073709551616
    → AreLayers plain overlay.lowers → length overlay.lowers ≤ 129
    → (number : ℕ) → is_some ((merged_tree plain overlay).node number) ≡ true → IsNodeOf overlay.number.count number
born_in_layer plain overlay small are few number there = by (path_at plain overlay number) refl there
  where
    by : (o : Option (List (List ℕ))) → path_at plain overlay number ≡ o
        → is_some (node_by (real_number plain overlay) (λ number. None) (longest plain overlay.lowers)
        (plain_world plain) (overlay_seen overlay) number o) ≡ true → IsNodeOf overlay.number.count number
    by None e there = absurd (true≢false (sym there))
    by (Some path) e there =
        let at = found_is_at plain overlay are number path e in
        let layer = are at.place at.lower at.layer in
        let within = slice_get_within overlay.lowers at.place at.lower at.layer in
        record {
          node = node_born plain overlay.number at.place at.lower path;
          small = record {
            filesystem = small;
            slot = (in_slot plain at.lower layer path at.object at.leads).0;
            birth = small_birth plain at.lower layer at.place path at.object (omega (arith, within, few)) at.leads;
          };
          here = refl;
          is = at.numbered;
        }

-- what one with an upper layer shows was born in one of its layers, or is kept without a name
born_above : (plain : Filesystems) (overlay : UpperOverlayValue)
    → overlay.layers.number.count < 18446744073709551616 → StandsAbove plain overlay → (number : ℕ)
    → is_some ((merged_above plain overlay).node number) ≡ true → IsNodeOf overlay.layers.number.count number
born_above plain overlay small stands number there = by (above.path_at plain overlay number) refl there
  where
    looked : IsLooked plain overlay
    looked = is_looked plain overlay stands small

    found : Option (List (List ℕ)) → Option (Node ℕ)
    found path = node_by (above.real_number plain overlay) (above.held plain overlay)
        (longest plain overlay.layers.lowers) (plain_world plain) (above.upper_seen overlay) number path

    -- shown at a path
    at_path_of : (path : List (List ℕ)) → above.number_at plain overlay path ≡ Some number
        → IsNodeOf overlay.layers.number.count number
    at_path_of path numbered = at (shown (layers_of plain overlay.layers.lowers) path) refl
      where
        at_place : (place object : ℕ)
            → shown (layers_of plain overlay.layers.lowers) path ≡ Some (record { layer = place; object = object })
            → IsNodeOf overlay.layers.number.count number
        at_place zero object e =
            let at = in_layer plain overlay.layers stands.layers path (record { layer = 0; object = object }) e in
            let slot = in_slot plain at.0 (stands.layers 0 at.0 at.1) path object at.2 in
            let same = same_Some at.0 looked.top (sym at.1 ∙ looked.first) in
            let f = looked.top.directory.filesystem.count in
            record {
              node = node_above overlay.nodes.births overlay.layers.number (exchanged f object);
              small = small_shown plain overlay looked object
                  (subst (λ n. n < 18446744073709551616) (slot.1
                  ∙ ap (λ (l : LayerRef). exchanged l.directory.filesystem.count object) same) slot.0);
              here = ap (λ (id : FilesystemId). id.count) (own_above plain overlay stands (exchanged f object));
              is = same_Some _ number (sym (number_above plain overlay looked path object e) ∙ numbered);
            }
        at_place (suc layer) object e =
            let at = in_layer plain overlay.layers stands.layers path (record { layer = suc layer; object = object }) e
            in
            let within = slice_get_within overlay.layers.lowers (suc layer) at.0 at.1 in
            let few = stands.few in
            record {
              node = node_born plain overlay.layers.number layer at.0 path;
              small = small_born plain overlay looked path layer object at.0 (omega (arith, within, few))
                  (stands.layers (suc layer) at.0 at.1) at.2;
              here = refl;
              is = same_Some _ number (sym (number_below plain overlay looked path layer object at.0 e at.1) ∙ numbered);
            }

        at : (o : Option (Shown ℕ)) → shown (layers_of plain overlay.layers.lowers) path ≡ o
            → IsNodeOf overlay.layers.number.count number
        at None e = none_is_some number (sym (no_number plain overlay looked path e) ∙ numbered)
        at (Some seen) e = at_place seen.layer seen.object e

    -- or kept
    of_kept : (o : Option NodeRef) → node_kept overlay number ≡ o
        → is_some (option_map (node_as number []) (then_some (then_some o (object_kept plain overlay))
        (real_node nat_eq (plain_world plain) (above.upper_seen overlay)))) ≡ true
        → IsNodeOf overlay.layers.number.count number
    of_kept None e there = absurd (true≢false (sym there))
    of_kept (Some node) e there =
        let keys = keys_of overlay.nodes.kept.by_node in
        let well = among_from_all (IsKeptWell plain overlay) keys stands.kept node
        (found_among (λ (one : NodeRef). nat_eq number (number_of one)) keys node e) in
        record {
          node = node;
          small = small_parts node well.small;
          here = ap (λ (id : FilesystemId). id.count) well.own.own;
          is = sym (eqb-true number (number_of node)
              (found_passes (λ (one : NodeRef). nat_eq number (number_of one)) keys node e));
        }

    by : (o : Option (List (List ℕ))) → above.path_at plain overlay number ≡ o → is_some (found o) ≡ true
        → IsNodeOf overlay.layers.number.count number
    by None e there = of_kept (node_kept overlay number) refl there
    by (Some path) e there = at_path_of path (ways.found_numbered (above.real_number plain overlay)
        (above.held plain overlay) (longest plain overlay.layers.lowers) (plain_world plain)
        (above.upper_seen overlay) number path e)

born_so : (plain : Filesystems) (overlay : OverlayValue) (above : Option Above)
    → overlay.number.count < 18446744073709551616 → StandsLayered plain overlay above → (number : ℕ)
    → is_some ((layered_files plain overlay above).tree.node number) ≡ true → IsNodeOf overlay.number.count number
born_so plain overlay None small stands = born_in_layer plain overlay small stands.layers stands.few
born_so plain overlay (Some above) small stands = born_above plain (upper_of overlay above) small stands.right

module _ (store : StoreValue) (count : ℕ) (small : count < 18446744073709551616) (standing : StandOnLayers store)
    (layered : LayeredValue) (some : layered_in store count ≡ Some layered) (same : layered.overlay.number.count ≡ count)
  where
    own_node : (number : ℕ) → is_some ((files_in store count).tree.node number) ≡ true → IsNodeOf count number
    own_node number there =
        let over = is_over store count layered some in
        let stands = subst (λ (one : LayeredValue). StandsLayered store.plain one.overlay one.above) over.holds
        (among_from_all (StandsOnLayers store.plain) store.overlays standing over.entry over.among) in
        subst (λ n. IsNodeOf n number) same
        (born_so store.plain layered.overlay layered.above (subst (λ n. n < 18446744073709551616) (sym same) small) stands
        number (ap (λ files. is_some (files.tree.node number)) (files_over store count layered some) ∙ there))

    -- a node of another filesystem is not in it
    no_other_node : (node : NodeRef) → IsSmall node → nat_eq count node.filesystem.count ≡ false
        → (files_in store count).tree.node (number_of node) ≡ None
    no_other_node node small other = by ((files_in store count).tree.node (number_of node)) refl
      where
        by : (o : Option (Node ℕ)) → (files_in store count).tree.node (number_of node) ≡ o → o ≡ None
        by None e = refl
        by (Some inode) e =
            let one = own_node (number_of node) (ap is_some e) in
            let same = one_to_one one.node node one.small small one.is in
            absurd (true≢false (sym (eq-eqb count node.filesystem.count
            (sym one.here ∙ ap (λ (n : NodeRef). n.filesystem.count) same)) ∙ other))

    -- so nothing leads to it
    pub no_path : (top directory : NodeRef) → is_small_node top ≡ true → is_small_node directory ≡ true
        → top.filesystem.count ≡ count → nat_eq count directory.filesystem.count ≡ false
        → path_down nat_eq (files_in store count) (number_of top) (number_of directory) ≡ None
    no_path top directory top_small directory_small here other =
        grind (arith, common_steps, files_in, nodes_test, path_to_itself, nowhere_under, no_other_node, small_parts)
