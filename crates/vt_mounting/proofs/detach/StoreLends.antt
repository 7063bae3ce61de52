-- What a store lends for its nodes is what the world that holds it tells.
use Rattle.std.proofs.Common.{◌≡◌, refl, sym, ap, ◌∙◌, ℕ, nat_eq, eqb-true, List, Option, Some, None, option_map, arith, All}
use Rattle.vt_spec.proofs.Common.{Filesystem, Lower, Real, Upper, World, at_path, common_steps, filesystem_numbered, found_among, found_passes, node_at_path, open_layer, slice_get-map, then_some}
use Rattle.vt_mounting.proofs.Common.{Among, AreLayers, IsHeld, ShowsLayer, StoreValue, WorldValue, among-map, among_from_all, counted, entry_at, entry_in, filesystem_seen, inodes_have_their_objects, layer_seen, number_numbered, overlay_of_store, overlay_seen, with_objects, with_store, world_of}
use Rattle.vt_laws_trees.proofs.trees.Lists.{nth_among}
use Rattle.vt_world.proofs.overlays_kept.lending.ObjectsLent.{real_objects_are_lent}
use Rattle.vt_world.specs.OverlaysKept.Lending.{lent_on, object_lent}
use Rattle.vt_fs.specs.FilesystemsValue.{node_seen}
use Rattle.vt_overlay.specs.Merge.LayerValue.{layer_of}
use Rattle.vt_overlay.specs.declared.merge.layers.LayerRef.{LayerRef}
use Rattle.vt_layered.specs.LayeredTree.{layered_lent}
use Rattle.vt_overlay.specs.Alike.{lent_at}
use Rattle.vt_store.proofs.KeptObjects.{layered_entry}
use Rattle.vt_store.specs.OverlaysValue as stored
use Rattle.vt_store.specs.StoreValue.{lent_in}
use Rattle.vt_store.specs.StoreValue as stores
use Rattle.vt_world.specs.Lent.{count_of, lent_by, lent_in_layers, lent_of_world}
use Rattle.vt_mounting.proofs.detach.LayersShown.{layers_shown_well}
use Rattle.vt_mounting.proofs.detach.LowerKept.{lent_are, lowers_are, stored_are}
use Rattle.vt_mounting.proofs.detach.StoreShown.{kept_lower, overlay_found, plain_found}

count_back : (count : ℕ) → count_of (counted count) ≡ count
count_back count = omega arith

module _ (base : WorldValue) (store : StoreValue) (held : IsHeld (with_store store base)) where
  abbrev world : World ℕ
  world = world_of (with_store store base)

  module _ (entry : stored.OverlayEntry) (m : Among entry store.overlays) where
    lower : entry.above ≡ None
    lower = kept_lower base store held entry m

    shown : AreLayers store.plain entry.overlay.lowers
        × All (ShowsLayer (world_of (with_store store base)) store.plain) entry.overlay.lowers
    shown = layers_shown_well held (overlay_of_store store.plain entry)
        (among-map (overlay_of_store store.plain) store.overlays entry m) entry.overlay.lowers (lowers_are entry lower)

    -- what a path leads to in a layer, in the store and in the world
    layer_lends : (path : List (List ℕ)) (layer : LayerRef) → Among layer entry.overlay.lowers
        → lent_on store.plain path layer ≡ option_map (node_seen (count_of (counted layer.directory.filesystem.count)))
        (node_at_path (open_layer nat_eq (world_of (with_store store base)) (layer_seen layer)) path)
    layer_lends path layer n = by (at_path (layer_of store.plain layer) path)
        ∙ ap (λ open_layer. option_map (node_seen layer.directory.filesystem.count) (node_at_path open_layer path))
        (λ i. record (layer_of store.plain layer) {
          tree = (among_from_all (ShowsLayer (world_of (with_store store base)) store.plain) entry.overlay.lowers
              shown.1 layer n).tree i;
        }) ∙ ap (λ count. option_map (node_seen count)
        (node_at_path (open_layer nat_eq (world_of (with_store store base)) (layer_seen layer)) path))
        (sym (count_back layer.directory.filesystem.count))
      where
        by : (o : Option ℕ) → then_some o (λ object. lent_at store.plain object layer)
            ≡ option_map (node_seen layer.directory.filesystem.count)
            (then_some o (λ object. (layer_of store.plain layer).tree.node object))
        by None = refl
        by (Some object) = refl

    object_lends : (real : Real ℕ) → object_lent store.plain entry.overlay real
        ≡ lent_in_layers (world_of (with_store store base)) (with_objects store.plain entry.overlay) real
    object_lends (Upper object) = refl
    object_lends (Lower place path) = grind (arith, common_steps, slice_get-map, layer_lends, nth_among)

    -- the overlay in the world has the real objects
    overlay_is : (filesystem_numbered nat_eq (world_of (with_store store base)) (counted entry.count)).overlay
        ≡ Some (with_objects store.plain entry.overlay)
    overlay_is = ap (λ (f : Filesystem ℕ). f.overlay) (overlay_found base store held entry m)
        ∙ ap (λ one. (overlay_seen one).overlay) (stored_are entry lower store.plain)
        ∙ (λ i. Some (record (with_objects store.plain entry.overlay) {
          real = inodes_have_their_objects store.plain entry.overlay shown.0 i;
        }))

    over_lends : (number : ℕ) → layered_lent store.plain entry.overlay entry.above number
        ≡ lent_of_world (world_of (with_store store base)) (counted entry.count) number
    over_lends number = lent_are entry lower store.plain number ∙ real_objects_are_lent store.plain entry.overlay shown.0 number
        ∙ ap (then_some ((with_objects store.plain entry.overlay).real number)) (λ i. λ real. object_lends real i)
        ∙ ap (lent_by (world_of (with_store store base)) number
        (filesystem_numbered nat_eq (world_of (with_store store base)) (counted entry.count))) (sym overlay_is)

  -- each node
  pub store_lends : (count number : ℕ)
      → lent_in store count number ≡ lent_of_world (world_of (with_store store base)) (counted count) number
  store_lends count number = by (entry_in store count) refl
    where
      by : (o : Option stored.OverlayEntry) → entry_in store count ≡ o
          → stores.lent_by store.plain count number (option_map layered_entry o)
          ≡ lent_of_world (world_of (with_store store base)) (counted count) number
      by None e =
          let found = plain_found base store held count (ap (option_map layered_entry) e) in
          let number_is : (filesystem_seen (entry_at store.plain count)).number ≡ counted count =
          ap (λ (f : Filesystem ℕ). f.number) (sym found)
          ∙ number_numbered (counted count) (world_of (with_store store base)).filesystems in
          ap (λ n. option_map (node_seen n) ((filesystem_seen (entry_at store.plain count)).files.tree.node number))
          (sym (ap count_of number_is ∙ count_back count))
          ∙ ap (λ (f : Filesystem ℕ). lent_by (world_of (with_store store base)) number f f.overlay) (sym found)
      by (Some entry) e =
          let same = eqb-true count entry.count
          (found_passes (λ (one : stored.OverlayEntry). nat_eq count one.count) store.overlays entry e) in
          over_lends entry (found_among (λ (one : stored.OverlayEntry). nat_eq count one.count) store.overlays entry e)
          number ∙ ap (λ n. lent_of_world (world_of (with_store store base)) (counted n) number) (sym same)
