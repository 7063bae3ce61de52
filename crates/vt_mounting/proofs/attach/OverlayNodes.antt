-- The inodes of an overlay that a store keeps have the numbers of its nodes.
use Rattle.std.proofs.Common.{◌≡◌, ◌≤◌, ◌<◌, refl, sym, ap, subst, ◌∙◌, ℕ, true, true≢false, ◌&&◌, List, length, Option, Some, None, is_some, arith, lt-ltb}
use Rattle.vt_spec.proofs.Common.{Tree, slice_get_within}
use Rattle.vt_mounting.proofs.Common.{AreLayers, Filesystems, HasOwnNodes, OverlayValue, counted, is_small_node, number_of, overlay_of_store}
use Rattle.vt_laws_trees.specs.Overlays.TreesSeen.{node_by}
use Rattle.vt_location.specs.declared.births.Birth.{Birth}
use Rattle.vt_location.specs.declared.births.Birth.TheVariants.{Below, Here}
use Rattle.vt_location.specs.declared.locations.NodeRef.{NodeRef}
use Rattle.vt_location.specs.Births.{IsSmallBirth, is_small_birth}
use Rattle.vt_location.specs.NodeNumbers.{IsSmall}
use Rattle.vt_overlay.proofs.BirthsFound.{in_slot, small_birth}
use Rattle.vt_overlay.proofs.TreeFound.{IsAt, found_is_at}
use Rattle.vt_overlay.specs.MergedTree.{longest, merged_tree, node_born, overlay_seen, path_at, plain_world, real_number}
use Rattle.vt_layered.specs.LayeredTree.{layered_files}
use Rattle.vt_store.specs.OverlaysValue as stored
use Rattle.vt_world.proofs.overlays_kept.inodes.InodesAbove.{layered_inodes_are_the_tree}
use Rattle.vt_world.specs.WorldValue as worlds

small_births : (birth : Birth) → IsSmallBirth birth → is_small_birth birth ≡ true
small_births Here small = refl
small_births (Below layer directory rank) small =
    λ i. lt-ltb directory 18446744073709551616 small.0 i && lt-ltb layer 18446744073709551616 small.1 i

-- a node with small parts
pub small_node : (node : NodeRef) → IsSmall node → is_small_node node ≡ true
small_node node small = λ i. lt-ltb node.filesystem.count 18446744073709551616 small.filesystem i
    && (lt-ltb node.slot 18446744073709551616 small.slot i && small_births node.birth small.birth i)

-- A read-only overlay can be kept: its layers are plain, they are few, and its number is that of its entry.
pub record CanBeKept (trees : Filesystems) (entry : stored.OverlayEntry) : Type 0 where
  pub are : AreLayers trees entry.overlay.lowers
  pub no_upper : entry.above ≡ None
  pub few : length entry.overlay.lowers ≤ 128
  pub own : entry.overlay.number.count ≡ entry.count
  pub small : entry.count < 18446744073709551616

module _ {trees : Filesystems} {entry : stored.OverlayEntry} (new_entry : CanBeKept trees entry) where
  open new_entry use {are, no_upper, few, own, small}

  abbrev overlay : OverlayValue
  overlay = entry.overlay

  -- what is shown at a path is a node of the overlay
  born_small : {path : List (List ℕ)} {number : ℕ} (at : IsAt trees overlay are path number)
      → is_small_node (node_born trees overlay.number at.place at.lower path) ≡ true
  born_small {path} at =
      let layer = are at.place at.lower at.layer in
      let within = slice_get_within overlay.lowers at.place at.lower at.layer in
      small_node (node_born trees overlay.number at.place at.lower path) (record {
        filesystem = subst (λ n. n < 18446744073709551616) (sym own) small;
        slot = (in_slot trees at.lower layer path at.object at.leads).0;
        birth = small_birth trees at.lower layer at.place path at.object (omega (arith, within, few)) at.leads;
      })

  pub new_overlay_has_own : HasOwnNodes (worlds.overlay_seen (overlay_of_store trees entry))
  new_overlay_has_own number there = by (path_at trees overlay number) refl
      (ap (λ (tree : Tree ℕ). is_some (tree.node number)) (sym (layered_inodes_are_the_tree trees overlay entry.above
      ∙ ap (λ above. (layered_files trees overlay above).tree) no_upper)) ∙ there)
    where
      by : (o : Option (List (List ℕ))) → path_at trees overlay number ≡ o
          → is_some ((merged_tree trees overlay).node number) ≡ true
          → (node : NodeRef) × (is_small_node node ≡ true) × (counted entry.count ≡ counted node.filesystem.count)
          × (number ≡ number_of node)
      by None e some = absurd (true≢false (sym some
          ∙ ap (λ o. is_some (node_by (real_number trees overlay) (λ n. None) (longest trees overlay.lowers)
          (plain_world trees) (overlay_seen overlay) number o)) e))
      by (Some path) e some =
          let at = found_is_at trees overlay are number path e in (
            node_born trees overlay.number at.place at.lower path,
            born_small at,
            ap counted (sym own),
            sym at.numbered,
          )
