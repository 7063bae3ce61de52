-- Overlays of a store that have no upper layer: what they hold, show and lend.
use Rattle.std.proofs.Common.{◌≡◌, refl, sym, ap, subst, false, nat_eq, true, true≢false, not, List, [], ◌∷◌, drop, is_some, map, Option, Some, None, option_map, slice_get, ℕ}
use Rattle.vt_spec.proofs.Common.{Filesystem, is_empty_list, layers_of, none_is_some, objects_of_overlay, real_of}
use Rattle.vt_mounting.proofs.Common.{Filesystems, OverlayEntry, OverlayValue, counted, layer_seen, overlay_of_store, overlay_seen, with_objects}
use Rattle.vt_layered.specs.LayeredValue.{Above, held_layers}
use Rattle.vt_layered.specs.LayeredTree.{KeepsRight, layered_files, layered_lent, layered_objects, layered_seen}
use Rattle.vt_overlay.specs.Alike.{real_lent}
use Rattle.vt_overlay.specs.MergedTree.{merged_files, merged_tree}
use Rattle.vt_overlay.specs.declared.merge.layers.LayerRef.{LayerRef}
use Rattle.vt_store.specs.OverlaysValue as stored
use Rattle.vt_store.specs.StoreValue.{overlay_filesystem}
use Rattle.vt_world.specs.OverlaysKept.Inodes.{inodes_kept}
use Rattle.vt_world.specs.OverlaysKept.Layered.{inodes_layered}

-- one that is seen with a lower layer, and with no upper one, has none
pub lower_of : (overlay : OverlayValue) (above : Option Above)
    → not (is_empty_list (layered_seen overlay above).lowers) ≡ true → (layered_seen overlay above).upper ≡ None
    → above ≡ None
lower_of overlay None some none = refl
lower_of overlay (Some above) some none = by overlay.lowers some none
  where
    by : (layers : List LayerRef) → not (is_empty_list (map layer_seen (drop 1 layers))) ≡ true
        → option_map layer_seen (slice_get layers 0) ≡ None → Some above ≡ None
    by [] some none = absurd (true≢false (sym some))
    by (top ∷ rest) some none = none_is_some (layer_seen top) (sym none)

module _ (entry : stored.OverlayEntry) (lower : entry.above ≡ None) where
  pub lowers_are : (layered_seen entry.overlay entry.above).lowers ≡ map layer_seen entry.overlay.lowers
  lowers_are = ap (λ above. (layered_seen entry.overlay above).lowers) lower

  -- these are all its layers,
  pub layers_are : layers_of (layered_seen entry.overlay entry.above) ≡ map layer_seen entry.overlay.lowers
  layers_are = ap (λ above. layers_of (layered_seen entry.overlay above)) lower

  -- and it has no upper objects
  pub no_upper_seen : is_some (layered_seen entry.overlay entry.above).upper ≡ false
  no_upper_seen = ap (λ above. is_some (layered_seen entry.overlay above).upper) lower

  pub no_objects : (plain : Filesystems) (number : ℕ)
      → objects_of_overlay nat_eq number (overlay_seen (overlay_of_store plain entry)) ≡ []
  no_objects plain number = ap (λ above. objects_of_overlay nat_eq number (record (overlay_seen (overlay_of_store plain
      entry)) {
        overlay = Some (record (layered_seen entry.overlay above) {
          real = real_of nat_eq (overlay_of_store plain entry).inodes;
        });
      })) lower

  -- in the world it is the overlay of its layers
  abbrev pub lower_entry : Filesystems → OverlayEntry
  lower_entry plain = record {
    number = counted entry.count;
    root = (merged_tree plain entry.overlay).root;
    inodes = inodes_kept plain entry.overlay;
    upper = None;
    work = None;
    lowers = map layer_seen entry.overlay.lowers;
    mounter = entry.overlay.mounter;
    mounts = entry.mounts;
  }

  pub stored_are : (plain : Filesystems) → overlay_of_store plain entry ≡ lower_entry plain
  stored_are plain = λ i. record {
    number = counted entry.count;
    root = (layered_files plain entry.overlay (lower i)).tree.root;
    inodes = inodes_layered plain entry.overlay (lower i);
    upper = (layered_seen entry.overlay (lower i)).upper;
    work = (layered_seen entry.overlay (lower i)).work;
    lowers = (layered_seen entry.overlay (lower i)).lowers;
    mounter = entry.overlay.mounter;
    mounts = entry.mounts;
  }

  pub held_are : stored.layers_held entry ≡ entry.overlay.lowers
  held_are = ap (held_layers entry.overlay) lower

  pub keeps_right : (plain : Filesystems) → KeepsRight plain entry.overlay entry.above
  keeps_right plain = subst (KeepsRight plain entry.overlay) (sym lower) tt

  pub lent_are : (plain : Filesystems) (number : ℕ)
      → layered_lent plain entry.overlay entry.above number ≡ real_lent plain entry.overlay number
  lent_are plain number = ap (λ above. layered_lent plain entry.overlay above number) lower

  -- it is seen by its layers, with the tree and the real objects that they show
  abbrev pub lower_filesystem : Filesystems → Filesystem ℕ
  lower_filesystem plain = record {
    number = counted entry.count;
    files = merged_files plain entry.overlay;
    overlay = Some (with_objects plain entry.overlay);
    change = 0;
  }

  pub shown_are : (plain : Filesystems) → overlay_filesystem plain entry ≡ lower_filesystem plain
  shown_are plain = λ i. record {
    number = counted entry.count;
    files = layered_files plain entry.overlay (lower i);
    overlay = Some (record (layered_seen entry.overlay (lower i)) {
      real = layered_objects plain entry.overlay (lower i);
    });
    change = 0;
  }
