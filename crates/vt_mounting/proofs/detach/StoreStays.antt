-- After an event, a store shows the overlays that the world after it has: as they were.
use Rattle.std.proofs.Common.{◌≡◌, sym, ap, subst, ◌∙◌, ℕ, nat_eq, true, List, map, None, Some, All}
use Rattle.vt_spec.proofs.Common.{Filesystem, Permit, SameWorlds, Task, World, filesystem_numbered, is_overlay, length_permutation, map_alike}
use Rattle.vt_mounting.proofs.Common.{Among, Filesystems, IsGiven, IsHeld, IsShownAlike, OverlayValue, ShowsLayer, ShowsLayers, StoreValue, WorldValue, all_from_among, among-map, among_from_all, counted, found_filesystem, found_same, inodes_have_their_objects, inodes_stay, layer_seen, overlay_of_store, overlay_seen, with_objects, with_store, world_of}
use Rattle.vt_world.proofs.overlays_kept.events.KeptOverlays.{kept_overlays_stay}
use Rattle.vt_overlay.specs.declared.merge.layers.LayerRef.{LayerRef}
use Rattle.vt_store.specs.OverlaysValue as stored
use Rattle.vt_mounting.specs.Detach.Events.{left_by, supply_of}
use Rattle.vt_mounting.proofs.detach.LayersShown.{fits, has_no_upper, layers_shown_well}
use Rattle.vt_mounting.proofs.detach.PlainFound.{overlay_among}
use Rattle.vt_mounting.proofs.detach.LowerKept.{lower_entry, lower_of, lowers_are, stored_are}
use Rattle.vt_mounting.proofs.detach.StoreShown.{kept_lower, overlay_found}

-- Layers that a world shows, the same world but for change numbers and the order of numbers shows, too.
shown_before : {one other : World ℕ} → SameWorlds one other → (trees : Filesystems) (layers : List LayerRef)
    → All (ShowsLayer other trees) layers → All (ShowsLayer one trees) layers
shown_before {one} {other} same trees layers all = all_from_among (ShowsLayer one trees) layers (λ layer m.
    let shows = among_from_all (ShowsLayer other trees) layers all layer m in
    let alike = found_same (counted layer.directory.filesystem.count) one.filesystems other.filesystems
    same.filesystems in
    record {
      tree = shows.tree ∙ sym alike.files.tree;
      numbers = shows.numbers ∙ length_permutation _ _ alike.files.numbers;
    })

-- An event of a world that holds a store: what it leaves has the overlays of another store, as the plain trees of the
-- first showed them. The trees of the other show them so.
module _ (base new_base : WorldValue) (old new : StoreValue) (task : Task ℕ) (permit : Permit ℕ)
    (held : IsHeld (with_store old base))
    (given : IsGiven (supply_of (with_store old base) permit) (world_of (with_store old base)) task permit) where
  abbrev value : WorldValue
  value = with_store old base

  -- the overlays as the old trees show them
  abbrev pub left_value : WorldValue
  left_value = record new_base {
    filesystems = new.plain;
    overlays = map (overlay_of_store old.plain) new.overlays;
  }

  abbrev left : World ℕ
  left = left_by (with_store old base) task permit

  module _ (there : IsHeld left_value) (becomes : SameWorlds (left_by (with_store old base) task permit)
      (world_of left_value)) (were : (entry : stored.OverlayEntry) → Among entry new.overlays
      → (was : stored.OverlayEntry) × Among was old.overlays × (was.count ≡ entry.count)
      × (was.overlay ≡ entry.overlay)) where
    module _ (entry : stored.OverlayEntry) (m : Among entry new.overlays) where
      kept : Among (overlay_of_store old.plain entry) (map (overlay_of_store old.plain) new.overlays)
      kept = among-map (overlay_of_store old.plain) new.overlays entry m

      before : ShowsLayers (world_of (with_store old base)) old.plain entry.overlay
      before =
          let one = were entry m in
          let shown = layers_shown_well held (overlay_of_store old.plain one.0)
          (among-map (overlay_of_store old.plain) old.overlays one.0 one.1) entry.overlay.lowers
          (lowers_are one.0 (kept_lower base old held one.0 one.1)
          ∙ ap (λ (overlay : OverlayValue). map layer_seen overlay.lowers) one.3) in
          record { are = shown.0; all = shown.1 }

      -- it has no upper layer
      low : entry.above ≡ None
      low = lower_of entry.overlay entry.above (fits there (overlay_of_store old.plain entry) kept).0
          (has_no_upper there (overlay_of_store old.plain entry) kept)

      after : ShowsLayers (left_by (with_store old base) task permit) new.plain entry.overlay
      after =
          let shown = layers_shown_well there (overlay_of_store old.plain entry) kept entry.overlay.lowers
          (lowers_are entry low) in
          record {
            are = shown.0;
            all = shown_before becomes new.plain entry.overlay.lowers shown.1;
          }

      -- in the world before it is the overlay whose layers these are
      was_overlay : (filesystem_numbered nat_eq (world_of (with_store old base)) (counted entry.count)).overlay
          ≡ Some (with_objects old.plain entry.overlay)
      was_overlay =
          let one = were entry m in
          ap (λ count. (filesystem_numbered nat_eq (world_of (with_store old base)) (counted count)).overlay)
          (sym one.2) ∙ ap (λ (f : Filesystem ℕ). f.overlay) (overlay_found base old held one.0 one.1)
          ∙ subst (λ (overlay : OverlayValue). (overlay_seen (overlay_of_store old.plain
          (record one.0 { overlay = overlay }))).overlay ≡ Some (with_objects old.plain entry.overlay)) (sym one.3)
          (ap (λ one. (overlay_seen one).overlay) (stored_are (record one.0 { overlay = entry.overlay })
          (kept_lower base old held one.0 one.1) old.plain)
          ∙ (λ i. Some (record (with_objects old.plain entry.overlay) {
            real = inodes_have_their_objects old.plain entry.overlay before.are i;
          })))

      -- and is there in the world after it
      is_left : is_overlay (filesystem_numbered nat_eq (left_by (with_store old base) task permit)
          (counted entry.count)) ≡ true
      is_left =
          let among = overlay_among left_value there.overlays (overlay_seen (overlay_of_store old.plain entry))
          (among-map overlay_seen (map (overlay_of_store old.plain) new.overlays) (overlay_of_store old.plain entry)
          kept) in
          let alike = found_same (counted entry.count) left.filesystems (world_of left_value).filesystems
          becomes.filesystems in
          cc (
            alike.overlay,
            found_filesystem (world_of left_value).filesystems there.in_world.files.one_filesystem
                (overlay_seen (overlay_of_store old.plain entry)) among.0,
          )

      shown_alike : IsShownAlike old.plain new.plain entry.overlay
      shown_alike =
          kept_overlays_stay (world_of (with_store old base)) (supply_of (with_store old base) permit) task permit
          old.plain new.plain entry.overlay (counted entry.count) held.in_world held.overlays.read_only
          held.overlays.named given was_overlay is_left before after

      one_stays : overlay_of_store old.plain entry ≡ overlay_of_store new.plain entry
      one_stays = stored_are entry low old.plain ∙ (λ i. record (lower_entry entry low old.plain) {
        root = (sym shown_alike.tree i).root;
        inodes = sym (inodes_stay old.plain new.plain entry.overlay shown_alike) i;
      }) ∙ sym (stored_are entry low new.plain)

    -- so the world that is left is the one that holds the other store
    pub store_stays : left_value ≡ with_store new new_base
    store_stays = ap (λ overlays. record new_base { filesystems = new.plain; overlays = overlays })
        (map_alike (overlay_of_store old.plain) (overlay_of_store new.plain) new.overlays one_stays)
