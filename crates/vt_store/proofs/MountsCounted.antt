-- How many mounts show an overlay, or a plain filesystem.
use Rattle.std.proofs.Common.{◌≡◌, ◌∙◌, ◌∷◌, [], ap, Bool, cond, false, get_or, nat_eq, None, Option, refl, Some, true, unwrap_or, ℕ, All, arith}
use Rattle.vt_spec.proofs.Common.{All-cons, All-head, All-tail, common_steps}
use Rattle.vt_laws_trees.specs.Overlays.InOrder.{put_in}
use Rattle.vt_fs.specs.FilesystemsValue.{FilesystemEntry, Filesystems, entry_of, files_at, files_seen, filesystem_seen, filesystems_seen, no_entry, with_changed}
use Rattle.vt_overlay.specs.declared.merge.layers.LayerRef.{LayerRef}
use Rattle.vt_layered.specs.LayeredValue.{Above}
use Rattle.vt_store.specs.Counts.{with_mounts_by}
use Rattle.vt_store.specs.Laws.{IsSameLayer, MountsAreNotSeen, MountsLeaveLayers, StaysBy}
use Rattle.vt_store.specs.OverlaysValue.{OverlayEntry, Overlays, with_overlay_changed}
use Rattle.vt_store.specs.StoreValue.{StandOnLayers, StandsOnLayers, entry_in, filesystems_of, overlay_filesystem, woven}
use Rattle.vt_store.proofs.LayersStanding.{overlays_stand_still}
use Rattle.vt_store.proofs.OverlaysAlike.{overlays_stay_with_layers}

-- Filesystems are seen as they were

module _ (count : ℕ) (change : ℕ → ℕ) where
  abbrev more : Filesystems → Filesystems
  more plain = with_changed count (λ entry. record entry { mounts = change entry.mounts }) plain

  abbrev one_more : FilesystemEntry → Bool → FilesystemEntry
  one_more entry b = cond b (record entry { mounts = change entry.mounts }) entry

  filesystems_same : (plain : Filesystems) → filesystems_seen (more plain) ≡ filesystems_seen plain
  filesystems_same [] = refl
  filesystems_same (entry ∷ rest) = λ i. by (nat_eq count entry.count) i ∷ filesystems_same rest i
    where
      by : (b : Bool) → filesystem_seen (one_more entry b) ≡ filesystem_seen entry
      by true = refl
      by false = refl

  files_same : (other : ℕ) (plain : Filesystems) → files_at (more plain) other ≡ files_at plain other
  files_same other [] = refl
  files_same other (entry ∷ rest) =
      ap (λ n. files_seen (unwrap_or (cond (nat_eq other n) (Some (one_more entry (nat_eq count entry.count)))
      (entry_of (more rest) other)) (no_entry other))) (kept (nat_eq count entry.count))
      ∙ by (nat_eq count entry.count) (nat_eq other entry.count) (files_same other rest)
    where
      kept : (b : Bool) → (one_more entry b).count ≡ entry.count
      kept b = grind (arith, common_steps)

      by : (b c : Bool) → files_at (more rest) other ≡ files_at rest other
          → files_seen (unwrap_or (cond c (Some (one_more entry b)) (entry_of (more rest) other)) (no_entry other))
          ≡ files_seen (unwrap_or (cond c (Some entry) (entry_of rest other)) (no_entry other))
      by true true later = refl
      by false true later = refl
      by true false later = later
      by false false later = later

  same_layer : (plain : Filesystems) (layer : LayerRef) → IsSameLayer plain (more plain) layer
  same_layer plain layer =
      let same = files_same layer.directory.filesystem.count plain in
      grind (arith, common_steps)

  woven_plain : (plain : Filesystems) (overlays : Overlays) → All (StandsOnLayers plain) overlays
      → woven (more plain) overlays ≡ woven plain overlays
  woven_plain plain [] all = filesystems_same plain
  woven_plain plain (entry ∷ overlays) all = λ i. put_in (overlays_stay_with_layers plain (more plain) entry
      (All-head (StandsOnLayers plain) entry overlays all).layers
      (λ place default within. same_layer plain (get_or entry.overlay.lowers place default)) i)
      (woven_plain plain overlays (All-tail (StandsOnLayers plain) entry overlays all) i)

  woven_overlays : (plain : Filesystems) (overlays : Overlays)
      → woven plain (with_overlay_changed count (λ one. record one { mounts = change one.mounts }) overlays)
      ≡ woven plain overlays
  woven_overlays plain [] = refl
  woven_overlays plain (entry ∷ overlays) =
      λ i. put_in (by (nat_eq count entry.count) i) (woven_overlays plain overlays i)
    where
      by : (b : Bool) → overlay_filesystem plain (cond b (record entry { mounts = change entry.mounts }) entry)
          ≡ overlay_filesystem plain entry
      by true = refl
      by false = refl

  -- overlays stand on their layers
  stands_plain : (plain : Filesystems) (entry : OverlayEntry) → StandsOnLayers plain entry
      → StandsOnLayers (more plain) entry
  stands_plain plain entry stands = overlays_stand_still plain (more plain) entry stands (stay entry.above)
    where
      stay : (above : Option Above) → All (StaysBy plain (more plain) above) entry.overlay.lowers
      stay None = λ place default within. (same_layer plain (get_or entry.overlay.lowers place default)).tree
      stay (Some above) = λ place default within. same_layer plain (get_or entry.overlay.lowers place default)

  stand_plain : (plain : Filesystems) (overlays : Overlays) → All (StandsOnLayers plain) overlays
      → All (StandsOnLayers (more plain)) overlays
  stand_plain plain overlays all = λ place default within.
      stands_plain plain (get_or overlays place default) (all place default within)

  stand_overlays : (plain : Filesystems) (overlays : Overlays) → All (StandsOnLayers plain) overlays
      → All (StandsOnLayers plain)
      (with_overlay_changed count (λ one. record one { mounts = change one.mounts }) overlays)
  stand_overlays plain [] all = all
  stand_overlays plain (entry ∷ overlays) all = All-cons (StandsOnLayers plain) _ _
      (by (nat_eq count entry.count) (All-head (StandsOnLayers plain) entry overlays all))
      (stand_overlays plain overlays (All-tail (StandsOnLayers plain) entry overlays all))
    where
      by : (b : Bool) → StandsOnLayers plain entry
          → StandsOnLayers plain (cond b (record entry { mounts = change entry.mounts }) entry)
      by true stands = stands
      by false stands = stands

pub mounts_are_not_seen : MountsAreNotSeen
mounts_are_not_seen store count change standing = by (entry_in store count)
  where
    by : (o : Option OverlayEntry) → filesystems_of (with_mounts_by count change store o) ≡ filesystems_of store
    by None = woven_plain count change store.plain store.overlays standing
    by (Some entry) = woven_overlays count change store.plain store.overlays

pub mounts_leave_layers : MountsLeaveLayers
mounts_leave_layers store count change standing = by (entry_in store count)
  where
    by : (o : Option OverlayEntry) → StandOnLayers (with_mounts_by count change store o)
    by None = stand_plain count change store.plain store.overlays standing
    by (Some entry) = stand_overlays count change store.plain store.overlays standing
