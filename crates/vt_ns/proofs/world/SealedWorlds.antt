-- What is looked at to tell whether tasks are sealed off is what the world shows.
use Rattle.std.proofs.Common.{◌≡◌, ℕ, nat_eq, [], ◌∷◌, map, Option, None, Some, is_some, true, unwrap_or, refl, sym, ap, ◌∙◌}
use Rattle.vt_spec.proofs.Common.{Filesystem, filesystem_numbered, found_among}
use Rattle.vt_fs.proofs.Standing.{count_found}
use Rattle.vt_fs.specs.FilesystemsValue.{files_seen}
use Rattle.vt_layered.specs.LayeredTree.{layered_seen}
use Rattle.vt_layered.specs.LayeredValue.{Above}
use Rattle.vt_overlay.specs.MergedTree.{OverlayValue}
use Rattle.vt_mounting.proofs.detach.Overlaid.{overlays_are}
use Rattle.vt_sealing.specs.Seen.{layers_seen, overlays_without_trees, without_tree}
use Rattle.vt_store.specs.OverlaysValue.{Overlays}
use Rattle.vt_ns.proofs.Common.{FilesystemEntry, Filesystems, IsHeld, StoreValue, WorldValue, counted, entry_of, files_at, found_plain_one, no_entry, overlay_of_store, overlays_seen, with_store, world_of}

-- an overlay has no real objects beside its tree
without_objects_seen : (overlay : OverlayValue) (above : Option Above)
    → record (layered_seen overlay above) { mounter = overlay.mounter; real = λ number. None }
    ≡ layered_seen overlay above
without_objects_seen overlay None = refl
without_objects_seen overlay (Some above) = refl

-- overlays without their trees
layers_alone : (plain : Filesystems) (overlays : Overlays)
    → map without_tree (overlays_seen (map (overlay_of_store plain) overlays)) ≡ map layers_seen overlays
layers_alone plain [] = refl
layers_alone plain (entry ∷ rest) = λ i.
    record (layers_seen entry) { overlay = Some (without_objects_seen entry.overlay entry.above i) }
    ∷ layers_alone plain rest i

module _ (base : WorldValue) (store : StoreValue) (held : IsHeld (with_store store base)) where
  pub overlays_looked : map layers_seen store.overlays ≡ overlays_without_trees (world_of (with_store store base))
  overlays_looked = sym (ap (map without_tree) (overlays_are (with_store store base) held.overlays)
      ∙ layers_alone store.plain store.overlays)

  -- the tree of a plain filesystem that is there
  pub trees_looked : (count : ℕ) → is_some (entry_of store.plain count) ≡ true
      → files_at store.plain count ≡ (filesystem_numbered nat_eq (world_of (with_store store base)) (counted count)).files
  trees_looked count there = by (entry_of store.plain count) refl there
    where
      by : (o : Option FilesystemEntry) → entry_of store.plain count ≡ o → is_some o ≡ true
          → files_at store.plain count
          ≡ (filesystem_numbered nat_eq (world_of (with_store store base)) (counted count)).files
      by None is some = cc
      by (Some entry) is some =
          let here : entry.count ≡ count = count_found store.plain count entry is in
          let found = found_plain_one (with_store store base) held entry (found_among _ store.plain entry is) in
          ap (λ (o : Option FilesystemEntry). files_seen (unwrap_or o (no_entry count))) is
          ∙ sym (ap (λ (f : Filesystem ℕ). f.files) found)
          ∙ ap (λ n. (filesystem_numbered nat_eq (world_of (with_store store base)) (counted n)).files) here
