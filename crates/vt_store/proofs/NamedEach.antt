-- What is asked of the overlay of each number is asked of each overlay.
use Rattle.std.proofs.Common.{◌≡◌, ℕ, Bool, List, map, sym, ap, ◌∙◌}
use Rattle.vt_spec.proofs.Common.{holds_of, keys_of, list_any, lookup}
use Rattle.std.specs.List.{IsDistinct}
use Rattle.vt_location.specs.declared.numbers.FilesystemId.{FilesystemId}
use Rattle.vt_location.proofs.AskedLemmas.{any_mapped, any_same, asked-in_order, holds_mapped}
use Rattle.vt_overlay.specs.MergedTree.{OverlayValue}
use Rattle.vt_store.specs.declared.overlays.KeptOverlay.{KeptOverlay}
use Rattle.vt_store.specs.Named.{NameEach, NameEntries}
use Rattle.vt_store.specs.OverlaysValue.{OverlayEntry, entry_kept, kept_overlay, kept_overlays, overlay_of}
use Rattle.vt_store.proofs.KeptOverlays.{count_of, entry_kept-kept, in_order, is_key, key_eq, of_count}

module _ (test : ℕ → OverlayValue → Bool) where
  abbrev passes : FilesystemId × KeptOverlay → Bool
  passes one = test one.0.count one.1.overlay.overlay

  listed : (kept : List (FilesystemId × KeptOverlay))
      → list_any passes kept ≡ list_any (λ (entry : OverlayEntry). test entry.count entry.overlay) (map kept_overlay kept)
  listed kept = sym (any_mapped (λ (entry : OverlayEntry). test entry.count entry.overlay) kept_overlay kept)

  asked : (es : List (FilesystemId × KeptOverlay)) (id : FilesystemId)
      → holds_of (test id.count) (overlay_of (kept_overlays es) id.count)
      ≡ holds_of (λ one. passes (id, one)) (lookup (is_key id.count) es)
  asked es id =
      holds_mapped (test id.count) (λ (entry : OverlayEntry). entry.overlay) _
      ∙ ap (holds_of (λ (entry : OverlayEntry). test id.count entry.overlay)) (entry_kept-kept id.count es)
      ∙ holds_mapped (λ (entry : OverlayEntry). test id.count entry.overlay) (of_count id.count) (lookup (is_key id.count) es)

-- the same of what is kept beside layers
module _ (test : OverlayEntry → Bool) where
  abbrev entry_passes : FilesystemId × KeptOverlay → Bool
  entry_passes one = test (kept_overlay one)

  entry_asked : (es : List (FilesystemId × KeptOverlay)) (id : FilesystemId)
      → holds_of test (entry_kept (kept_overlays es) id.count)
      ≡ holds_of (λ one. entry_passes (id, one)) (lookup (is_key id.count) es)
  entry_asked es id = ap (holds_of test) (entry_kept-kept id.count es)
      ∙ holds_mapped test (of_count id.count) (lookup (is_key id.count) es)

pub name_entries : (es : List (FilesystemId × KeptOverlay)) → IsDistinct key_eq (keys_of es)
    → NameEntries (keys_of es) (kept_overlays es)
name_entries es distinct test = any_same _ _ (entry_asked test es) (keys_of es)
    ∙ asked-in_order count_of (entry_passes test) es distinct
    ∙ sym (any_mapped test kept_overlay (in_order es))

pub name_each : (es : List (FilesystemId × KeptOverlay)) → IsDistinct key_eq (keys_of es)
    → NameEach (keys_of es) (kept_overlays es)
name_each es distinct test = any_same _ _ (asked test es) (keys_of es)
    ∙ asked-in_order count_of (passes test) es distinct ∙ listed test (in_order es)
