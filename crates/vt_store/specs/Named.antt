-- The numbers of all overlays.
use Rattle.std.specs.Prelude.{Bool, List, ℕ, ◌≡◌}
use Rattle.std.specs.List.{list_any}
use Rattle.vt_spec.specs.Lists.{holds_of}
use Rattle.vt_location.specs.declared.numbers.FilesystemId.{FilesystemId}
use Rattle.vt_overlay.specs.MergedTree.{OverlayValue}
use Rattle.vt_store.specs.OverlaysValue.{OverlayEntry, Overlays, entry_kept, overlay_of}

-- These are the numbers of all overlays, in whatever order: some overlay of theirs passes a test just if some overlay
-- does.
abbrev pub NameEach : List FilesystemId → Overlays → Type 0
NameEach ids overlays =
    (test : ℕ → OverlayValue → Bool)
    → list_any (λ id. holds_of (test id.count) (overlay_of overlays id.count)) ids
    ≡ list_any (λ entry. test entry.count entry.overlay) overlays

-- The same of a test that sees what is kept beside layers, too.
abbrev pub NameEntries : List FilesystemId → Overlays → Type 0
NameEntries ids overlays =
    (test : OverlayEntry → Bool) → list_any (λ id. holds_of test (entry_kept overlays id.count)) ids
    ≡ list_any test overlays
