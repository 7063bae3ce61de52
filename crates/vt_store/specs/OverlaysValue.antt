-- What contracts see of the overlays that are kept.
use Rattle.std.specs.Prelude.{All, List, Option, Some, filter, find, if◌then◌else◌, map, nat_eq, not, option_map, ℕ, ◌≡◌}
use Rattle.std.specs.List.{flat_map}
use Rattle.std.specs.Map.{lookup}
use Rattle.vt_location.specs.declared.numbers.FilesystemId.{FilesystemId}
use Rattle.vt_location.specs.InOrder.{in_order_by}
use Rattle.vt_overlay.specs.declared.merge.layers.LayerRef.{LayerRef}
use Rattle.vt_overlay.specs.MergedTree.{OverlayValue}
use Rattle.vt_layered.specs.LayeredValue.{Above, KeepsItsOwn, LayeredValue, held_layers}
use Rattle.vt_store.specs.declared.layer_counts.LayerCounts.{LayerCounts}
use Rattle.vt_store.specs.declared.overlays.KeptOverlay.{KeptOverlay}
use Rattle.vt_store.specs.LayersAt.{AreCounted}
use Rattle.vt_store.specs.Numbered.{AreNotOlder}

-- an overlay, the count of its filesystem, and how many mounts show it; beside its layers what it has more if the first
-- of them is an upper one
pub record OverlayEntry : Type 0 where
  pub count : ℕ
  pub overlay : OverlayValue
  pub above : Option Above
  pub mounts : ℕ

-- the directories that it holds: its layers, and the work directory
abbrev pub layers_held : OverlayEntry → List LayerRef
layers_held entry = held_layers entry.overlay entry.above

-- the overlays, in the order in which they were made
abbrev pub Overlays : Type 0
Overlays = List OverlayEntry

-- each overlay under its count
abbrev pub kept_overlay : FilesystemId × KeptOverlay → OverlayEntry
kept_overlay kept = record {
  count = kept.0.count;
  overlay = kept.1.overlay.overlay;
  above = kept.1.overlay.above;
  mounts = kept.1.mounts;
}

abbrev pub entries_kept : List (FilesystemId × KeptOverlay) → Overlays
entries_kept kept = map kept_overlay kept

-- those that are kept by hash, in the order of their counts
abbrev pub kept_overlays : List (FilesystemId × KeptOverlay) → Overlays
kept_overlays kept = entries_kept (in_order_by (λ id. id.count) kept)

-- each is kept under its own number
abbrev pub AreOwn : List (FilesystemId × KeptOverlay) → Type 0
AreOwn kept =
    (id : FilesystemId) (one : KeptOverlay) → lookup (λ other. nat_eq id.count other.count) kept ≡ Some one
    → one.overlay.overlay.number ≡ id

-- what each keeps without a name is its own
abbrev pub KeepTheirOwn : Overlays → Type 0
KeepTheirOwn overlays = All (λ entry. KeepsItsOwn entry.overlay entry.above) overlays

-- the layers of all overlays
abbrev pub all_layers : Overlays → List LayerRef
all_layers overlays = flat_map layers_held overlays

-- each overlay is kept under its own number, none is older than this number, their layers are counted, and what they keep
-- is their own
pub record AreKept (kept : List (FilesystemId × KeptOverlay)) (counts : LayerCounts) (oldest : ℕ) : Type 0 where
  pub own : AreOwn kept
  pub older : AreNotOlder oldest kept
  pub layers : AreCounted (all_layers (kept_overlays kept)) counts
  pub nodes : KeepTheirOwn (kept_overlays kept)

abbrev pub entry_kept : Overlays → ℕ → Option OverlayEntry
entry_kept overlays count = find (λ entry. nat_eq count entry.count) overlays

-- the overlay of a count
abbrev pub overlay_of : Overlays → ℕ → Option OverlayValue
overlay_of overlays count = option_map (λ entry. entry.overlay) (entry_kept overlays count)

-- and with what it has more
abbrev pub layered_of : Overlays → ℕ → Option LayeredValue
layered_of overlays count =
    option_map (λ entry. record { overlay = entry.overlay; above = entry.above }) (entry_kept overlays count)

-- the overlays with that of a count changed
abbrev pub overlay_changed_if : ℕ → (OverlayEntry → OverlayEntry) → OverlayEntry → OverlayEntry
overlay_changed_if count change entry = if nat_eq count entry.count then change entry else entry

abbrev pub with_overlay_changed : ℕ → (OverlayEntry → OverlayEntry) → Overlays → Overlays
with_overlay_changed count change overlays = map (overlay_changed_if count change) overlays

-- the overlays without that of a count
abbrev pub without_overlay : ℕ → Overlays → Overlays
without_overlay count overlays = filter (λ entry. not (nat_eq count entry.count)) overlays
