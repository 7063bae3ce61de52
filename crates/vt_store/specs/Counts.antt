-- How many mounts show each filesystem of a store. A layer of an overlay is counted as a mount is.
use Rattle.std.specs.Prelude.{None, Option, Some, ℕ}
use Rattle.vt_fs.specs.FilesystemsValue.{Filesystems, entry_at, with_changed}
use Rattle.vt_store.specs.OverlaysValue.{OverlayEntry, with_overlay_changed}
use Rattle.vt_store.specs.StoreValue.{StoreValue, entry_in}

-- the mounts of an overlay, or of a plain filesystem
abbrev pub mounts_by : Filesystems → ℕ → Option OverlayEntry → ℕ
mounts_by plain count None = (entry_at plain count).mounts
mounts_by plain count (Some entry) = entry.mounts

abbrev pub mounts_in : StoreValue → ℕ → ℕ
mounts_in store count = mounts_by store.plain count (entry_in store count)

-- another number of mounts of an overlay, or of a plain filesystem
abbrev pub with_mounts_by : ℕ → (ℕ → ℕ) → StoreValue → Option OverlayEntry → StoreValue
with_mounts_by count change store None = record store {
  plain = with_changed count (λ entry. record entry { mounts = change entry.mounts }) store.plain;
}
with_mounts_by count change store (Some entry) = record store {
  overlays = with_overlay_changed count (λ one. record one { mounts = change one.mounts }) store.overlays;
}

abbrev pub with_mounts : ℕ → (ℕ → ℕ) → StoreValue → StoreValue
with_mounts count change store = with_mounts_by count change store (entry_in store count)
