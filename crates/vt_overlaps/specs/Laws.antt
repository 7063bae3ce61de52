-- What is locked, and directories that overlap layers of live overlays: the kernel's overlayfs document, "changes to
-- underlying filesystems" and "sharing and copying layers" (that a layer in use is locked is the profile's).
use Rattle.std.specs.Prelude.{All, Bool, List, None, map, nat_eq, not, true, ℕ, ◌∷◌, ◌≡◌}
use Rattle.std.specs.List.{list_all, list_any}
use Rattle.vt_spec.specs.Lists.{is_among}
use Rattle.vt_spec.specs.Machine.Invariants.{IsWorld}
use Rattle.vt_spec.specs.Machine.Locked.{is_locked, live_layers, live_upper_and_work, overlaps_one_of}
use Rattle.vt_spec.specs.Machine.World.{World, filesystem_numbered, is_overlay}
use Rattle.vt_laws_kept.specs.Kept.{kept_in, objects_kept}
use Rattle.vt_fs.specs.FilesystemsValue.{files_at}
use Rattle.vt_location.specs.Numbers.{counted}
use Rattle.vt_location.specs.declared.locations.InodeRef.{InodeRef}
use Rattle.vt_store.specs.Locks.{is_in_layer, keeps_in}
use Rattle.vt_store.specs.OverlaysValue.{OverlayEntry}
use Rattle.vt_store.specs.StoreValue.{StoreValue, filesystems_of, layered_in, overlay_filesystem}
use Rattle.vt_overlaps.specs.Overlaps as found
use Rattle.vt_overlaps.specs.Overlaps.{all_written, layer_of, overlaps_live}

-- A world has the filesystems of a store, and its overlays keep without a name what those of the store do.
pub record IsOfStore (store : StoreValue) (world : World ℕ) : Type 0 where
  pub filesystems : world.filesystems ≡ filesystems_of store
  pub kept : (count number : ℕ) → list_any (keeps_in count number) store.overlays
      ≡ is_among nat_eq number (kept_in world (counted count))

-- It is so of read-only overlays, which keep nothing.
abbrev pub ReadOnlyOverlaysKeepNothing : Type 0
ReadOnlyOverlaysKeepNothing =
    (store : StoreValue) (world : World ℕ) → world.filesystems ≡ filesystems_of store
    → All (λ (entry : OverlayEntry). entry.above ≡ None) store.overlays → IsOfStore store world

-- Then what lies in layers of the store is what the world locks: rule L1.
abbrev pub LocksAreThoseOfTheWorld : Type 0
LocksAreThoseOfTheWorld =
    (store : StoreValue) (world : World ℕ) (count number : ℕ) → IsWorld nat_eq world → IsOfStore store world
    → is_in_layer store count number ≡ is_locked nat_eq world (counted count) number

-- A plain filesystem of a store is one of a world, and what lies in layers there is what the world locks.
pub record IsLockedAlike (store : StoreValue) (world : World ℕ) (count : ℕ) : Type 0 where
  pub files : (filesystem_numbered nat_eq world (counted count)).files ≡ files_at store.plain count
  pub locked : (number : ℕ) → is_in_layer store count number ≡ is_locked nat_eq world (counted count) number

-- Then some inode lies in a directory of it and in a layer just if the directory, as an upper or a work directory,
-- overlaps a layer of a live overlay: rule O3.
abbrev pub OverlapsAreWithLiveLayers : Type 0
OverlapsAreWithLiveLayers =
    (store : StoreValue) (world : World ℕ) (count top : ℕ) → IsWorld nat_eq world → IsLockedAlike store world count
    → overlaps_live store count top
    ≡ overlaps_one_of nat_eq world (live_layers world) (record { filesystem = counted count; directory = top })

-- So it is of each plain filesystem of a store whose world has its filesystems.
abbrev pub PlainFilesystemsAreLockedAlike : Type 0
PlainFilesystemsAreLockedAlike =
    (store : StoreValue) (world : World ℕ) (count : ℕ) → IsWorld nat_eq world → IsOfStore store world
    → layered_in store count ≡ None → IsLockedAlike store world count

-- A world has the filesystems of a store, and each overlay keeps without a name what it does in the store.
pub record KeepsAsStored (store : StoreValue) (world : World ℕ) : Type 0 where
  pub filesystems : world.filesystems ≡ filesystems_of store
  pub kept : All (λ (entry : OverlayEntry). (count number : ℕ) → keeps_in count number entry
      ≡ is_among nat_eq number (objects_kept (counted count) (overlay_filesystem store.plain entry))) store.overlays

-- It is so of read-only overlays.
abbrev pub ReadOnlyOverlaysKeepAsStored : Type 0
ReadOnlyOverlaysKeepAsStored =
    (store : StoreValue) (world : World ℕ) → world.filesystems ≡ filesystems_of store
    → All (λ (entry : OverlayEntry). entry.above ≡ None) store.overlays → KeepsAsStored store world

-- a directory is in no overlay of a world
abbrev pub is_plain : World ℕ → InodeRef → Bool
is_plain world top = not (is_overlay (filesystem_numbered nat_eq world (counted top.filesystem.count)))

-- Then a directory of a plain filesystem overlaps one of others just if it does in the world: rules O2 and O5.
abbrev pub DirectoriesOverlapAlike : Type 0
DirectoriesOverlapAlike =
    (store : StoreValue) (world : World ℕ) (others : List InodeRef) (top : InodeRef) → IsWorld nat_eq world
    → KeepsAsStored store world → list_all (is_plain world) (top ∷ others) ≡ true
    → found.overlaps_one_of store others top ≡ overlaps_one_of nat_eq world (map layer_of others) (layer_of top)

-- And it overlaps one to which an overlay writes just if it overlaps an upper or a work directory of a live overlay:
-- rule O3 of a lower layer.
abbrev pub WrittenOverlapAlike : Type 0
WrittenOverlapAlike =
    (store : StoreValue) (world : World ℕ) (top : InodeRef) → IsWorld nat_eq world → KeepsAsStored store world
    → is_plain world top ≡ true
    → found.overlaps_one_of store (all_written store.overlays) top
    ≡ overlaps_one_of nat_eq world (live_upper_and_work world) (layer_of top)
