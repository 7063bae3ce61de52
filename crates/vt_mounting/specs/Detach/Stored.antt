-- Mounts, and a store of filesystems, as they are counted.
use Rattle.std.specs.Prelude.{All, Bool, List, None, false, filter, map, nat_eq, ℕ, ◌≡◌}
use Rattle.std.specs.List.{list_any}
use Rattle.vt_fs.specs.FilesystemsValue.{Shown, shown}
use Rattle.vt_laws_mounts.specs.LettingGo.OneByOne.{Inode}
use Rattle.vt_location.specs.Locations.{inode_of}
use Rattle.vt_location.specs.Numbers.{counted}
use Rattle.vt_overlay.specs.declared.merge.layers.LayerRef.{LayerRef}
use Rattle.vt_mount.specs.MountsValue.{MountEntry}
use Rattle.vt_layered.specs.LayeredValue.{LayeredValue}
use Rattle.vt_store.specs.OverlaysValue.{OverlayEntry, Overlays, layers_held}
use Rattle.vt_store.specs.StoreValue.{StoreValue}
use Rattle.vt_mounting.specs.Detach.Uses.{Kept, Merged, kept_with}

-- a layer by the inode of its directory
abbrev pub layer_of : LayerRef → Inode
layer_of layer = (counted layer.directory.filesystem.count, inode_of layer.directory)

-- an overlay of a store as it is counted
abbrev pub merged_of : OverlayEntry → Merged
merged_of entry =
    record { number = counted entry.count; mounts = entry.mounts; layers = map layer_of (layers_held entry) }

-- mounts with a store
abbrev pub kept : List MountEntry → StoreValue → Kept
kept mounts store = kept_with mounts store.plain (map merged_of store.overlays)

-- the overlays under their counts, with their layers and who mounted them
abbrev pub layered_kept : OverlayEntry → ℕ × LayeredValue
layered_kept entry = (entry.count, record { overlay = entry.overlay; above = entry.above })

abbrev pub under_counts : Overlays → List (ℕ × LayeredValue)
under_counts overlays = map layered_kept overlays

-- some of them are left, in their order
abbrev pub OverlaysLeft : Overlays → Overlays → Type 0
OverlaysLeft old new = (stays : ℕ × LayeredValue → Bool) × (under_counts new ≡ filter stays (under_counts old))

-- or all, and none comes
abbrev pub OverlaysStay : Overlays → Overlays → Type 0
OverlaysStay old new = under_counts new ≡ under_counts old

-- some filesystem has this count
abbrev pub has_count : ℕ → List Shown → Bool
has_count count all = list_any (λ (one : Shown). nat_eq count one.count) all

-- An overlay counts no uses of its nodes, as it has no upper layer; and no plain filesystem has its number.
pub record CountsNoUses (plain : List Shown) (one : ℕ × LayeredValue) : Type 0 where
  pub low : one.1.above ≡ None
  pub apart : has_count one.0 plain ≡ false

-- So do all overlays of a store: then a use of a node is one of an inode in a plain filesystem, if it is counted.
abbrev pub CountNoUses : StoreValue → Type 0
CountNoUses store = All (CountsNoUses (shown store.plain)) (under_counts store.overlays)
