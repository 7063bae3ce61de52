-- Directories that overlap layers of overlays: the kernel's overlayfs document, "sharing and copying layers".
use Rattle.std.specs.Prelude.{Bool, List, None, Option, Some, [], false, is_some, map, nat_eq, option_to_list, slice_get, ℕ, ◌&&◌, ◌++◌, ◌∷◌, ◌||◌}
use Rattle.std.specs.List.{flat_map, list_any}
use Rattle.vt_spec.specs.FileTree.{is_under}
use Rattle.vt_spec.specs.Lists.{holds_of}
use Rattle.vt_spec.specs.Machine.World.{Layer}
use Rattle.vt_location.specs.Locations.{inode_of}
use Rattle.vt_location.specs.declared.locations.InodeRef.{InodeRef}
use Rattle.vt_fs.specs.FilesystemsValue.{Filesystems, files_at}
use Rattle.vt_layered.specs.LayeredValue.{Above}
use Rattle.vt_overlay.specs.MergedTree.{OverlayValue, layer_seen}
use Rattle.vt_overlay.specs.declared.merge.layers.LayerRef.{LayerRef}
use Rattle.vt_store.specs.Locks.{is_in_layer, keeps_in, lies_in}
use Rattle.vt_store.specs.OverlaysValue.{OverlayEntry, Overlays}
use Rattle.vt_store.specs.StoreValue.{StoreValue}

-- an inode of a plain filesystem lies in a layer of an overlay, and in a directory
abbrev pub lies_in_both : StoreValue → ℕ → ℕ → ℕ → Bool
lies_in_both store count top number =
    is_in_layer store count number && is_under nat_eq (files_at store.plain count) top number

-- and it is there
abbrev pub is_in_both : StoreValue → ℕ → ℕ → ℕ → Bool
is_in_both store count top number =
    is_some ((files_at store.plain count).tree.node number) && lies_in_both store count top number

-- so does some inode of its filesystem: rule O3
abbrev pub overlaps_live : StoreValue → ℕ → ℕ → Bool
overlaps_live store count top = list_any (lies_in_both store count top) (files_at store.plain count).numbers

-- Any directories

-- a directory as a layer
abbrev pub layer_of : InodeRef → Layer ℕ
layer_of top = layer_seen (record { directory = top })

-- an inode of a plain filesystem is a directory, lies under it, or has a name there
abbrev pub lies_under : Filesystems → ℕ → ℕ → InodeRef → Bool
lies_under plain count number top = lies_in plain count number (record { directory = top })

-- the upper directory of an overlay lies there
abbrev pub has_upper_under : Filesystems → InodeRef → OverlayValue → Option Above → Bool
has_upper_under plain top overlay None = false
has_upper_under plain top overlay (Some above) =
    holds_of (λ (upper : LayerRef). lies_under plain upper.directory.filesystem.count (inode_of upper.directory) top)
    (slice_get overlay.lowers 0)

-- and it keeps the inode without a name, which so counts as under the directory
abbrev pub keeps_under : Filesystems → ℕ → ℕ → InodeRef → OverlayEntry → Bool
keeps_under plain count number top entry =
    has_upper_under plain top entry.overlay entry.above && keeps_in count number entry

-- an inode lies or counts under a directory
abbrev pub counts_under : StoreValue → ℕ → ℕ → InodeRef → Bool
counts_under store count number top =
    lies_under store.plain count number top || list_any (keeps_under store.plain count number top) store.overlays

-- it does under one of others, too
abbrev pub counts_under_both : StoreValue → List InodeRef → InodeRef → ℕ → Bool
counts_under_both store others top number =
    counts_under store top.filesystem.count number top
    && list_any (counts_under store top.filesystem.count number) others

-- so does some inode of its filesystem: rules O2, O3, O5
abbrev pub overlaps_one_of : StoreValue → List InodeRef → InodeRef → Bool
overlaps_one_of store others top =
    list_any (counts_under_both store others top) (files_at store.plain top.filesystem.count).numbers

-- the directories to which an overlay writes: the upper one and the work directory
abbrev pub written_by : OverlayValue → Option Above → List InodeRef
written_by overlay None = []
written_by overlay (Some above) =
    map (λ (layer : LayerRef). layer.directory) (option_to_list (slice_get overlay.lowers 0) ++ (above.work ∷ []))

-- and those of all overlays
abbrev pub all_written : Overlays → List InodeRef
all_written overlays = flat_map (λ entry. written_by entry.overlay entry.above) overlays
