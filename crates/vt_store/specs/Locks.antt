-- What lies in layers of overlays, and is locked: the kernel's overlayfs document, "changes to underlying filesystems".
use Rattle.std.specs.Prelude.{Bool, List, nat_eq, ℕ, ◌&&◌, ◌||◌}
use Rattle.std.specs.List.{list_any}
use Rattle.vt_spec.specs.FileTree.{has_entry_to, is_directory_under, is_under}
use Rattle.vt_location.specs.Locations.{inode_of}
use Rattle.vt_fs.specs.FilesystemsValue.{Filesystems, files_at}
use Rattle.vt_overlay.specs.declared.merge.layers.LayerRef.{LayerRef}
use Rattle.vt_store.specs.LayerTests.{stands_in}
use Rattle.vt_layered.specs.LayeredValue.{keeps_object}
use Rattle.vt_location.specs.Numbers.{exchanged}
use Rattle.vt_store.specs.OverlaysValue.{OverlayEntry, layers_held}
use Rattle.vt_store.specs.StoreValue.{StoreValue}

-- an inode of a plain filesystem is the directory of a layer, lies under it, or has a name there
abbrev pub lies_in : Filesystems → ℕ → ℕ → LayerRef → Bool
lies_in plain count number layer =
    nat_eq count layer.directory.filesystem.count
    && is_under nat_eq (files_at plain count) (inode_of layer.directory) number

-- an overlay keeps it without a name: it counts as under the upper directory
abbrev pub keeps_in : ℕ → ℕ → OverlayEntry → Bool
keeps_in count number entry = keeps_object entry.overlay entry.above
    (record { filesystem = record { count = count }; slot = exchanged count number })

-- it lies in some layer of an overlay
abbrev pub lies_in_overlay : Filesystems → ℕ → ℕ → OverlayEntry → Bool
lies_in_overlay plain count number entry = list_any (lies_in plain count number) (layers_held entry)

-- or of one of all overlays
abbrev pub is_in_layer : StoreValue → ℕ → ℕ → Bool
is_in_layer store count number =
    list_any (lies_in_overlay store.plain count number) store.overlays
    || list_any (keeps_in count number) store.overlays

-- a layer of an overlay is in a filesystem
abbrev pub overlay_stands_in : ℕ → OverlayEntry → Bool
overlay_stands_in count entry = list_any (stands_in count) (layers_held entry)

-- a directory is that of a layer, or lies under it
abbrev pub directory_lies_in : Filesystems → ℕ → ℕ → LayerRef → Bool
directory_lies_in plain count directory layer =
    nat_eq count layer.directory.filesystem.count
    && is_directory_under nat_eq (files_at plain count) (inode_of layer.directory) directory

abbrev pub directory_lies_in_overlay : Filesystems → ℕ → ℕ → OverlayEntry → Bool
directory_lies_in_overlay plain count directory entry =
    list_any (directory_lies_in plain count directory) (layers_held entry)

-- a directory has a name for a file, and lies in some layer
abbrev pub names_in_layer : Filesystems → List OverlayEntry → ℕ → ℕ → ℕ → Bool
names_in_layer plain overlays count file directory =
    has_entry_to nat_eq (files_at plain count).tree directory file
    && list_any (directory_lies_in_overlay plain count directory) overlays
