-- What contracts see of all filesystems, and what the definitions see of them.
use Rattle.std.specs.Prelude.{All, List, None, Option, Some, [], find, nat_eq, option_map, ℕ, ◌∷◌}
use Rattle.vt_spec.specs.FileTree.{FileTree}
use Rattle.vt_spec.specs.Machine.World.{Filesystem, Overlay, World, filesystem_numbered}
use Rattle.vt_spec.specs.Tree.{Node}
use Rattle.vt_laws_trees.specs.Overlays.InOrder.{put_in}
use Rattle.vt_location.specs.Numbers.{counted}
use Rattle.vt_fs.specs.FilesystemsValue.{Filesystems, files_at, filesystems_seen, node_seen}
use Rattle.vt_overlay.specs.MergedTree.{OverlayValue, plain_world}
use Rattle.vt_layered.specs.LayeredTree.{StandsLayered, layered_files, layered_lent, layered_objects, layered_seen}
use Rattle.vt_layered.specs.LayeredValue.{LayeredValue}
use Rattle.vt_store.specs.OverlaysValue.{OverlayEntry, Overlays, entry_kept, layered_of, overlay_of}

-- the plain filesystems and the overlays, each in the order in which they were made
pub record StoreValue : Type 0 where
  pub plain : Filesystems
  pub overlays : Overlays

-- the overlay of a count, if there is one
abbrev pub entry_in : StoreValue → ℕ → Option OverlayEntry
entry_in store count = entry_kept store.overlays count

abbrev pub overlay_in : StoreValue → ℕ → Option OverlayValue
overlay_in store count = overlay_of store.overlays count

abbrev pub layered_in : StoreValue → ℕ → Option LayeredValue
layered_in store count = layered_of store.overlays count

-- the overlays as the definitions see them: layers, mounter, and the real object of each inode,
abbrev pub layers_and_objects : Filesystems → OverlayEntry → Overlay ℕ
layers_and_objects plain entry = record (layered_seen entry.overlay entry.above) {
  real = layered_objects plain entry.overlay entry.above;
}

-- and their trees
abbrev pub overlay_filesystem : Filesystems → OverlayEntry → Filesystem ℕ
overlay_filesystem plain entry = record {
  number = counted entry.count;
  files = layered_files plain entry.overlay entry.above;
  overlay = Some (layers_and_objects plain entry);
  change = 0;
}

-- all filesystems, in the order in which they were made
abbrev pub woven : Filesystems → Overlays → List (Filesystem ℕ)
woven plain [] = filesystems_seen plain
woven plain (entry ∷ rest) = put_in (overlay_filesystem plain entry) (woven plain rest)

abbrev pub filesystems_of : StoreValue → List (Filesystem ℕ)
filesystems_of store = woven store.plain store.overlays

-- a world of these filesystems alone
abbrev pub store_world : StoreValue → World ℕ
store_world store = record (plain_world store.plain) { filesystems = filesystems_of store }

-- the filesystem of a count, if there is one, and its root directory
abbrev pub filesystem_found : StoreValue → ℕ → Option (Filesystem ℕ)
filesystem_found store count = find (λ one. nat_eq (counted count) one.number) (filesystems_of store)

abbrev pub root_in : StoreValue → ℕ → Option ℕ
root_in store count = option_map (λ one. one.files.tree.root) (filesystem_found store count)

-- the filesystem of a count, and its tree
abbrev pub filesystem_in : StoreValue → ℕ → Filesystem ℕ
filesystem_in store count = filesystem_numbered nat_eq (store_world store) (counted count)

abbrev pub files_in : StoreValue → ℕ → FileTree ℕ
files_in store count = (filesystem_in store count).files

-- an overlay has layers that are directories of plain trees: one at least, and not too many; and with an upper layer what
-- it keeps is right
abbrev pub StandsOnLayers : Filesystems → OverlayEntry → Type 0
StandsOnLayers plain entry = StandsLayered plain entry.overlay entry.above

-- and so have all
abbrev pub StandOnLayers : StoreValue → Type 0
StandOnLayers store = All (StandsOnLayers store.plain) store.overlays

-- what is lent for a node: an inode of a plain tree by its slots, or the real object
abbrev pub lent_by : Filesystems → ℕ → ℕ → Option LayeredValue → Option (Node ℕ)
lent_by plain count number None = option_map (node_seen count) ((files_at plain count).tree.node number)
lent_by plain count number (Some layered) = layered_lent plain layered.overlay layered.above number

abbrev pub lent_in : StoreValue → ℕ → ℕ → Option (Node ℕ)
lent_in store count number = lent_by store.plain count number (layered_in store count)
