-- The tree of an overlay without an upper layer, as a function of the trees of its layers: the kernel's overlayfs
-- document, "upper and lower" and "multiple lower layers".
use Rattle.std.specs.Prelude.{List, None, Option, Some, [], false, filter_map, if◌then◌else◌, length, map, option_map, slice_get, unwrap_or, ℕ, nat_eq, ◌+◌, ◌∷◌, ◌≡◌}
use Rattle.vt_spec.specs.FileTree.{FileTree}
use Rattle.vt_spec.specs.Lists.{last_or, then_some, without_last}
use Rattle.vt_spec.specs.Machine.Invariants.{node_shown}
use Rattle.vt_spec.specs.Machine.Layers.{Shown, at_path, node_at_path, paths_from, shown}
use Rattle.vt_spec.specs.Machine.Merging.{is_root_path}
use Rattle.vt_spec.specs.Machine.World.{Layer, Overlay, Real, World}
use Rattle.vt_spec.specs.Machine.World.Real.{Lower, Upper}
use Rattle.vt_spec.specs.Rights.{Credentials}
use Rattle.vt_spec.specs.Tree.{Tree, entries_in, is_directory_node}
use Rattle.vt_spec.specs.TreeInvariant.{IsDirectory, IsTree}
use Rattle.vt_laws_trees.specs.Overlays.MergedTrees.{layers_shown, number_shown}
use Rattle.vt_laws_trees.specs.Overlays.TreesSeen.{path_numbered, tree_seen}
use Rattle.vt_node.specs.Ranks.{rank_among}
use Rattle.vt_location.specs.declared.births.Birth.{Birth}
use Rattle.vt_location.specs.declared.births.Birth.TheVariants.{Below, Here}
use Rattle.vt_location.specs.declared.locations.NodeRef.{NodeRef}
use Rattle.vt_location.specs.declared.numbers.FilesystemId.{FilesystemId}
use Rattle.vt_location.specs.Locations.{inode_of, number_of}
use Rattle.vt_location.specs.Numbers.{counted, exchanged, is_inode_of}
use Rattle.vt_fs.specs.FilesystemsValue.{Filesystems, files_at, filesystems_seen, inodes_at}
use Rattle.vt_overlay.specs.Merge.LayerValue.{layer_of, layers_of}
use Rattle.vt_overlay.specs.declared.merge.layers.LayerRef.{LayerRef}
use Rattle.vt_overlay.specs.declared.merge.layers.Real.{Real as Object}

-- an overlay: its number, its lower layers from the top, and who mounted it
pub record OverlayValue : Type 0 where
  pub number : FilesystemId
  pub lowers : List LayerRef
  pub mounter : Credentials

-- a layer is a directory of a tree, whose inodes have numbers of its filesystem
pub record IsLayer (trees : Filesystems) (layer : LayerRef) : Type 0 where
  pub tree : IsTree (files_at trees layer.directory.filesystem.count).tree
  pub directory : IsDirectory (files_at trees layer.directory.filesystem.count).tree (inode_of layer.directory)
  pub own_numbers : (number : ℕ) → is_inode_of layer.directory.filesystem.count number ≡ false
      → (inodes_at trees layer.directory.filesystem.count).inode number ≡ None

abbrev pub AreLayers : Filesystems → List LayerRef → Type 0
AreLayers trees layers =
    (place : ℕ) (layer : LayerRef) → slice_get layers place ≡ Some layer → IsLayer trees layer

-- a world of these plain filesystems alone, and the overlay in it
abbrev pub plain_world : Filesystems → World ℕ
plain_world trees = record {
  mounts = [];
  master = λ group. None;
  filesystems = filesystems_seen trees;
  namespaces = [];
  tasks = [];
  change = 0;
}

abbrev pub layer_seen : LayerRef → Layer ℕ
layer_seen layer =
    record { filesystem = counted layer.directory.filesystem.count; directory = inode_of layer.directory }

abbrev pub overlay_seen : OverlayValue → Overlay ℕ
overlay_seen overlay = record {
  upper = None;
  work = None;
  lowers = map layer_seen overlay.lowers;
  mounter = overlay.mounter;
  real = λ number. None;
}

-- the slot to which names lead from the directory of a layer
abbrev pub slot_at : Filesystems → LayerRef → List (List ℕ) → ℕ
slot_at trees layer path =
    exchanged layer.directory.filesystem.count (unwrap_or (at_path (layer_of trees layer) path) 0)

-- the rank of the last name of a path; to a directory leads one name
abbrev pub rank_at : Filesystems → LayerRef → List (List ℕ) → ℕ
rank_at trees layer path =
    if is_directory_node (node_at_path (layer_of trees layer) path) then 0
    else rank_among (entries_in (node_at_path (layer_of trees layer) (without_last path))) (last_or [] path)
    (unwrap_or (at_path (layer_of trees layer) path) 0)

-- the node that is born at a path of a lower layer; at the path without names that is the root
abbrev pub birth_at : Filesystems → ℕ → LayerRef → List (List ℕ) → Birth
birth_at trees place layer path =
    if is_root_path path then Here
    else Below place (slot_at trees layer (without_last path)) (rank_at trees layer path)

abbrev pub node_born : Filesystems → FilesystemId → ℕ → LayerRef → List (List ℕ) → NodeRef
node_born trees number place layer path =
    record { filesystem = number; slot = slot_at trees layer path; birth = birth_at trees place layer path }

-- the number of a real object; there is no upper layer
abbrev pub real_number : Filesystems → OverlayValue → Real ℕ → ℕ
real_number trees overlay (Upper object) = 0
real_number trees overlay (Lower place path) =
    unwrap_or (option_map (λ layer. number_of (node_born trees overlay.number place layer path))
    (slice_get overlay.lowers place)) 0

-- no path at which something is shown is longer
abbrev pub longest : Filesystems → List LayerRef → ℕ
longest trees [] = 0
longest trees (layer ∷ rest) =
    length (files_at trees layer.directory.filesystem.count).numbers + longest trees rest

-- the tree; without an upper layer no node loses its name
abbrev pub merged_tree : Filesystems → OverlayValue → Tree ℕ
merged_tree trees overlay =
    tree_seen (real_number trees overlay) (λ number. None) (longest trees overlay.lowers) (plain_world trees)
    (overlay_seen overlay)

-- the number of what is shown at a path
abbrev pub number_at : Filesystems → OverlayValue → List (List ℕ) → Option ℕ
number_at trees overlay path =
    number_shown (real_number trees overlay) (plain_world trees) (overlay_seen overlay) path

-- the numbers of all that is shown, and the tree with these beside it
abbrev pub numbers_shown : Filesystems → OverlayValue → List ℕ
numbers_shown trees overlay =
    filter_map (number_at trees overlay)
    (paths_from (longest trees overlay.lowers) (layers_shown (plain_world trees) (overlay_seen overlay)) [])

abbrev pub merged_files : Filesystems → OverlayValue → FileTree ℕ
merged_files trees overlay =
    record { tree = merged_tree trees overlay; numbers = numbers_shown trees overlay }

-- the path at which a node is
abbrev pub path_at : Filesystems → OverlayValue → ℕ → Option (List (List ℕ))
path_at trees overlay number =
    path_numbered (real_number trees overlay) (longest trees overlay.lowers) (plain_world trees)
    (overlay_seen overlay) number

-- the real object of a node: what the layers show at its path
abbrev pub object_shown : Filesystems → OverlayValue → ℕ → Option (Shown ℕ)
object_shown trees overlay number =
    then_some (path_at trees overlay number) (shown (layers_of trees overlay.lowers))

-- that path, if it shows a directory
abbrev pub only_of_directory : Filesystems → OverlayValue → Option (List (List ℕ)) → Option (List (List ℕ))
only_of_directory trees overlay None = None
only_of_directory trees overlay (Some path) =
    if is_directory_node (node_shown nat_eq (plain_world trees) (overlay_seen overlay) path) then Some path else None

abbrev pub directory_path : Filesystems → OverlayValue → ℕ → Option (List (List ℕ))
directory_path trees overlay number = only_of_directory trees overlay (path_at trees overlay number)

-- a node that was born here, and one that was born below
abbrev pub born_here : FilesystemId → ℕ → NodeRef
born_here number slot = record { filesystem = number; slot = slot; birth = Here }

abbrev pub born_below : FilesystemId → ℕ → ℕ → ℕ → ℕ → NodeRef
born_below number layer directory rank slot =
    record { filesystem = number; slot = slot; birth = Below layer directory rank }

-- the object in a slot of a layer's tree, with the place of the layer
abbrev pub real_in : ℕ → ℕ → LayerRef → Object
real_in place slot layer =
    record { layer = place; inode = record { filesystem = layer.directory.filesystem; slot = slot } }
