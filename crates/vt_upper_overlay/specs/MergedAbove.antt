-- The tree of an overlay with an upper layer, as a function of the trees of its layers, of its births, and of what it
-- keeps without a name: the kernel's overlayfs document, "upper and lower"; unlink(2) of what is in use.
use Rattle.std.specs.Prelude.{List, None, Option, Some, drop, filter_map, find, nat_eq, option_map, slice_get, suc, unwrap_or, ℕ, [], ◌++◌, ◌∷◌, map}
use Rattle.std.specs.Map.{keys_of}
use Rattle.vt_spec.specs.FileTree.{FileTree}
use Rattle.vt_spec.specs.Lists.{then_some}
use Rattle.vt_spec.specs.Machine.Layers.{Shown, paths_from, shown}
use Rattle.vt_spec.specs.Machine.World.{Overlay, Real}
use Rattle.vt_spec.specs.Machine.World.Real.{Lower, Upper}
use Rattle.vt_spec.specs.Tree.{Node, Tree}
use Rattle.vt_laws_trees.specs.Overlays.MergedTrees.{layers_shown, number_shown}
use Rattle.vt_laws_trees.specs.Overlays.TreesSeen.{path_numbered, tree_seen}
use Rattle.vt_location.specs.declared.births.Birth.{Birth}
use Rattle.vt_location.specs.declared.births.Birth.TheVariants.{Below, Here}
use Rattle.vt_location.specs.declared.locations.NodeRef.{NodeRef}
use Rattle.vt_location.specs.Locations.{number_of}
use Rattle.vt_location.specs.Numbers.{exchanged, inode_number}
use Rattle.vt_location.specs.SameNodes.{same_node}
use Rattle.vt_births.specs.Births.{node_above, slot_above}
use Rattle.vt_fs.specs.FilesystemsValue.{Filesystems}
use Rattle.vt_overlay.specs.Alike.{lent_at}
use Rattle.vt_overlay.specs.Merge.LayerValue.{layer_of, layers_of, seen_of}
use Rattle.vt_overlay.specs.declared.merge.layers.LayerRef.{LayerRef}
use Rattle.vt_overlay.specs.MergedTree.{layer_seen, longest, node_born, plain_world}
use Rattle.vt_upper_overlay.specs.Naming.{way_numbered}
use Rattle.vt_upper_overlay.specs.UpperValue.{UpperOverlayValue, real_at}

-- the overlay as the definitions see it
abbrev pub upper_seen : UpperOverlayValue → Overlay ℕ
upper_seen overlay = record {
  upper = option_map layer_seen (slice_get overlay.layers.lowers 0);
  work = Some (layer_seen overlay.work);
  lowers = map layer_seen (drop 1 overlay.layers.lowers);
  mounter = overlay.layers.mounter;
  real = λ number. None;
}

-- the count of the filesystem of the upper layer
abbrev pub count_of : Option LayerRef → ℕ
count_of None = 0
count_of (Some layer) = layer.directory.filesystem.count

abbrev pub upper_count : UpperOverlayValue → ℕ
upper_count overlay = count_of (slice_get overlay.layers.lowers 0)

-- The number of a real object: an inode of the upper layer is the node whose copy it is, else it was born there.
abbrev pub real_number : Filesystems → UpperOverlayValue → Real ℕ → ℕ
real_number trees overlay (Upper object) = number_of (node_above overlay.nodes.births overlay.layers.number
    (exchanged (upper_count overlay) object))
real_number trees overlay (Lower layer path) =
    unwrap_or (option_map (λ lower. number_of (node_born trees overlay.layers.number layer lower path))
    (slice_get overlay.layers.lowers (suc layer))) 0

-- What is kept without a name has its object: its copy, or what it was born as. In the lower layer that is at a path.
abbrev pub path_born : Filesystems → UpperOverlayValue → NodeRef → ℕ → LayerRef → Option (List (List ℕ))
path_born trees overlay node layer lower =
    find (λ path. same_node node (node_born trees overlay.layers.number layer lower path))
    (paths_from (longest trees (lower ∷ [])) (layer_of trees lower ∷ []) [])

abbrev pub born_object : Filesystems → UpperOverlayValue → NodeRef → Birth → Option (Real ℕ)
born_object trees overlay node Here = None
born_object trees overlay node (Below layer directory rank) =
    then_some (slice_get overlay.layers.lowers (suc layer)) (λ lower.
    option_map (λ path. Lower layer path) (path_born trees overlay node layer lower))

abbrev pub object_by : Filesystems → UpperOverlayValue → NodeRef → Option ℕ → Option (Real ℕ)
object_by trees overlay node (Some slot) = Some (Upper (inode_number (upper_count overlay) slot))
object_by trees overlay node None = born_object trees overlay node node.birth

abbrev pub object_kept : Filesystems → UpperOverlayValue → NodeRef → Option (Real ℕ)
object_kept trees overlay node = object_by trees overlay node (slot_above overlay.nodes.births node)

-- the real object of what is kept under a number
abbrev pub held : Filesystems → UpperOverlayValue → ℕ → Option (Real ℕ)
held trees overlay number =
    then_some (find (λ node. nat_eq number (number_of node)) (keys_of overlay.nodes.kept.by_node))
    (object_kept trees overlay)

-- the tree
abbrev pub merged_above : Filesystems → UpperOverlayValue → Tree ℕ
merged_above trees overlay =
    tree_seen (real_number trees overlay) (held trees overlay) (longest trees overlay.layers.lowers)
    (plain_world trees) (upper_seen overlay)

-- the number of what is shown at a path, and the path at which a node is
abbrev pub number_at : Filesystems → UpperOverlayValue → List (List ℕ) → Option ℕ
number_at trees overlay path =
    number_shown (real_number trees overlay) (plain_world trees) (upper_seen overlay) path

abbrev pub path_at : Filesystems → UpperOverlayValue → ℕ → Option (List (List ℕ))
path_at trees overlay number =
    path_numbered (real_number trees overlay) (longest trees overlay.layers.lowers) (plain_world trees)
    (upper_seen overlay) number

-- the way to a directory
abbrev pub directory_path : Filesystems → UpperOverlayValue → ℕ → Option (List (List ℕ))
directory_path trees overlay number =
    way_numbered (real_number trees overlay) (longest trees overlay.layers.lowers) (plain_world trees)
    (upper_seen overlay) number

-- what the layers show of a node
abbrev pub object_shown : Filesystems → UpperOverlayValue → ℕ → Option (Shown ℕ)
object_shown trees overlay number =
    then_some (path_at trees overlay number) (shown (layers_of trees overlay.layers.lowers))

-- an object, as the tree of its layer keeps it, its entries and its parent by slots
abbrev pub lent : Filesystems → UpperOverlayValue → Option (Shown ℕ) → Option (Node ℕ)
lent trees overlay seen =
    then_some seen (λ (one : Shown ℕ). then_some (slice_get overlay.layers.lowers one.layer) (lent_at trees one.object))

-- that of a node
abbrev pub object_lent : Filesystems → UpperOverlayValue → NodeRef → Option (Node ℕ)
object_lent trees overlay node = lent trees overlay (option_map seen_of (real_at overlay node))

-- the numbers of all that is shown or kept, and the tree with these beside it
abbrev pub numbers_there : Filesystems → UpperOverlayValue → List ℕ
numbers_there trees overlay =
    filter_map (number_at trees overlay)
    (paths_from (longest trees overlay.layers.lowers) (layers_shown (plain_world trees) (upper_seen overlay)) [])
    ++ map number_of (keys_of overlay.nodes.kept.by_node)

abbrev pub merged_files : Filesystems → UpperOverlayValue → FileTree ℕ
merged_files trees overlay = record { tree = merged_above trees overlay; numbers = numbers_there trees overlay }
