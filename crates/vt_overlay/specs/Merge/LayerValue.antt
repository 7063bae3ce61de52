-- What the definitions see of layers, and of what they show.
use Rattle.std.specs.Prelude.{Bool, List, None, Option, Some, [], false, flat_map, map, unwrap_or, ℕ, ◌||◌, ◌∷◌}
use Rattle.vt_spec.specs.declared.attributes.Kind.TheVariants.{White}
use Rattle.vt_spec.specs.FileTree.{is_kind_in}
use Rattle.vt_spec.specs.Inodes.{tree_of}
use Rattle.vt_spec.specs.Lists.{holds_of}
use Rattle.vt_spec.specs.Machine.Layers.{OpenLayer, Shown}
use Rattle.vt_spec.specs.Machine.Views.{hides}
use Rattle.vt_spec.specs.Tree.{Tree, names_in}
use Rattle.vt_spec.specs.TreeInvariant.{entry_at}
use Rattle.vt_laws_trees.specs.Layers.Layers.Directories.{PlacedLayer, PlacedView, placed_view}
use Rattle.vt_location.specs.declared.locations.InodeRef.{InodeRef}
use Rattle.vt_location.specs.Locations.{inode_of}
use Rattle.vt_fs.specs.Trees.TreeValue.{TreeValue}
use Rattle.vt_fs.specs.FilesystemsValue.{Filesystems, files_at, no_entry, seen_in}
use Rattle.vt_overlay.specs.declared.merge.layers.LayerRef.{LayerRef}
use Rattle.vt_overlay.specs.declared.merge.layers.MergedDirectory.{MergedDirectory}
use Rattle.vt_overlay.specs.declared.merge.layers.Real.{Real}

-- the tree of the filesystem of a count, by the numbers of inodes; of a missing filesystem an empty one
abbrev pub tree_seen : ℕ → Option TreeValue → Tree ℕ
tree_seen count tree = tree_of (seen_in count (unwrap_or tree (no_entry count).tree))

-- a directory of a plain tree, as a layer is looked into
abbrev pub opened : Filesystems → InodeRef → OpenLayer ℕ
opened trees directory =
    record { tree = (files_at trees directory.filesystem.count).tree; directory = inode_of directory }

abbrev pub layer_of : Filesystems → LayerRef → OpenLayer ℕ
layer_of trees layer = opened trees layer.directory

abbrev pub layers_of : Filesystems → List LayerRef → List (OpenLayer ℕ)
layers_of trees layers = map (layer_of trees) layers

-- an object that is shown
abbrev pub seen_of : Real → Shown ℕ
seen_of real = record { layer = real.layer; object = inode_of real.inode }

-- directories that are merged, each with the place of its layer
abbrev pub placed_of : Filesystems → MergedDirectory → PlacedLayer ℕ
placed_of trees merged = record { layer = merged.layer; open_layer = opened trees merged.directory }

abbrev pub placed_layers : Filesystems → List MergedDirectory → List (PlacedLayer ℕ)
placed_layers trees merged = map (placed_of trees) merged

abbrev pub placed_views : Filesystems → List MergedDirectory → List (PlacedView ℕ)
placed_views trees merged = map placed_view (placed_layers trees merged)

-- names hide something on the way from a directory
abbrev pub cut_by : Tree ℕ → Option ℕ → (ℕ → Bool) → Bool
cut_by tree None rest = false
cut_by tree (Some next) rest = hides (tree.node next) || rest next

abbrev pub cut_on : Tree ℕ → List (List ℕ) → ℕ → Bool
cut_on tree [] from = false
cut_on tree (name ∷ names) from = cut_by tree (entry_at tree from name) (cut_on tree names)

-- the names of a directory, and those of directories, one directory after the other
abbrev pub own_names : Filesystems → MergedDirectory → List (List ℕ)
own_names trees top = names_in ((opened trees top.directory).tree.node (inode_of top.directory))

abbrev pub names_had : Filesystems → List MergedDirectory → List (List ℕ)
names_had trees merged = flat_map (own_names trees) merged

-- a name of a directory leads to a whiteout
abbrev pub is_white_under : Filesystems → MergedDirectory → List ℕ → Bool
is_white_under trees top name =
    holds_of (λ object. is_kind_in White ((opened trees top.directory).tree.node object))
    (entry_at (opened trees top.directory).tree (inode_of top.directory) name)
