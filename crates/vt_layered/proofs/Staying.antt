-- What an overlay shows is a function of its layers, of its births and of what it keeps without a name.
use Rattle.std.proofs.Common.{◌≡◌, ◌∙◌, ◌+◌, ◌++◌, ◌∷◌, [], All, ap, arith, Bool, filter_map, find, if◌then◌else◌, is_some, List, map, nat_eq, None, option_map, Option, refl, slice_get, Some, subst, suc, sym, unwrap_or, zero, ℕ}
use Rattle.vt_spec.proofs.Common.{All-head, All-tail, Filesystem, Inode, IsDirectory, IsTree, Layer, Node, OpenLayer, Overlay, Real, Tree, World, at_path, entries_in, holds_of, is_directory_node, is_root_path, last_or, layer_node, merged_at, names_shown, node_at_path, node_in, open_layer, paths_from, real_node, real_object, shown, then_some, without_last, common_steps}
use Rattle.vt_laws_trees.specs.Overlays.MergedTrees.{layers_shown, node_as}
use Rattle.vt_laws_trees.specs.Overlays.TreesSeen.{node_by, path_numbered, real_by, real_seen, tree_seen}
use Rattle.vt_node.specs.Ranks.{rank_among}
use Rattle.vt_location.specs.declared.births.Birth.TheVariants.{Below, Here}
use Rattle.vt_location.specs.declared.locations.NodeRef.{NodeRef}
use Rattle.vt_location.specs.declared.numbers.FilesystemId.{FilesystemId}
use Rattle.vt_location.specs.Locations.{inode_of}
use Rattle.vt_location.specs.Numbers.{exchanged}
use Rattle.vt_fs.specs.FilesystemsValue.{Filesystems, inodes_at}
use Rattle.vt_fs.proofs.Numbers.{found_by_number}
use Rattle.vt_overlay.specs.Merge.LayerValue.{layer_of, layers_of}
use Rattle.vt_overlay.specs.declared.merge.layers.LayerRef.{LayerRef}
use Rattle.vt_overlay.specs.MergedTree.{IsLayer, layer_seen, longest, node_born, plain_world}
use Rattle.vt_layered.specs.Staying.{StaysAsLayer}

-- The tree, and the real objects, of an overlay with these layers: with these numbers, what is held without a name, the
-- inode of each real object, and the longest path
module _ (layers : List (OpenLayer ℕ)) (has_upper : Bool) (numbered : Real ℕ → ℕ) (held : ℕ → Option (Real ℕ))
    (inode_of_real : Real ℕ → Option (Node ℕ)) (most : ℕ) where
  abbrev pub real_in : List (List ℕ) → Option (Real ℕ)
  real_in path = option_map (λ object. real_object has_upper object.seen.layer object) (merged_at layers path)

  abbrev pub number_in : List (List ℕ) → Option ℕ
  number_in path = option_map numbered (real_in path)

  abbrev pub path_in : ℕ → Option (List (List ℕ))
  path_in number = find (λ path. holds_of (nat_eq number) (number_in path)) (paths_from most layers [])

  abbrev pub inode_in : List (List ℕ) → Option (Node ℕ)
  inode_in path = option_map (node_as (unwrap_or (number_in (without_last path)) 0)
      (filter_map (λ name. option_map (λ number. (name, number)) (number_in (path ++ name ∷ [])))
      (names_shown layers path))) (then_some (shown layers path) (layer_node layers))

  abbrev pub inode_found : ℕ → Option (List (List ℕ)) → Option (Node ℕ)
  inode_found number None = option_map (node_as number []) (then_some (held number) inode_of_real)
  inode_found number (Some path) = inode_in path

  abbrev pub tree_in : Tree ℕ
  tree_in = record { root = unwrap_or (number_in []) 0; node = λ number. inode_found number (path_in number) }

  abbrev pub numbers_in : List ℕ
  numbers_in = filter_map number_in (paths_from most layers [])

  abbrev pub real_found : ℕ → Option (List (List ℕ)) → Option (Real ℕ)
  real_found number None = held number
  real_found number (Some path) = real_in path

  abbrev pub reals_in : ℕ → Option (Real ℕ)
  reals_in number = real_found number (path_in number)

-- So the definitions find them.
module _ (numbered : Real ℕ → ℕ) (held : ℕ → Option (Real ℕ)) (most : ℕ) (world : World ℕ) (overlay : Overlay ℕ) where
  abbrev all : List (OpenLayer ℕ)
  all = layers_shown world overlay

  abbrev has_upper : Bool
  has_upper = is_some overlay.upper

  abbrev inodes : Real ℕ → Option (Node ℕ)
  inodes = real_node nat_eq world overlay

  pub tree_is : tree_seen numbered held most world overlay ≡ tree_in all has_upper numbered held inodes most
  tree_is = λ i. record {
    root = unwrap_or (number_in all has_upper numbered held inodes most []) 0;
    node = λ number. by number (path_numbered numbered most world overlay number) i;
  }
    where
      by : (number : ℕ) (o : Option (List (List ℕ))) → node_by numbered held most world overlay number o
          ≡ inode_found all has_upper numbered held inodes most number o
      by number None = refl
      by number (Some path) = refl

  pub reals_are : real_seen numbered held most world overlay ≡ reals_in all has_upper numbered held inodes most
  reals_are = λ i number. by number (path_numbered numbered most world overlay number) i
    where
      by : (number : ℕ) (o : Option (List (List ℕ))) → real_by numbered held most world overlay number o
          ≡ real_found all has_upper numbered held inodes most number o
      by number None = refl
      by number (Some path) = refl

-- the node that is born at a path of a layer
abbrev born : FilesystemId → ℕ → LayerRef → List (List ℕ) → OpenLayer ℕ → NodeRef
born number place layer path open_layer = record {
  filesystem = number;
  slot = exchanged layer.directory.filesystem.count (unwrap_or (at_path open_layer path) 0);
  birth = if is_root_path path then Here else Below place
      (exchanged layer.directory.filesystem.count (unwrap_or (at_path open_layer (without_last path)) 0))
      (if is_directory_node (node_at_path open_layer path) then 0
      else rank_among (entries_in (node_at_path open_layer (without_last path))) (last_or [] path)
      (unwrap_or (at_path open_layer path) 0));
}

-- Layers that stay
nothing_there : (o : Option (Inode ℕ)) → node_in o ≡ None → o ≡ None
nothing_there o e = grind (arith, common_steps)

module _ (old new : Filesystems) where
  abbrev Stays : LayerRef → Type 0
  Stays = StaysAsLayer old new

  pub layer_alike : (layer : LayerRef) → Stays layer → layer_of new layer ≡ layer_of old layer
  layer_alike layer same = λ i. record { tree = same.tree i; directory = inode_of layer.directory }

  pub layers_alike : (layers : List LayerRef) → All Stays layers → layers_of new layers ≡ layers_of old layers
  layers_alike [] stay = refl
  layers_alike (layer ∷ layers) stay = λ i. layer_alike layer (All-head Stays layer layers stay) i
      ∷ layers_alike layers (All-tail Stays layer layers stay) i

  pub longest_alike : (layers : List LayerRef) → All Stays layers → longest new layers ≡ longest old layers
  longest_alike [] stay = refl
  longest_alike (layer ∷ layers) stay = λ i. (All-head Stays layer layers stay).numbers i
      + longest_alike layers (All-tail Stays layer layers stay) i

  -- as the definitions open them
  opened_so : (trees : Filesystems) (layer : LayerRef)
      → open_layer nat_eq (plain_world trees) (layer_seen layer) ≡ layer_of trees layer
  opened_so trees layer = ap (λ (filesystem : Filesystem ℕ). record {
    tree = filesystem.files.tree;
    directory = inode_of layer.directory;
  }) (found_by_number trees layer.directory.filesystem.count)

  pub open_alike : (layer : LayerRef) → Stays layer → open_layer nat_eq (plain_world new) (layer_seen layer)
      ≡ open_layer nat_eq (plain_world old) (layer_seen layer)
  open_alike layer same = opened_so new layer ∙ layer_alike layer same ∙ sym (opened_so old layer)

  pub all_open_alike : (layers : List LayerRef) → All Stays layers
      → map (open_layer nat_eq (plain_world new)) (map layer_seen layers)
      ≡ map (open_layer nat_eq (plain_world old)) (map layer_seen layers)
  all_open_alike [] stay = refl
  all_open_alike (layer ∷ layers) stay = λ i. open_alike layer (All-head Stays layer layers stay) i
      ∷ all_open_alike layers (All-tail Stays layer layers stay) i

  -- the inode at a path of one of them
  pub inode_alike : (layers : List LayerRef) → All Stays layers → (place : ℕ) (path : List (List ℕ))
      → then_some (slice_get (map layer_seen layers) place)
      (λ (one : Layer ℕ). node_at_path (open_layer nat_eq (plain_world new) one) path)
      ≡ then_some (slice_get (map layer_seen layers) place)
      (λ (one : Layer ℕ). node_at_path (open_layer nat_eq (plain_world old) one) path)
  inode_alike [] stay place path = refl
  inode_alike (layer ∷ layers) stay zero path =
      ap (λ l. node_at_path l path) (open_alike layer (All-head Stays layer layers stay))
  inode_alike (layer ∷ layers) stay (suc place) path =
      inode_alike layers (All-tail Stays layer layers stay) place path

  -- the node that is born at a path
  pub born_alike : (number : FilesystemId) (place : ℕ) (layer : LayerRef) → Stays layer → (path : List (List ℕ))
      → node_born new number place layer path ≡ node_born old number place layer path
  born_alike number place layer same path = ap (born number place layer path) (layer_alike layer same)

  -- a layer is a directory of a tree still
  pub still_layer : (layer : LayerRef) → Stays layer → IsLayer old layer → IsLayer new layer
  still_layer layer same is = record {
    tree = subst (λ (tree : Tree ℕ). IsTree tree) (sym same.tree) is.tree;
    directory = subst (λ (tree : Tree ℕ). IsDirectory tree (inode_of layer.directory)) (sym same.tree) is.directory;
    own_numbers = λ number e. nothing_there ((inodes_at new layer.directory.filesystem.count).inode number)
        (ap (λ (tree : Tree ℕ). tree.node number) same.tree ∙ ap node_in (is.own_numbers number e));
  }
