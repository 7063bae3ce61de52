-- The tree of a filesystem, as it is lent, and what a merged directory has in it under a name.
use Rattle.std.proofs.Common.{◌≡◌, ◌∙◌, ◌++◌, ◌∷◌, [], Bool, List, None, Option, Some, ap, false, option_map, refl, sym, true, ℕ, if◌then◌else◌, option_to_list}
use Rattle.vt_spec.proofs.Common.{Node, Tree, entry_at, hides, is_directory_node, tree_of}
use Rattle.vt_location.specs.declared.locations.InodeRef.{InodeRef}
use Rattle.vt_location.specs.Locations.{inode_of}
use Rattle.vt_fs.specs.Trees.TreeValue.{TreeValue}
use Rattle.vt_fs.proofs.Standing.{at_look, entry_nowhere}
use Rattle.vt_fs.specs.FilesystemsValue.{FilesystemEntry, Filesystems, entry_of, files_at, files_seen, seen_in}
use Rattle.vt_laws_trees.specs.Layers.Layers.Directories.{PlacedLayer, directory_over}
use Rattle.vt_overlay.specs.Merge.LayerValue.{placed_layers, placed_of, tree_seen}
use Rattle.vt_overlay.specs.declared.merge.layers.MergedDirectory.{MergedDirectory}

pub tree_lent : (fs : Filesystems) (f : ℕ) (lent : Option TreeValue)
    → lent ≡ option_map (λ (entry : FilesystemEntry). entry.tree) (entry_of fs f)
    → tree_seen f lent ≡ (files_at fs f).tree
tree_lent fs f None is = sym (ap (λ entry. (files_seen entry).tree) (entry_nowhere fs f (sym is)))
tree_lent fs f (Some tree) is = sym (ap tree_of (at_look fs f tree (sym is) seen_in))

module _ (fs : Filesystems) (top : MergedDirectory) (name : List ℕ) (lent : Option TreeValue)
    (is : lent ≡ option_map (λ (entry : FilesystemEntry). entry.tree) (entry_of fs top.directory.filesystem.count))
  where
    abbrev f : ℕ
    f = top.directory.filesystem.count

    abbrev tree : Tree ℕ
    tree = (files_at fs f).tree

    abbrev found : Option ℕ
    found = entry_at tree (inode_of top.directory) name

    pub nothing_found : None ≡ entry_at (tree_seen f lent) (inode_of top.directory) name
        → (lower : List (PlacedLayer ℕ)) → lower ≡ directory_over (placed_of fs top) found lower
    nothing_found none lower = ap (λ o. directory_over (placed_of fs top) o lower)
        (none ∙ ap (λ t. entry_at t (inode_of top.directory) name) (tree_lent fs f lent is))

    module _ (object : InodeRef) (same : object.filesystem ≡ top.directory.filesystem)
        (at : Some (inode_of object) ≡ entry_at (tree_seen f lent) (inode_of top.directory) name) where
      seen : tree_seen object.filesystem.count lent ≡ tree
      seen = ap (λ g. tree_seen g.count lent) same ∙ tree_lent fs f lent is

      abbrev node_in : Tree ℕ → Option (Node ℕ)
      node_in t = t.node (inode_of object)

      abbrev own : MergedDirectory
      own = record { layer = top.layer; directory = object }

      by : (b h : Bool) (lower : List (PlacedLayer ℕ))
          → placed_layers fs (option_to_list (if b then Some own else None)) ++ (if h then [] else lower)
          ≡ (if b then record {
            layer = top.layer;
            open_layer = record { tree = tree; directory = inode_of object };
          } ∷ [] else []) ++ (if h then [] else lower)
      by true h lower = cc same
      by false h lower = refl

      pub object_found : (directory : Option MergedDirectory) (h : Bool)
          → directory ≡ (if is_directory_node (node_in (tree_seen object.filesystem.count lent)) then Some own else
          None)
          → h ≡ hides (node_in (tree_seen object.filesystem.count lent)) → (lower : List (PlacedLayer ℕ))
          → placed_layers fs (option_to_list directory) ++ (if h then [] else lower)
          ≡ directory_over (placed_of fs top) found lower
      object_found directory h d e lower = (λ i. placed_layers fs (option_to_list (d i)) ++ (if e i then [] else lower))
          ∙ (λ i. placed_layers fs (option_to_list (if is_directory_node (node_in (seen i)) then Some own else None))
          ++ (if hides (node_in (seen i)) then [] else lower))
          ∙ by (is_directory_node (node_in tree)) (hides (node_in tree)) lower
          ∙ ap (λ o. directory_over (placed_of fs top) o lower)
          (at ∙ ap (λ t. entry_at t (inode_of top.directory) name) (tree_lent fs f lent is))
