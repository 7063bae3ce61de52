-- The merged tree of an overlay: at every path it has what the layers show, and each of its inodes has a real object
-- (the kernel's overlayfs document, "upper and lower", "directories", "non-directories").
use Rattle.std.specs.Prelude.{Bool, List, Option, [], false, filter_map, find, map, not, option_map, slice_get, suc, true, unwrap_or, zero, ℕ, ◌&&◌, ◌∷◌}
use Rattle.std.specs.Str.{bytes_eq}
use Rattle.vt_spec.specs.FileTree.{FileTree}
use Rattle.vt_spec.specs.Machine.Layers.{OpenLayer, Shown, paths_from, shown}
use Rattle.vt_spec.specs.Lists.{Fresh, each_once, without_last, last_or, index_from, same_list, then_some, when}
use Rattle.vt_spec.specs.Tree.{Content, Node}
use Rattle.vt_spec.specs.Tree.Content.{Directory, Regular, Symlink, Whiteout}
use Rattle.vt_spec.specs.Machine.World.{Real}
use Rattle.vt_spec.specs.Machine.World.Real.{Lower, Upper}

-- an object of the merged tree: its path, and what is shown there
pub record Merged (N : Type 0) : Type 0 where
  pub path : List (List ℕ)
  pub seen : Shown N

-- an inode of the merged tree, with its number and its real object
pub record MergedInode (N : Type 0) : Type 0 where
  pub number : N
  pub node : Node N
  pub real : Real N

-- two paths have the same names
abbrev pub same_path : List (List ℕ) → List (List ℕ) → Bool
same_path a b = same_list bytes_eq a b

-- the path of the root, which has no names
abbrev pub is_root_path : List (List ℕ) → Bool
is_root_path [] = true
is_root_path (name ∷ rest) = false

module _ {N : Type 0} where
  -- the object that is shown at a path, if there is one
  abbrev pub merged_at : List (OpenLayer N) → List (List ℕ) → Option (Merged N)
  merged_at layers path = option_map (λ seen. record { path = path; seen = seen }) (shown layers path)

  -- every object that is shown; no path has more words than there are inodes in all layers
  abbrev pub merged_objects : List (OpenLayer N) → ℕ → List (Merged N)
  merged_objects layers longest = filter_map (merged_at layers) (paths_from longest layers [])

  -- the real object; the first argument says whether the top layer is an upper layer
  abbrev pub real_object : (has_upper : Bool) → ℕ → Merged N → Real N
  real_object true zero object = Upper object.seen.object
  real_object true (suc layer) object = Lower layer object.path
  real_object false layer object = Lower layer object.path

  -- the inode that is shown, in its layer
  abbrev pub layer_node : List (OpenLayer N) → Shown N → Option (Node N)
  layer_node layers seen = then_some (slice_get layers seen.layer) (λ layer. layer.tree.node seen.object)

  -- the inode of this number among these
  abbrev pub inode_of : List (MergedInode N) → N → (N → N → Bool) → Option (MergedInode N)
  inode_of inodes number eq = find (λ inode. eq number inode.number) inodes

  -- the new number of the directory at a path
  abbrev pub number_at : Fresh N → (has_upper : Bool) → List (Merged N) → List (List ℕ) → N
  number_at fresh has_upper objects path =
      fresh (unwrap_or (index_from (λ object. same_path path object.path) 0 objects) 0)

module _ {N : Type 0} (eq : N → N → Bool) where
  -- two real objects are one: an inode of the upper layer, or a path of lower ones
  abbrev pub same_real : Real N → Real N → Bool
  same_real (Upper a) (Upper b) = eq a b
  same_real (Upper a) (Lower layer path) = false
  same_real (Lower layer path) (Upper b) = false
  same_real (Lower layer path) (Lower other_layer other) = same_path path other

  -- two paths lead to one inode only where they show one object of the upper layer: overlayfs, "non-standard behavior"
  abbrev pub is_one_inode : (has_upper : Bool) → Merged N → Merged N → Bool
  is_one_inode has_upper a b =
      same_real (real_object has_upper a.seen.layer a) (real_object has_upper b.seen.layer b)

  -- the new number of an object: all objects that are one inode have the number of the first
  abbrev pub merged_number : Fresh N → (has_upper : Bool) → List (Merged N) → Merged N → N
  merged_number fresh has_upper objects object =
      fresh (unwrap_or (index_from (is_one_inode has_upper object) 0 objects) 0)

  -- the entry of an object in the directory at a path, if that is its directory
  abbrev pub entry_in_directory : Fresh N → (has_upper : Bool) → List (Merged N) → List (List ℕ) → Merged N
      → Option (List ℕ × N)
  entry_in_directory fresh has_upper objects path object =
      when (not (is_root_path object.path) && same_path path (without_last object.path))
      (last_or [] object.path, merged_number fresh has_upper objects object)

  -- a merged directory has an entry for each object shown in it, and no opaque mark
  abbrev pub merged_content : Fresh N → (has_upper : Bool) → List (Merged N) → List (List ℕ) → Content N → Content N
  merged_content fresh has_upper objects path (Directory parent entries opaque) =
      Directory (number_at fresh has_upper objects (without_last path))
      (filter_map (entry_in_directory fresh has_upper objects path) objects) false
  merged_content fresh has_upper objects path (Regular bytes) = Regular bytes
  merged_content fresh has_upper objects path (Symlink text) = Symlink text
  merged_content fresh has_upper objects path Whiteout = Whiteout

  -- an object that is shown as an inode of the merged tree: overlayfs, "upper and lower"
  abbrev pub merged_inode : Fresh N → (has_upper : Bool) → List (OpenLayer N) → List (Merged N) → Merged N
      → Option (MergedInode N)
  merged_inode fresh has_upper layers objects object =
      option_map (λ node. record {
        number = merged_number fresh has_upper objects object;
        node = record { attr = node.attr; content = merged_content fresh has_upper objects object.path node.content };
        real = real_object has_upper object.seen.layer object;
      })
      (layer_node layers object.seen)

  -- the inodes of all objects that are shown
  abbrev pub merged_inodes : Fresh N → (has_upper : Bool) → List (OpenLayer N) → List (Merged N) → List (MergedInode N)
  merged_inodes fresh has_upper layers objects = filter_map (merged_inode fresh has_upper layers objects) objects

  -- the tree of these inodes
  abbrev pub tree_of : N → List (MergedInode N) → FileTree N
  tree_of root inodes = record {
    tree = record { root = root; node = λ number. option_map (λ inode. inode.node) (inode_of inodes number eq) };
    numbers = each_once eq (map (λ inode. inode.number) inodes);
  }

  -- the real object of the inode of this number
  abbrev pub real_of : List (MergedInode N) → N → Option (Real N)
  real_of inodes number = option_map (λ inode. inode.real) (inode_of inodes number eq)
