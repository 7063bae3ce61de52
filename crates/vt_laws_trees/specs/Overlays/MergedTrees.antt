-- The tree of an overlay is a function of what its layers show, of the numbers that objects have, and of what is held
-- without a name: the kernel's overlayfs document, "upper and lower", "directories" and "non-directories".
use Rattle.std.specs.Prelude.{List, Option, Some, [], false, filter_map, map, nat_eq, option_map, slice_get, unwrap_or, ℕ, ◌++◌, ◌∷◌, ◌≡◌, ◌≢◌}
use Rattle.vt_spec.specs.Lists.{without_last, then_some}
use Rattle.vt_spec.specs.Machine.Layers.{OpenLayer, names_shown}
use Rattle.vt_spec.specs.Machine.World.{Filesystem, Overlay, Real, World, filesystem_numbered, open_layer, shown_layers}
use Rattle.vt_spec.specs.Machine.Invariants.{IsMerged, IsWorld, ListsNumbers, node_shown, number_at_path, real_node, real_shown}
use Rattle.vt_spec.specs.Tree.{Content, Entries, Node}
use Rattle.vt_spec.specs.Tree.Content.{Directory, Regular, Symlink, Whiteout}
use Rattle.vt_spec.specs.TreeInvariant.{HasName, HasOwnParents, IsDirectory, IsTree}

-- the layers of an overlay, from the top
abbrev pub layers_shown : World ℕ → Overlay ℕ → List (OpenLayer ℕ)
layers_shown world overlay = map (open_layer nat_eq world) (shown_layers overlay)

-- A tree that is what the layers of an overlay show, each a directory of a tree.
pub record IsMergedTree (world : World ℕ) (filesystem : Filesystem ℕ) (overlay : Overlay ℕ) : Type 0 where
  pub layers : (depth : ℕ) (layer : OpenLayer ℕ)
      → slice_get (layers_shown world overlay) depth ≡ Some layer
      → IsTree layer.tree × IsDirectory layer.tree layer.directory
  pub tree : IsTree filesystem.files.tree
  pub own_parents : HasOwnParents filesystem.files.tree
  pub numbers : ListsNumbers nat_eq filesystem.files
  pub merged : IsMerged nat_eq world filesystem overlay

-- An inode's number is that of its real object; and without a name those inodes are there that are held, with these
-- real objects.
pub record IsNamedBy (number_of : Real ℕ → ℕ) (held : ℕ → Option (Real ℕ)) (filesystem : Filesystem ℕ)
    (overlay : Overlay ℕ) : Type 0 where
  pub numbered : (number : ℕ) (object : Real ℕ) → overlay.real number ≡ Some object → number ≡ number_of object
  pub unnamed : (number : ℕ)
      → ¬ (HasName filesystem.files.tree number) → number ≢ filesystem.files.tree.root
      → overlay.real number ≡ held number

-- The tree, from layers, numbers and what is held: the number at a path,
abbrev pub number_shown : (Real ℕ → ℕ) → World ℕ → Overlay ℕ → List (List ℕ) → Option ℕ
number_shown number_of world overlay path = option_map number_of (real_shown nat_eq world overlay path)

-- the entries of the directory at a path, and its parent,
abbrev pub entries_shown : (Real ℕ → ℕ) → World ℕ → Overlay ℕ → List (List ℕ) → Entries ℕ
entries_shown number_of world overlay path =
    filter_map (λ name. option_map (λ number. (name, number))
    (number_shown number_of world overlay (path ++ name ∷ [])))
    (names_shown (layers_shown world overlay) path)

abbrev pub parent_shown : (Real ℕ → ℕ) → World ℕ → Overlay ℕ → List (List ℕ) → ℕ
parent_shown number_of world overlay path = unwrap_or (number_shown number_of world overlay (without_last path)) 0

-- the inode at a path,
abbrev pub content_as : ℕ → Entries ℕ → Content ℕ → Content ℕ
content_as parent entries (Directory old_parent old_entries opaque) = Directory parent entries false
content_as parent entries (Regular bytes) = Regular bytes
content_as parent entries (Symlink text) = Symlink text
content_as parent entries Whiteout = Whiteout

abbrev pub node_as : ℕ → Entries ℕ → Node ℕ → Node ℕ
node_as parent entries node = record { attr = node.attr; content = content_as parent entries node.content }

abbrev pub inode_shown : (Real ℕ → ℕ) → World ℕ → Overlay ℕ → List (List ℕ) → Option (Node ℕ)
inode_shown number_of world overlay path =
    option_map (node_as (parent_shown number_of world overlay path) (entries_shown number_of world overlay path))
    (node_shown nat_eq world overlay path)

-- and an inode that is held, which has no names in it.
abbrev pub inode_held : World ℕ → Overlay ℕ → (ℕ → Option (Real ℕ)) → ℕ → Option (Node ℕ)
inode_held world overlay held number =
    option_map (node_as number []) (then_some (held number) (real_node nat_eq world overlay))

-- what is said of each merged tree, whose numbers and inodes without a name are these
abbrev pub OfNamedTrees : ((Real ℕ → ℕ) → (ℕ → Option (Real ℕ)) → World ℕ → Filesystem ℕ → Overlay ℕ → Type 0) → Type 0
OfNamedTrees Said =
    (number_of : Real ℕ → ℕ) (held : ℕ → Option (Real ℕ)) (world : World ℕ) (filesystem : Filesystem ℕ)
    (overlay : Overlay ℕ)
    → IsMergedTree world filesystem overlay → IsNamedBy number_of held filesystem overlay
    → Said number_of held world filesystem overlay

-- Each path leads to the number of what the layers show there, or nowhere.
abbrev pub NumbersAreThoseShown : Type 0
NumbersAreThoseShown =
    OfNamedTrees (λ number_of held world filesystem overlay.
    (path : List (List ℕ)) → number_at_path filesystem.files path ≡ number_shown number_of world overlay path)

-- The inode there is what they show, with the names that they show.
abbrev pub InodesAreThoseShown : Type 0
InodesAreThoseShown =
    OfNamedTrees (λ number_of held world filesystem overlay.
    (path : List (List ℕ)) (number : ℕ) → number_at_path filesystem.files path ≡ Some number
    → (filesystem.files.tree.node number ≡ inode_shown number_of world overlay path)
    × (overlay.real number ≡ real_shown nat_eq world overlay path))

-- Every other inode has no name, and is one that is held.
abbrev pub OtherInodesAreHeld : Type 0
OtherInodesAreHeld =
    OfNamedTrees (λ number_of held world filesystem overlay.
    (number : ℕ) → ((path : List (List ℕ)) → number_at_path filesystem.files path ≢ Some number)
    → (filesystem.files.tree.node number ≡ inode_held world overlay held number) × (overlay.real number ≡ held number))

-- So two merged trees of the same layers, with the same numbers and the same held inodes, are one tree with the same
-- real objects.
abbrev pub MergedTreesAreOne : Type 0
MergedTreesAreOne =
    (number_of : Real ℕ → ℕ) (held : ℕ → Option (Real ℕ)) (world : World ℕ) (one other : Filesystem ℕ)
    (overlay another : Overlay ℕ)
    → another.upper ≡ overlay.upper → another.lowers ≡ overlay.lowers
    → IsMergedTree world one overlay → IsNamedBy number_of held one overlay
    → IsMergedTree world other another → IsNamedBy number_of held other another
    → (other.files.tree ≡ one.files.tree) × (another.real ≡ overlay.real)

-- Each overlay of a world with all invariants has such a tree.
abbrev pub OverlaysAreMergedTrees : Type 0
OverlaysAreMergedTrees =
    (world : World ℕ) (number : ℕ) (overlay : Overlay ℕ) → IsWorld nat_eq world
    → (filesystem_numbered nat_eq world number).overlay ≡ Some overlay
    → IsMergedTree world (filesystem_numbered nat_eq world number) overlay
