-- The tree of an overlay, found by looking a number up along the paths of its layers: the kernel's overlayfs document,
-- "upper and lower", "directories" and "non-directories".
use Rattle.std.specs.Prelude.{All, List, None, Option, Some, [], find, length, nat_eq, unwrap_or, ℕ, ◌≡◌, ◌≤◌}
use Rattle.vt_spec.specs.FileTree.{FileTree}
use Rattle.vt_spec.specs.Lists.{holds_of}
use Rattle.vt_spec.specs.Machine.Invariants.{IsWorld, ListsNumbers, real_shown}
use Rattle.vt_spec.specs.Machine.Layers.{Shown, paths_from, shown}
use Rattle.vt_spec.specs.Machine.World.{Filesystem, Layer, Overlay, Real, World, filesystem_numbered, shown_layers}
use Rattle.vt_spec.specs.Tree.{Node, Tree}
use Rattle.vt_laws_trees.specs.Overlays.MergedTrees.{IsMergedTree, IsNamedBy, OfNamedTrees, inode_held, inode_shown, layers_shown, number_shown}

-- the first path, of those that show something and are no longer than this, at which what has a number is shown
abbrev pub path_numbered : (Real ℕ → ℕ) → ℕ → World ℕ → Overlay ℕ → ℕ → Option (List (List ℕ))
path_numbered number_of longest world overlay number =
    find (λ path. holds_of (nat_eq number) (number_shown number_of world overlay path))
    (paths_from longest (layers_shown world overlay) [])

module _ (number_of : Real ℕ → ℕ) (held : ℕ → Option (Real ℕ)) (longest : ℕ) (world : World ℕ)
    (overlay : Overlay ℕ) where
  -- an inode, and its real object: those shown at that path, or those held if there is none
  abbrev pub node_by : ℕ → Option (List (List ℕ)) → Option (Node ℕ)
  node_by number None = inode_held world overlay held number
  node_by number (Some path) = inode_shown number_of world overlay path

  abbrev pub real_by : ℕ → Option (List (List ℕ)) → Option (Real ℕ)
  real_by number None = held number
  real_by number (Some path) = real_shown nat_eq world overlay path

  -- the tree, and its real objects
  abbrev pub tree_seen : Tree ℕ
  tree_seen = record {
    root = unwrap_or (number_shown number_of world overlay []) 0;
    node = λ number. node_by number (path_numbered number_of longest world overlay number);
  }

  abbrev pub real_seen : ℕ → Option (Real ℕ)
  real_seen number = real_by number (path_numbered number_of longest world overlay number)

-- the tree of a layer, with the numbers of its inodes
abbrev pub files_of : World ℕ → Layer ℕ → FileTree ℕ
files_of world layer = (filesystem_numbered nat_eq world layer.filesystem).files

-- the numbers beside the tree of each layer are those of its inodes,
abbrev pub AreListed : World ℕ → Overlay ℕ → Type 0
AreListed world overlay =
    All (λ (layer : Layer ℕ). ListsNumbers nat_eq (files_of world layer)) (shown_layers overlay)

-- and it has no more inodes than this
abbrev pub AreNoLarger : ℕ → World ℕ → Overlay ℕ → Type 0
AreNoLarger most world overlay =
    All (λ (layer : Layer ℕ). length (files_of world layer).numbers ≤ most) (shown_layers overlay)

-- No path at which something is shown is longer than a layer's tree has inodes.
abbrev pub PathsAreNoLonger : Type 0
PathsAreNoLonger =
    (world : World ℕ) (filesystem : Filesystem ℕ) (overlay : Overlay ℕ) (longest : ℕ) (path : List (List ℕ))
    (seen : Shown ℕ)
    → IsMergedTree world filesystem overlay → AreListed world overlay → AreNoLarger longest world overlay
    → shown (layers_shown world overlay) path ≡ Some seen → length path ≤ longest

-- A merged tree is the tree that is found so.
abbrev pub MergedTreesAreSeen : Type 0
MergedTreesAreSeen =
    OfNamedTrees (λ number_of held world filesystem overlay.
    (longest : ℕ) → AreListed world overlay → AreNoLarger longest world overlay
    → (filesystem.files.tree ≡ tree_seen number_of held longest world overlay)
    × (overlay.real ≡ real_seen number_of held longest world overlay))

-- So is that of each overlay of a world with all invariants.
abbrev pub OverlaysAreSeen : Type 0
OverlaysAreSeen =
    (number_of : Real ℕ → ℕ) (held : ℕ → Option (Real ℕ)) (world : World ℕ) (number : ℕ) (overlay : Overlay ℕ)
    (longest : ℕ)
    → IsWorld nat_eq world → (filesystem_numbered nat_eq world number).overlay ≡ Some overlay
    → IsNamedBy number_of held (filesystem_numbered nat_eq world number) overlay → AreNoLarger longest world overlay
    → ((filesystem_numbered nat_eq world number).files.tree ≡ tree_seen number_of held longest world overlay)
    × (overlay.real ≡ real_seen number_of held longest world overlay)

-- A merged tree whose real objects are found so is named so, if what is held has the numbers of its real objects.
abbrev pub SeenTreesAreNamed : Type 0
SeenTreesAreNamed =
    (number_of : Real ℕ → ℕ) (held : ℕ → Option (Real ℕ)) (longest : ℕ) (world : World ℕ) (filesystem : Filesystem ℕ)
    (overlay : Overlay ℕ)
    → IsMergedTree world filesystem overlay
    → overlay.real ≡ real_seen number_of held longest world overlay
    → ((number : ℕ) (object : Real ℕ) → held number ≡ Some object → number ≡ number_of object)
    → IsNamedBy number_of held filesystem overlay
