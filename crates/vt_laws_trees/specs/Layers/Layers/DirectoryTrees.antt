-- A tree that is found one directory at a time has what layers show at every path: the kernel's overlayfs document,
-- "directories".
use Rattle.std.specs.Prelude.{List, Option, Some, [], is_some, map, nat_eq, option_map, ℕ, ◌++◌, ◌∷◌, ◌≡◌}
use Rattle.vt_spec.specs.Machine.Layers.{view_of}
use Rattle.vt_spec.specs.Lists.{then_some}
use Rattle.vt_spec.specs.Machine.Merging.{real_object}
use Rattle.vt_spec.specs.Machine.Views.{Shown, View, shown}
use Rattle.vt_spec.specs.Machine.World.{Overlay, World, open_layer, shown_layers}
use Rattle.vt_spec.specs.Machine.Invariants.{IsWorld, SameObject, node_shown, real_shown}
use Rattle.vt_spec.specs.Tree.{Node, Tree}
use Rattle.vt_spec.specs.TreeInvariant.{IsDirectory, entry_at, led}
use Rattle.vt_laws_trees.specs.Layers.Layers.Directories.{AreViews, PlacedView, merged_under, placed, shown_in, shown_node}
use Rattle.vt_laws_trees.specs.Layers.Layers.Mounted.{AreLayers}

-- the inode that views show at a path
abbrev pub node_shown_by : List (View ℕ) → List (PlacedView ℕ) → List (List ℕ) → Option (Node ℕ)
node_shown_by views some_views path = then_some (shown_in some_views path) (shown_node views)

-- the views of each directory of a tree
abbrev pub ViewsOf : Type 0
ViewsOf = ℕ → List (PlacedView ℕ)

-- A directory of a tree, with its views: its names lead to what the views show there, and the views of a directory
-- under a name are those of the directories that are merged there.
pub record IsMergedDirectory (views : List (View ℕ)) (tree : Tree ℕ) (views_of : ViewsOf)
    (directory : ℕ) : Type 0 where
  pub entries : (name : List ℕ)
      → SameObject (then_some (entry_at tree directory name) tree.node)
      (node_shown_by views (views_of directory) (name ∷ []))
  pub below : (name : List ℕ) (number : ℕ)
      → entry_at tree directory name ≡ Some number → IsDirectory tree number
      → views_of number ≡ merged_under (views_of directory) name

-- the root is a directory and has all views, and each directory that names lead to is merged
pub record IsMergedByDirectory (views : List (View ℕ)) (tree : Tree ℕ) (views_of : ViewsOf) : Type 0 where
  pub root_directory : IsDirectory tree tree.root
  pub root_views : views_of tree.root ≡ placed views
  pub root : SameObject (tree.node tree.root) (node_shown_by views (placed views) [])
  pub directories : (path : List (List ℕ)) (directory : ℕ)
      → led tree tree.root path ≡ Some directory → IsDirectory tree directory
      → IsMergedDirectory views tree views_of directory

abbrev pub OneDirectoryIsEnough : Type 0
OneDirectoryIsEnough =
    (views : List (View ℕ)) (tree : Tree ℕ) (views_of : ViewsOf) (path : List (List ℕ))
    → AreViews (placed views) → IsMergedByDirectory views tree views_of
    → SameObject (then_some (led tree tree.root path) tree.node) (then_some (shown views path) (shown_node views))

-- What is said of an inode when it is found under a name in a directory, of what the directory's views show there.
pub record IsSaidByDirectory {A : Type 0} (views : List (View ℕ)) (tree : Tree ℕ) (views_of : ViewsOf)
    (of : List (List ℕ) → Shown ℕ → A) (said : ℕ → Option A) : Type 0 where
  pub root : said tree.root ≡ option_map (of []) (shown views [])
  pub entries : (path : List (List ℕ)) (directory : ℕ) (name : List ℕ) (number : ℕ)
      → led tree tree.root path ≡ Some directory → entry_at tree directory name ≡ Some number
      → said number ≡ option_map (of (path ++ name ∷ [])) (shown_in (views_of directory) (name ∷ []))

-- the objects that are found so are those that are shown
abbrev pub ObjectsAreThoseShown : Type 0
ObjectsAreThoseShown =
    (views : List (View ℕ)) (tree : Tree ℕ) (views_of : ViewsOf) (seen : ℕ → Option (Shown ℕ))
    (path : List (List ℕ)) (number : ℕ)
    → AreViews (placed views) → IsMergedByDirectory views tree views_of
    → IsSaidByDirectory views tree views_of (λ path shown. shown) seen
    → led tree tree.root path ≡ Some number → seen number ≡ shown views path

-- so such a tree, with such real objects, is what the layers of an overlay show
abbrev pub views_of_overlay : World ℕ → Overlay ℕ → List (View ℕ)
views_of_overlay world overlay = map view_of (map (open_layer nat_eq world) (shown_layers overlay))

abbrev pub OverlaysAreMergedByDirectory : Type 0
OverlaysAreMergedByDirectory =
    (world : World ℕ) (overlay : Overlay ℕ) (tree : Tree ℕ) (views_of : ViewsOf) (path : List (List ℕ))
    → IsWorld nat_eq world → AreLayers world overlay
    → IsMergedByDirectory (views_of_overlay world overlay) tree views_of
    → SameObject (then_some (led tree tree.root path) tree.node) (node_shown nat_eq world overlay path)

abbrev pub RealObjectsAreThoseShown : Type 0
RealObjectsAreThoseShown =
    (world : World ℕ) (overlay : Overlay ℕ) (tree : Tree ℕ) (views_of : ViewsOf) (path : List (List ℕ)) (number : ℕ)
    → IsWorld nat_eq world → AreLayers world overlay
    → IsMergedByDirectory (views_of_overlay world overlay) tree views_of
    → IsSaidByDirectory (views_of_overlay world overlay) tree views_of
    (λ path seen. real_object (is_some overlay.upper) seen.layer (record { path = path; seen = seen })) overlay.real
    → led tree tree.root path ≡ Some number → overlay.real number ≡ real_shown nat_eq world overlay path
