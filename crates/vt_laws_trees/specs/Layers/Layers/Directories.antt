-- What the layers of an overlay show, found one directory at a time: a name in a merged directory leads to the
-- directories that are merged under it. The kernel's overlayfs document, "directories", "whiteouts and opaque
-- directories" and "multiple lower layers".
use Rattle.std.specs.Prelude.{All, List, None, Option, Some, [], if◌then◌else◌, map, slice_get, true, ℕ, ◌++◌, ◌+◌, ◌∷◌, ◌≡◌, ◌≢◌, is_some}
use Rattle.vt_spec.specs.Machine.Layers.{OpenLayer, view_of}
use Rattle.vt_spec.specs.Lists.{then_some}
use Rattle.vt_spec.specs.Machine.Views.{Shown, View, cuts, hides, node_led, shown, shown_over}
use Rattle.vt_spec.specs.Tree.{Node, is_directory_node}
use Rattle.vt_spec.specs.TreeInvariant.{IsDirectory, IsTree, entry_at}

-- the view of one layer, from its directory or from one under it, and the place of the layer, counted from the top
pub record PlacedView (N : Type 0) : Type 0 where
  pub layer : ℕ
  pub view : View N

-- a directory of one layer, with the place of the layer
pub record PlacedLayer (N : Type 0) : Type 0 where
  pub layer : ℕ
  pub open_layer : OpenLayer N

module _ {N : Type 0} where
  -- views with their places, from a number on
  abbrev pub placed_from : ℕ → List (View N) → List (PlacedView N)
  placed_from depth [] = []
  placed_from depth (view ∷ lower) = record { layer = depth; view = view } ∷ placed_from (depth + 1) lower

  abbrev pub placed : List (View N) → List (PlacedView N)
  placed views = placed_from 0 views

  abbrev pub placed_view : PlacedLayer N → PlacedView N
  placed_view directory = record { layer = directory.layer; view = view_of directory.open_layer }

  -- what such views show, with the places of their layers
  abbrev pub shown_in : List (PlacedView N) → List (List ℕ) → Option (Shown N)
  shown_in [] path = None
  shown_in (top ∷ lower) path =
      shown_over top.view top.layer (top.view.leads path) (cuts top.view path) (shown_in lower path)

  -- what is shown by views that are counted from the top, with the places of their layers
  abbrev pub counted_back : List (PlacedView N) → Shown N → Option (Shown N)
  counted_back views seen =
      then_some (slice_get views seen.layer) (λ top. Some (record { layer = top.layer; object = seen.object }))

  -- a view that goes on from a name
  abbrev pub view_under : List ℕ → View N → View N
  view_under name view = record { leads = λ rest. view.leads (name ∷ rest); node = view.node }

  -- what a layer has under a name, if that is a directory, and then lower ones, if it does not hide them
  abbrev pub merged_over : {A : Type 0} → A → Option (Node N) → List A → List A
  merged_over own node lower =
      (if is_directory_node node then own ∷ [] else []) ++ (if hides node then [] else lower)

  -- The directories that are merged under a name: those of the layers that have one there, from the top to the first
  -- that is opaque or that has something else there.
  abbrev pub merged_under : List (PlacedView N) → List ℕ → List (PlacedView N)
  merged_under [] name = []
  merged_under (top ∷ lower) name =
      merged_over (record { layer = top.layer; view = view_under name top.view })
      (node_led top.view (name ∷ [])) (merged_under lower name)

  -- the same for directories of trees: each is looked into for one name
  abbrev pub directory_over : PlacedLayer N → Option N → List (PlacedLayer N) → List (PlacedLayer N)
  directory_over top None lower = lower
  directory_over top (Some object) lower =
      merged_over
      (record { layer = top.layer; open_layer = record { tree = top.open_layer.tree; directory = object } })
      (top.open_layer.tree.node object) lower

  abbrev pub directories_under : List (PlacedLayer N) → List ℕ → List (PlacedLayer N)
  directories_under [] name = []
  directories_under (top ∷ lower) name =
      directory_over top (entry_at top.open_layer.tree top.open_layer.directory name) (directories_under lower name)

  -- the inode of a shown object
  abbrev pub shown_node : List (View N) → Shown N → Option (Node N)
  shown_node views seen = then_some (slice_get views seen.layer) (λ view. view.node seen.object)

-- A view as that of a tree: what names lead to is there, and is reached through directories.
pub record IsView (view : View ℕ) : Type 0 where
  pub there : (path : List (List ℕ)) (object : ℕ)
      → view.leads path ≡ Some object → is_some (view.node object) ≡ true
  pub through : (prefix rest : List (List ℕ)) (object : ℕ)
      → rest ≢ [] → view.leads (prefix ++ rest) ≡ Some object → is_directory_node (node_led view prefix) ≡ true

abbrev pub AreViews : List (PlacedView ℕ) → Type 0
AreViews views = All (λ top. IsView top.view) views

-- what is shown under a name is what is shown in the directories that are merged under it
abbrev pub ShownUnderName : Type 0
ShownUnderName =
    (views : List (PlacedView ℕ)) (name : List ℕ) (rest : List (List ℕ))
    → AreViews views → rest ≢ [] → shown_in views (name ∷ rest) ≡ shown_in (merged_under views name) rest

-- which are views again
abbrev pub MergedAreViews : Type 0
MergedAreViews =
    (views : List (PlacedView ℕ)) (name : List ℕ) → AreViews views → AreViews (merged_under views name)

-- all layers, each with its place, show what they show
abbrev pub PlacedShowTheSame : Type 0
PlacedShowTheSame =
    (views : List (View ℕ)) (path : List (List ℕ)) → shown views path ≡ shown_in (placed views) path

-- and some of them what they show by themselves, with the places counted back
abbrev pub PlacesAreCountedBack : Type 0
PlacesAreCountedBack =
    (views : List (PlacedView ℕ)) (path : List (List ℕ))
    → shown_in views path ≡ then_some (shown (map (λ top. top.view) views) path) (counted_back views)

-- the view of a directory of a tree is one
abbrev pub LayersAreViews : Type 0
LayersAreViews =
    (layer : OpenLayer ℕ) → IsTree layer.tree → IsDirectory layer.tree layer.directory → IsView (view_of layer)

-- and the directories that are merged under a name are found by that name in each layer's directory
abbrev pub DirectoriesAreMerged : Type 0
DirectoriesAreMerged =
    (layers : List (PlacedLayer ℕ)) (name : List ℕ)
    → merged_under (map placed_view layers) name ≡ map placed_view (directories_under layers name)
