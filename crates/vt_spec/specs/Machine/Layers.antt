-- Layers as directories of plain trees, and what they show by their views (`Views.antt`).
use Rattle.std.specs.Prelude.{Bool, List, Option, map, ℕ}
use Rattle.vt_spec.specs.Machine.Views
pub use Rattle.vt_spec.specs.Machine.Views.{Shown, View, hides}
use Rattle.vt_spec.specs.Tree.{Node, Tree}
use Rattle.vt_spec.specs.TreeInvariant.{led}

-- a layer, as it is looked into: a directory of a plain tree
pub record OpenLayer (N : Type 0) : Type 0 where
  pub tree : Tree N
  pub directory : N

module _ {N : Type 0} where
  -- where the names lead from the layer's directory, through entries alone
  abbrev pub at_path : OpenLayer N → List (List ℕ) → Option N
  at_path layer path = led layer.tree layer.directory path

  -- the view of a layer
  abbrev pub view_of : OpenLayer N → View N
  view_of layer = record { leads = λ path. at_path layer path; node = λ object. layer.tree.node object }

  -- the inode to which a path leads in a layer
  abbrev pub node_at_path : OpenLayer N → List (List ℕ) → Option (Node N)
  node_at_path layer path = Views.node_led (view_of layer) path

  -- Each word from here on is that of views (`Views.antt`), of layers.

  abbrev pub shown : List (OpenLayer N) → List (List ℕ) → Option (Shown N)
  shown layers path = Views.shown (map view_of layers) path

  abbrev pub shown_in_lowers : OpenLayer N → List (OpenLayer N) → List (List ℕ) → Option (Shown N)
  shown_in_lowers upper lowers path = Views.shown_in_lowers (view_of upper) (map view_of lowers) path

  abbrev pub names_shown : List (OpenLayer N) → List (List ℕ) → List (List ℕ)
  names_shown layers path = Views.names_shown (map view_of layers) path

  abbrev pub paths_from : ℕ → List (OpenLayer N) → List (List ℕ) → List (List (List ℕ))
  paths_from depth layers path = Views.paths_from depth (map view_of layers) path

  abbrev pub lowers_have_directory : List (OpenLayer N) → List (List ℕ) → Bool
  lowers_have_directory layers path = Views.lowers_have_directory (map view_of layers) path

  abbrev pub has_lower_directory : List (OpenLayer N) → List (OpenLayer N) → List (List ℕ) → Bool
  has_lower_directory uppers lowers path = Views.has_lower_directory (map view_of uppers) (map view_of lowers) path
