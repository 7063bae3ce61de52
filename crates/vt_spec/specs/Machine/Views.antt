-- What the layers of an overlay show at a path, by the view of each layer: the kernel's overlayfs document, "upper and
-- lower", "whiteouts and opaque directories" and "multiple lower layers". That a middle layer cuts the layers under it
-- is the profile's.
use Rattle.std.specs.Prelude.{Bool, List, None, Option, Some, [], false, filter, flat_map, if◌then◌else◌, is_some, map, not, suc, true, zero, ℕ, ◌&&◌, ◌++◌, ◌+◌, ◌||◌, ◌∷◌}
use Rattle.std.specs.List.{list_any}
use Rattle.vt_spec.specs.declared.attributes.Kind.TheVariants.{White}
use Rattle.vt_spec.specs.FileTree.{is_kind_in, is_opaque_in}
use Rattle.vt_spec.specs.Lists.{folded, without_last, prefixes, then_some, when}
use Rattle.vt_spec.specs.Rights.{is_directory}
use Rattle.vt_spec.specs.Tree.{Entries, Node, entries_in, is_directory_node, kind_of, with_entry}

-- The view of a layer: the inode to which each path leads through entries alone, and each inode. A change of a layer is
-- a change of its view.
pub record View (N : Type 0) : Type 0 where
  pub leads : List (List ℕ) → Option N
  pub node : N → Option (Node N)

-- an object that is shown: the place of its layer, counted from the top, and its number there
pub record Shown (N : Type 0) : Type 0 where
  pub layer : ℕ
  pub object : N

module _ {N : Type 0} where
  -- the inode to which a path leads in a layer
  abbrev pub node_led : View N → List (List ℕ) → Option (Node N)
  node_led view path = then_some (view.leads path) view.node

  -- a whiteout, an object that is no directory, and an opaque directory hide what lower layers have there and under it
  abbrev pub hides : Option (Node N) → Bool
  hides None = false
  hides (Some node) = not (is_directory (kind_of node.content)) || is_opaque_in (Some node)

  -- the layer cuts lower ones at a path: it hides at a non-empty prefix of it, or at the path itself
  abbrev pub cuts : View N → List (List ℕ) → Bool
  cuts view path = list_any (λ prefix. hides (node_led view prefix)) (prefixes path)

  -- an object of a layer that is not cut, unless it is a whiteout
  abbrev pub visible : View N → ℕ → N → Option (Shown N)
  visible view depth object =
      when (not (is_kind_in White (view.node object))) (record { layer = depth; object = object })

  -- the object that a layer has, or, where it has none and does not cut, what the layers under it show
  abbrev pub shown_over : View N → ℕ → Option N → Bool → Option (Shown N) → Option (Shown N)
  shown_over view depth (Some object) cut lower = visible view depth object
  shown_over view depth None true lower = None
  shown_over view depth None false lower = lower

  -- the object of the highest layer that has one and is not cut; nothing if that is a whiteout
  abbrev pub shown_from : ℕ → List (View N) → List (List ℕ) → Option (Shown N)
  shown_from depth [] path = None
  shown_from depth (view ∷ lower) path =
      shown_over view depth (view.leads path) (cuts view path) (shown_from (depth + 1) lower path)

  -- what the layers show at a path, the highest first
  abbrev pub shown : List (View N) → List (List ℕ) → Option (Shown N)
  shown views path = shown_from 0 views path

  -- what would be shown at a path if the upper layer had nothing there
  abbrev pub shown_in_lowers : View N → List (View N) → List (List ℕ) → Option (Shown N)
  shown_in_lowers upper lowers path = if cuts upper (without_last path) then None else shown_from 1 lowers path

  -- the names that some layer has at a path, each once and in their order
  abbrev pub names_at : List (View N) → List (List ℕ) → Entries (Unit {0})
  names_at [] path = []
  names_at (view ∷ lower) path =
      folded (λ names entry. with_entry entry.0 tt names) (names_at lower path) (entries_in (node_led view path))

  -- the names for which something is shown
  abbrev pub names_shown : List (View N) → List (List ℕ) → List (List ℕ)
  names_shown views path =
      filter (λ name. is_some (shown views (path ++ (name ∷ [])))) (map (λ entry. entry.0) (names_at views path))

  -- every path at which something is shown, a directory before what is under it
  abbrev pub paths_from : ℕ → List (View N) → List (List ℕ) → List (List (List ℕ))
  paths_from zero views path = path ∷ []
  paths_from (suc depth) views path =
      path ∷ flat_map (λ name. paths_from depth views (path ++ (name ∷ []))) (names_shown views path)

  -- one of these layers has a directory there, and no higher one of them cuts the path
  abbrev pub lowers_have_directory : List (View N) → List (List ℕ) → Bool
  lowers_have_directory [] path = false
  lowers_have_directory (view ∷ lower) path =
      is_directory_node (node_led view path) || (not (cuts view path) && lowers_have_directory lower path)

  -- O1: a lower layer that is not cut has a directory there: overlayfs, "renaming directories"
  abbrev pub has_lower_directory : List (View N) → List (View N) → List (List ℕ) → Bool
  has_lower_directory uppers lowers path =
      not (list_any (λ upper. cuts upper path) uppers) && lowers_have_directory lowers path
