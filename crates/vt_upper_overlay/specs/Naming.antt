-- Directories of the tree of an overlay that is found along the paths of its layers, and the ways to them:
-- path_resolution(7).
use Rattle.std.specs.Prelude.{List, None, Option, Some, if◌then◌else◌, nat_eq, ℕ}
use Rattle.vt_spec.specs.Machine.Invariants.{node_shown}
use Rattle.vt_spec.specs.Machine.World.{Overlay, Real, World}
use Rattle.vt_spec.specs.Tree.{is_directory_node}
use Rattle.vt_laws_trees.specs.Overlays.TreesSeen.{path_numbered}

-- a path, if it shows a directory
abbrev pub only_directory : World ℕ → Overlay ℕ → Option (List (List ℕ)) → Option (List (List ℕ))
only_directory world overlay None = None
only_directory world overlay (Some path) =
    if is_directory_node (node_shown nat_eq world overlay path) then Some path else None

-- the way to the directory of a number
abbrev pub way_numbered : (Real ℕ → ℕ) → ℕ → World ℕ → Overlay ℕ → ℕ → Option (List (List ℕ))
way_numbered number_of longest world overlay number =
    only_directory world overlay (path_numbered number_of longest world overlay number)
