-- What is held without a name once a node has lost one: unlink(2), rmdir(2).
use Rattle.std.specs.Prelude.{List, Option, [], if◌then◌else◌, nat_eq, nat_lt, true, ℕ, ◌&&◌, ◌++◌, ◌∷◌, ◌≡◌, ◌≢◌}
use Rattle.vt_spec.specs.Language.Changes.{changed}
use Rattle.vt_spec.specs.Language.Changes.Change.{Remove}
use Rattle.vt_spec.specs.Machine.Invariants.{real_shown}
use Rattle.vt_spec.specs.Machine.World.{Filesystem, Real}
use Rattle.vt_spec.specs.TreeInvariant.{HasName}
use Rattle.vt_laws_trees.specs.Overlays.MergedTrees.{IsMergedTree, IsNamedBy}
use Rattle.vt_births.specs.declared.upper_nodes.UpperNodes.{UpperNodes}
use Rattle.vt_births.specs.Kept.{KeptValue, is_kept, uses_of}
use Rattle.vt_fs.specs.FilesystemsValue.{Filesystems}
use Rattle.vt_upper.specs.declared.losing.Losing.{Losing}
use Rattle.vt_upper.specs.LastName.{IsNameAt}
use Rattle.vt_upper.specs.Losing.{IsLeftBy, IsLosing, keeps_node}
use Rattle.vt_location.specs.declared.locations.NodeRef.{NodeRef}
use Rattle.vt_location.specs.Locations.{is_small_node, number_of}
use Rattle.vt_overlay.specs.MergedTree.{plain_world}
use Rattle.vt_upper_overlay.specs.Laws.{with_objects}
use Rattle.vt_upper_overlay.specs.MergedAbove.{held, real_number, upper_seen}
use Rattle.vt_upper_overlay.specs.Standing.{StandsAbove}
use Rattle.vt_upper_overlay.specs.UpperValue.{UpperOverlayValue}

-- just what is kept has uses
abbrev pub HaveUses : KeptValue → Type 0
HaveUses kept = (node : NodeRef) → is_kept kept node ≡ nat_lt 0 (uses_of kept node)

-- A node that loses its last name, and is kept, is held then, with the real object that it was shown with. All others are
-- held as they were.
abbrev pub LosersAreHeld : Type 0
LosersAreHeld =
    (trees : Filesystems) (overlay : UpperOverlayValue) (directory node : NodeRef) (path : List (List ℕ))
    (name : List ℕ) (uses : ℕ) (losing : Losing) (nodes : UpperNodes)
    → StandsAbove trees overlay → is_small_node node ≡ true → node.filesystem ≡ overlay.layers.number
    → IsNameAt trees overlay directory node path name
    → IsLosing trees overlay (path ++ name ∷ []) node uses losing → IsLeftBy losing overlay.nodes nodes
    → HaveUses overlay.nodes.kept → HaveUses nodes.kept
    → (number : ℕ) → held trees (record overlay { nodes = nodes }) number
    ≡ (if keeps_node losing && nat_eq number (number_of node)
    then real_shown nat_eq (plain_world trees) (upper_seen overlay) (path ++ name ∷ []) else held trees overlay number)

-- So where the definitions have a merged tree of the layers, which births and what is held name: once the name is removed
-- from it, each inode without a name is held with its real object, but for the node if that is not kept.
abbrev pub UnnamedAreHeld : Type 0
UnnamedAreHeld =
    (trees : Filesystems) (overlay : UpperOverlayValue) (filesystem : Filesystem ℕ) (real : ℕ → Option (Real ℕ))
    (directory node : NodeRef) (path : List (List ℕ)) (name : List ℕ) (uses : ℕ) (losing : Losing) (nodes : UpperNodes)
    → IsMergedTree (plain_world trees) filesystem (with_objects overlay real)
    → IsNamedBy (real_number trees overlay) (held trees overlay) filesystem (with_objects overlay real)
    → StandsAbove trees overlay → is_small_node node ≡ true → node.filesystem ≡ overlay.layers.number
    → IsNameAt trees overlay directory node path name
    → IsLosing trees overlay (path ++ name ∷ []) node uses losing → IsLeftBy losing overlay.nodes nodes
    → HaveUses overlay.nodes.kept → HaveUses nodes.kept
    → (number : ℕ)
    → ¬ (HasName (changed nat_eq filesystem.files (Remove (number_of directory) name (number_of node))).tree number)
    → number ≢ filesystem.files.tree.root → (number ≡ number_of node → keeps_node losing ≡ true)
    → real number ≡ held trees (record overlay { nodes = nodes }) number
