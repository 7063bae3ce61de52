-- What is looked at in an overlay that keeps fewer nodes without a name, over the same trees: the kernel's overlayfs
-- document, "upper and lower"; unlink(2) of what is in use.
use Rattle.std.specs.Prelude.{All, Bool, None, false, if◌then◌else◌, nat_eq, true, ℕ, ◌≡◌}
use Rattle.std.specs.List.{list_any}
use Rattle.std.specs.Map.{keys_of}
use Rattle.vt_spec.specs.Lists.{holds_of}
use Rattle.vt_spec.specs.Machine.World.{Real}
use Rattle.vt_spec.specs.Machine.World.Real.{Lower, Upper}
use Rattle.vt_births.specs.Births.{node_of}
use Rattle.vt_births.specs.Kept.{is_kept}
use Rattle.vt_births.specs.declared.upper_nodes.UpperNodes.{UpperNodes}
use Rattle.vt_location.specs.declared.locations.NodeRef.{NodeRef}
use Rattle.vt_location.specs.Locations.{is_small_node, number_of}
use Rattle.vt_location.specs.Numbers.{exchanged}
use Rattle.vt_fs.specs.FilesystemsValue.{Filesystems}
use Rattle.vt_upper_overlay.specs.MergedAbove.{held, object_kept, real_number, upper_count}
use Rattle.vt_upper_overlay.specs.UpperValue.{UpperOverlayValue}
use Rattle.vt_kept_nodes.specs.Forgetting.{Forgets, is_gone}

-- an overlay with these nodes beside its layers
abbrev pub keeping : UpperNodes → UpperOverlayValue → UpperOverlayValue
keeping nodes overlay = record overlay { nodes = nodes }

-- what is said of one whose nodes are forgotten
abbrev pub OfForgetting : (Filesystems → UpperOverlayValue → UpperNodes → Type 0) → Type 0
OfForgetting Said =
    (trees : Filesystems) (overlay : UpperOverlayValue) (nodes : UpperNodes) → Forgets overlay.nodes nodes
    → Said trees overlay nodes

-- A node that is kept still has its real object.
abbrev pub KeptFindTheirObjects : Type 0
KeptFindTheirObjects =
    OfForgetting (λ trees overlay nodes.
    (node : NodeRef) → is_kept nodes.kept node ≡ true
    → object_kept trees (keeping nodes overlay) node ≡ object_kept trees overlay node)

-- some node that is kept has this number
abbrev pub keeps_number : UpperNodes → ℕ → Bool
keeps_number nodes number = list_any (λ node. nat_eq number (number_of node)) (keys_of nodes.kept.by_node)

-- Of what was held without a name, just that is which is kept still.
abbrev pub HeldAreKeptStill : Type 0
HeldAreKeptStill =
    OfForgetting (λ trees overlay nodes.
    All (λ node. is_small_node node ≡ true) (keys_of overlay.nodes.kept.by_node) → (number : ℕ)
    → held trees (keeping nodes overlay) number
    ≡ (if keeps_number nodes number then held trees overlay number else None))

-- a real object is in the upper layer, as the copy of a node that is kept no more
abbrev pub is_forgotten : UpperOverlayValue → UpperNodes → Real ℕ → Bool
is_forgotten overlay nodes (Upper object) =
    holds_of (is_gone overlay.nodes nodes) (node_of overlay.nodes.births (exchanged (upper_count overlay) object))
is_forgotten overlay nodes (Lower layer path) = false

-- All other real objects have the numbers that they had.
abbrev pub OthersHaveTheirNumbers : Type 0
OthersHaveTheirNumbers =
    OfForgetting (λ trees overlay nodes.
    (real : Real ℕ) → is_forgotten overlay nodes real ≡ false
    → real_number trees (keeping nodes overlay) real ≡ real_number trees overlay real)
