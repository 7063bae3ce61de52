-- The objects in the upper layer of nodes that are kept: they count as under the upper directory, also without a name.
-- unlink(2) of what is in use, and the kernel's overlayfs document, "changes to underlying filesystems".
use Rattle.std.specs.Prelude.{All, Bool, None, nat_eq, ℕ, ◌≡◌}
use Rattle.std.specs.List.{list_any}
use Rattle.std.specs.Map.{keys_of}
use Rattle.vt_spec.specs.Lists.{holds_of}
use Rattle.vt_location.specs.declared.births.Birth.TheVariants.{Here}
use Rattle.vt_location.specs.declared.locations.NodeRef.{NodeRef}
use Rattle.vt_location.specs.declared.numbers.FilesystemId.{FilesystemId}
use Rattle.vt_births.specs.Births.{BirthsValue, node_of, slot_above}
use Rattle.vt_births.specs.declared.upper_nodes.UpperNodes.{UpperNodes}

-- some node that is kept has its object in a slot of the upper layer
abbrev pub has_kept_object : UpperNodes → ℕ → Bool
has_kept_object nodes slot =
    list_any (λ node. holds_of (nat_eq slot) (slot_above nodes.births node)) (keys_of nodes.kept.by_node)

-- a node is one of an overlay, and no copy of another one is in its slot if it was born in the upper layer
pub record IsOf (overlay : FilesystemId) (births : BirthsValue) (node : NodeRef) : Type 0 where
  pub own : node.filesystem ≡ overlay
  pub alone : node.birth ≡ Here → node_of births node.slot ≡ None

-- so are all that are kept
abbrev pub AreOf : FilesystemId → UpperNodes → Type 0
AreOf overlay nodes = All (IsOf overlay nodes.births) (keys_of nodes.kept.by_node)
