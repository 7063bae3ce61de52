-- The nodes that an overlay keeps without a name, and their uses: unlink(2) and rmdir(2) of what is in use.
use Rattle.std.specs.Prelude.{Bool, List, Some, [], if◌then◌else◌, nat_lt, unwrap_or, ℕ, ◌+◌, ◌<◌, ◌≡◌, ◌≤◌}
use Rattle.std.specs.List.{list_any}
use Rattle.std.specs.Map.{keys_of, lookup}
use Rattle.indexmap.specs.IndexMap.{IndexMap, spare}
use Rattle.vt_location.specs.declared.locations.NodeRef.{NodeRef}
use Rattle.vt_location.specs.SameNodes.{same_node}

-- the nodes that are kept, each with its uses, and how many nodes more have room
pub record KeptValue : Type 0 where
  pub by_node : List (NodeRef × ℕ)
  pub promised : ℕ

-- none
abbrev pub none_kept : KeptValue
none_kept = record { by_node = []; promised = 0 }

-- the uses of a node; what is not kept has none here
abbrev pub uses_of : KeptValue → NodeRef → ℕ
uses_of kept node = unwrap_or (lookup (same_node node) kept.by_node) 0

-- a node is kept
abbrev pub is_kept : KeptValue → NodeRef → Bool
is_kept kept node = list_any (same_node node) (keys_of kept.by_node)

-- one use more of a node that is kept
abbrev pub one_more : ℕ → ℕ
one_more uses = if nat_lt 0 uses then uses + 1 else uses

-- What is kept by hash

abbrev pub nodes_kept : {S : Type 0} → IndexMap NodeRef ℕ S → ℕ → KeptValue
nodes_kept by_node promised = record { by_node = by_node.entries; promised = promised }

-- what is kept has uses, and there is the room that is promised
pub record KeepsNodes {S : Type 0} (by_node : IndexMap NodeRef ℕ S) (promised : ℕ) : Type 0 where
  pub used : (node : NodeRef) (uses : ℕ) → lookup (same_node node) by_node.entries ≡ Some uses → 0 < uses
  pub room : promised ≤ spare by_node
