-- Uses of nodes that an overlay keeps without a name: open(2) and close(2) of what has lost its name. An overlay counts
-- no other uses, and a read-only one none at all.
use Rattle.std.specs.Prelude.{None, Option, Some, false, if◌then◌else◌, nat_eq, nat_lt, option_map, slice_get, ℕ, ◌&&◌, ◌-◌, ◌≡◌}
use Rattle.std.specs.Map.{keys_of}
use Rattle.vt_spec.specs.Lists.{holds_of, then_some}
use Rattle.vt_births.specs.Births.{copy_of, node_of, slot_above}
use Rattle.vt_births.specs.Kept.{is_kept, one_more, uses_of}
use Rattle.vt_births.specs.declared.upper_nodes.UpperNodes.{UpperNodes}
use Rattle.vt_location.specs.declared.locations.InodeRef.{InodeRef}
use Rattle.vt_location.specs.declared.locations.NodeRef.{NodeRef}
use Rattle.vt_location.specs.SameNodes.{same_node}
use Rattle.vt_overlay.specs.declared.merge.layers.LayerRef.{LayerRef}
use Rattle.vt_overlay.specs.MergedTree.{OverlayValue}
use Rattle.vt_layered.specs.LayeredValue.{Above}

-- how many uses of a node are counted
abbrev pub uses_above : Option Above → NodeRef → ℕ
uses_above None node = 0
uses_above (Some above) node = uses_of above.nodes.kept node

-- One use more of a node, if it is kept: the same nodes are kept, and births stay.
pub record IsPinned (node : NodeRef) (old new : UpperNodes) : Type 0 where
  pub uses : (other : NodeRef) → uses_of new.kept other
      ≡ (if same_node node other then one_more (uses_of old.kept other) else uses_of old.kept other)
  pub nodes : keys_of new.kept.by_node ≡ keys_of old.kept.by_node
  pub promised : new.kept.promised ≡ old.kept.promised
  pub births : new.births ≡ old.births

-- One use less: with the last the node is kept no more, and its birth is forgotten. Until then the same nodes are kept,
-- and births stay.
pub record IsUnpinned (node : NodeRef) (old new : UpperNodes) : Type 0 where
  pub uses : (other : NodeRef) → uses_of new.kept other
      ≡ (if same_node node other then uses_of old.kept other - 1 else uses_of old.kept other)
  pub kept : (other : NodeRef) → is_kept new.kept other
      ≡ (if same_node node other then nat_lt 1 (uses_of old.kept other) else is_kept old.kept other)
  pub still_kept : nat_eq (uses_of old.kept node) 1 ≡ false
      → keys_of new.kept.by_node ≡ keys_of old.kept.by_node
  pub still_born : nat_eq (uses_of old.kept node) 1 ≡ false → new.births ≡ old.births
  pub nodes : (slot : ℕ) → node_of new.births slot
      ≡ (if nat_eq (uses_of old.kept node) 1 && holds_of (λ copy. nat_eq copy slot) (copy_of old.births node) then None
      else node_of old.births slot)
  pub copies : (other : NodeRef) → copy_of new.births other
      ≡ (if nat_eq (uses_of old.kept node) 1 && same_node node other then None else copy_of old.births other)
  pub kept_promised : new.kept.promised ≡ old.kept.promised
  pub births_promised : new.births.promised ≡ old.births.promised

-- beside its layers an overlay has other nodes; a read-only one has none
abbrev pub with_nodes : UpperNodes → Option Above → Option Above
with_nodes nodes above = option_map (λ (one : Above). record one { nodes = nodes }) above

-- They change so; a read-only overlay stays as it is.
abbrev pub ChangesNodes : (UpperNodes → UpperNodes → Type 0) → Option Above → Option Above → Type 0
ChangesNodes change None new = new ≡ None
ChangesNodes change (Some old) new = (nodes : UpperNodes) × change old.nodes nodes × (new ≡ with_nodes nodes (Some old))

-- the inode in a slot of the upper layer
abbrev pub inode_above : OverlayValue → ℕ → Option InodeRef
inode_above overlay slot =
    option_map (λ (top : LayerRef). record { filesystem = top.directory.filesystem; slot = slot })
    (slice_get overlay.lowers 0)

-- what a node lets go with its last use: its object, if that is in the upper layer
abbrev pub node_let_go : OverlayValue → UpperNodes → NodeRef → Option InodeRef
node_let_go overlay nodes node =
    if nat_eq (uses_of nodes.kept node) 1 then then_some (slot_above nodes.births node) (inode_above overlay) else None

abbrev pub let_go_by : OverlayValue → Option Above → NodeRef → Option InodeRef
let_go_by overlay None node = None
let_go_by overlay (Some above) node = node_let_go overlay above.nodes node
