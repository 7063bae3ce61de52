-- The births that an overlay keeps: which node each inode of its upper layer is. The inode of the merged tree stays the
-- same when it is copied up: the kernel's overlayfs document, "upper and lower" (copy_up), "inode properties".
use Rattle.std.specs.Prelude.{Bool, List, Option, Some, [], false, nat_eq, option_map, true, unwrap_or, ℕ, ◌<◌, ◌^◌, ◌≡◌, ◌≤◌}
use Rattle.std.specs.Map.{lookup}
use Rattle.indexmap.specs.IndexMap.{IndexMap, spare}
use Rattle.vt_location.specs.declared.births.Birth.{Birth}
use Rattle.vt_location.specs.declared.births.Birth.TheVariants.{Below, Here}
use Rattle.vt_location.specs.declared.locations.NodeRef.{NodeRef}
use Rattle.vt_location.specs.declared.numbers.FilesystemId.{FilesystemId}
use Rattle.vt_location.specs.Locations.{is_small_node, number_of}
use Rattle.vt_location.specs.Numbers.{exchanged, inode_number}
use Rattle.vt_location.specs.SameNodes.{same_node}

-- the slots of the upper layer that have copies, each with the node whose copy it has; these nodes with their slots; and
-- how many births more have room
pub record BirthsValue : Type 0 where
  pub by_copy : List (ℕ × NodeRef)
  pub by_node : List (NodeRef × ℕ)
  pub promised : ℕ

-- none
abbrev pub no_births : BirthsValue
no_births = record { by_copy = []; by_node = []; promised = 0 }

-- the node whose copy is in a slot, and the slot of the copy of a node
abbrev pub node_of : BirthsValue → ℕ → Option NodeRef
node_of births slot = lookup (nat_eq slot) births.by_copy

abbrev pub copy_of : BirthsValue → NodeRef → Option ℕ
copy_of births node = lookup (same_node node) births.by_node

-- a node was born below the upper layer, as all are that are copied up
abbrev pub is_below : Birth → Bool
is_below Here = false
is_below (Below layer directory rank) = true

abbrev pub is_born_below : NodeRef → Bool
is_born_below node = is_below node.birth

-- Each copy is that of one node, and each node has one copy; only what was born below is copied.
pub record AreOneToOne (births : BirthsValue) : Type 0 where
  pub there : (slot : ℕ) (node : NodeRef) → node_of births slot ≡ Some node → copy_of births node ≡ Some slot
  pub back : (slot : ℕ) (node : NodeRef) → copy_of births node ≡ Some slot → node_of births slot ≡ Some node
  pub below : (slot : ℕ) (node : NodeRef) → node_of births slot ≡ Some node → is_born_below node ≡ true
  pub small : (slot : ℕ) (node : NodeRef) → node_of births slot ≡ Some node → is_small_node node ≡ true

-- What is kept by hash

abbrev pub births_kept : {S T : Type 0} → IndexMap ℕ NodeRef S → IndexMap NodeRef ℕ T → ℕ → BirthsValue
births_kept by_copy by_node promised =
    record { by_copy = by_copy.entries; by_node = by_node.entries; promised = promised }

-- both maps agree, and have the room that is promised
pub record KeepsBirths {S T : Type 0} (by_copy : IndexMap ℕ NodeRef S) (by_node : IndexMap NodeRef ℕ T) (promised : ℕ)
    : Type 0 where
  pub one_to_one : AreOneToOne (births_kept by_copy by_node promised)
  pub copies : promised ≤ spare by_copy
  pub nodes : promised ≤ spare by_node

-- Looks

-- the node that has its object in a slot of the upper layer
abbrev pub node_above : BirthsValue → FilesystemId → ℕ → NodeRef
node_above births overlay slot =
    unwrap_or (node_of births slot) (record { filesystem = overlay; slot = slot; birth = Here })

-- the slot of the upper layer in which a node has its object
abbrev pub slot_by : BirthsValue → NodeRef → Birth → Option ℕ
slot_by births node Here = Some node.slot
slot_by births node (Below layer directory rank) = copy_of births node

abbrev pub slot_above : BirthsValue → NodeRef → Option ℕ
slot_above births node = slot_by births node node.birth

-- A node that has its object in a slot of the upper layer finds this slot.
abbrev pub NodesAboveFindTheirSlots : Type 0
NodesAboveFindTheirSlots =
    (births : BirthsValue) (overlay : FilesystemId) (slot : ℕ) → AreOneToOne births
    → slot_above births (node_above births overlay slot) ≡ Some slot

-- No two slots of the upper layer have a node of one number.
abbrev pub NodesAboveAreApart : Type 0
NodesAboveAreApart =
    (births : BirthsValue) (overlay : FilesystemId) (one other : ℕ) → AreOneToOne births
    → overlay.count < 2 ^ 64 → one < 2 ^ 64 → other < 2 ^ 64
    → number_of (node_above births overlay one) ≡ number_of (node_above births overlay other) → one ≡ other

-- the births by numbers: of each inode of the upper layer's tree the number of the node whose copy it is
abbrev pub births_by : ℕ → BirthsValue → ℕ → Option ℕ
births_by upper births object = option_map number_of (node_of births (exchanged upper object))

-- A node has the number of its object in the upper layer, which a copy has by its birth.
abbrev pub NumbersAboveAreByBirths : Type 0
NumbersAboveAreByBirths =
    (births : BirthsValue) (overlay : FilesystemId) (upper slot : ℕ) → slot < 2 ^ 64
    → number_of (node_above births overlay slot)
    ≡ unwrap_or (births_by upper births (inode_number upper slot)) (inode_number overlay.count slot)
