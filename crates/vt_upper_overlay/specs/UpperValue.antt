-- What contracts see of an overlay with an upper layer: the kernel's overlayfs document, "upper and lower".
use Rattle.std.specs.Prelude.{None, Option, Some, if◌then◌else◌, nat_lt, option_map, slice_get, suc, zero, ℕ, ◌+◌, ◌^◌}
use Rattle.vt_location.specs.declared.births.Birth.{Birth}
use Rattle.vt_location.specs.declared.births.Birth.TheVariants.{Below, Here}
use Rattle.vt_location.specs.declared.locations.NodeRef.{NodeRef}
use Rattle.vt_births.specs.Births.{node_above, slot_above}
use Rattle.vt_overlay.specs.declared.merge.layers.Real.{Real as Object}
use Rattle.vt_overlay.specs.MergedTree.{born_below, real_in}
use Rattle.vt_upper_overlay.specs.declared.overlay.UpperOverlay.{UpperOverlay}

-- all its layers from the top, of which the first is the upper one; its work directory; its births, and what it keeps
-- without a name
abbrev pub UpperOverlayValue : Type 0
UpperOverlayValue = UpperOverlay

-- Nodes and their objects

-- the place, counted from the top, of the layer in which a node was born: the first lower layer has place 1
abbrev pub place_born : Birth → ℕ
place_born Here = 0
place_born (Below layer directory rank) = layer + 1

-- the object of a node: that in its slot of the upper layer, if it has one there, else what it was born as
abbrev pub real_by : UpperOverlayValue → NodeRef → Option ℕ → Option Object
real_by overlay node (Some slot) = option_map (real_in 0 slot) (slice_get overlay.layers.lowers 0)
real_by overlay node None =
    option_map (real_in (place_born node.birth) node.slot) (slice_get overlay.layers.lowers (place_born node.birth))

abbrev pub real_at : UpperOverlayValue → NodeRef → Option Object
real_at overlay node = real_by overlay node (slot_above overlay.nodes.births node)

-- The node of an object that is shown, by the node that this object has where the upper layer is looked through as a
-- lower one: what is in the upper layer is the node whose copy it is, or was born there; places count from the first
-- lower layer.
abbrev pub node_for : UpperOverlayValue → ℕ → Birth → NodeRef
node_for overlay slot Here = node_above overlay.nodes.births overlay.layers.number slot
node_for overlay slot (Below zero directory rank) = node_above overlay.nodes.births overlay.layers.number slot
node_for overlay slot (Below (suc layer) directory rank) =
    born_below overlay.layers.number layer directory rank slot

-- And the other way: a node that was born in a lower layer, where the upper layer is looked through as the highest lower
-- one. Places have 16 bits.
abbrev pub below_upper : NodeRef → Birth → Option NodeRef
below_upper node Here = None
below_upper node (Below layer directory rank) =
    if nat_lt (layer + 1) (2 ^ 16) then Some (record node { birth = Below (layer + 1) directory rank }) else None
