-- Uses of nodes in a store: open(2) and close(2), also of what has lost its name. In a plain filesystem a node is an
-- inode, which is used once more or less. In an overlay the node is, if it is kept without a name.
use Rattle.std.specs.Prelude.{None, Option, Some, nat_eq, ℕ, ◌≡◌}
use Rattle.vt_spec.specs.Inodes.{pinned, unpinned, uses_in}
use Rattle.vt_spec.specs.Lists.{then_some}
use Rattle.vt_births.specs.declared.upper_nodes.UpperNodes.{UpperNodes}
use Rattle.vt_fs.specs.FilesystemsValue.{ChangesInodes, Filesystems, inodes_at}
use Rattle.vt_location.specs.declared.locations.InodeRef.{InodeRef}
use Rattle.vt_location.specs.declared.locations.NodeRef.{NodeRef}
use Rattle.vt_location.specs.Locations.{inode_of, number_of}
use Rattle.vt_layered.specs.LayeredValue.{Above, LayeredValue}
use Rattle.vt_layered.specs.Pins.{IsPinned, IsUnpinned, let_go_by, uses_above, with_nodes}
use Rattle.vt_store.specs.OverlaysValue.{Overlays, layered_of, with_overlay_changed}
use Rattle.vt_store.specs.StoreValue.{StoreValue, layered_in}

-- how many uses of a node its overlay counts
abbrev pub uses_kept : NodeRef → Option LayeredValue → ℕ
uses_kept node None = 0
uses_kept node (Some layered) = uses_above layered.above node

-- and how many a store does
abbrev pub uses_by : Filesystems → NodeRef → Option LayeredValue → ℕ
uses_by plain node None = uses_in ((inodes_at plain node.filesystem.count).inode (number_of node))
uses_by plain node (Some layered) = uses_above layered.above node

abbrev pub node_uses : StoreValue → NodeRef → ℕ
node_uses store node = uses_by store.plain node (layered_in store node.filesystem.count)

-- the overlays where that of a count has other nodes beside its layers
abbrev pub with_nodes_in : ℕ → UpperNodes → Overlays → Overlays
with_nodes_in count nodes overlays =
    with_overlay_changed count (λ entry. record entry { above = with_nodes nodes entry.above }) overlays

-- the nodes of the overlay of a count change so; a read-only overlay stays as it is, and so do all if there is none
abbrev pub ChangesAbove : (UpperNodes → UpperNodes → Type 0) → ℕ → Overlays → Overlays → Option Above → Type 0
ChangesAbove change count old new None = new ≡ old
ChangesAbove change count old new (Some above) =
    (nodes : UpperNodes) × change above.nodes nodes × (new ≡ with_nodes_in count nodes old)

abbrev pub ChangesOverlay : (UpperNodes → UpperNodes → Type 0) → ℕ → Overlays → Overlays → Type 0
ChangesOverlay change count old new =
    ChangesAbove change count old new (then_some (layered_of old count) (λ layered. layered.above))

-- what the overlay of a node lets go of plain filesystems with the last use of that
abbrev pub kept_let_go : NodeRef → Option LayeredValue → Option InodeRef
kept_let_go node layered = then_some layered (λ one. let_go_by one.overlay one.above node)

abbrev pub LetsGo : Option InodeRef → Filesystems → Filesystems → Type 0
LetsGo None old new = new ≡ old
LetsGo (Some inode) old new =
    ChangesInodes inode.filesystem.count (λ inodes. unpinned nat_eq inodes (inode_of inode)) old new

-- One use more of a node,
abbrev pub PinsBy : NodeRef → StoreValue → StoreValue → Option LayeredValue → Type 0
PinsBy node old new None =
    (new.overlays ≡ old.overlays) × ChangesInodes node.filesystem.count
    (λ inodes. pinned nat_eq inodes (number_of node)) old.plain new.plain
PinsBy node old new (Some layered) =
    (new.plain ≡ old.plain)
    × ChangesAbove (IsPinned node) node.filesystem.count old.overlays new.overlays layered.above

abbrev pub Pins : NodeRef → StoreValue → StoreValue → Type 0
Pins node old new = PinsBy node old new (layered_in old node.filesystem.count)

-- and one less.
abbrev pub UnpinsBy : NodeRef → StoreValue → StoreValue → Option LayeredValue → Type 0
UnpinsBy node old new None =
    (new.overlays ≡ old.overlays) × ChangesInodes node.filesystem.count
    (λ inodes. unpinned nat_eq inodes (number_of node)) old.plain new.plain
UnpinsBy node old new (Some layered) =
    LetsGo (let_go_by layered.overlay layered.above node) old.plain new.plain
    × ChangesAbove (IsUnpinned node) node.filesystem.count old.overlays new.overlays layered.above

abbrev pub Unpins : NodeRef → StoreValue → StoreValue → Type 0
Unpins node old new = UnpinsBy node old new (layered_in old node.filesystem.count)
