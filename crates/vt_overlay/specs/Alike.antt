-- What a node of an overlay has of its real object: the kernel's overlayfs document, "non-directories".
use Rattle.std.specs.Prelude.{Option, nat_eq, option_map, slice_get, ℕ, ◌≡◌}
use Rattle.vt_spec.specs.Lists.{then_some}
use Rattle.vt_spec.specs.Machine.Invariants.{node_shown}
use Rattle.vt_spec.specs.Machine.Layers.{Shown}
use Rattle.vt_spec.specs.Tree.{Node}
use Rattle.vt_location.specs.Fronts.{front}
use Rattle.vt_fs.specs.FilesystemsValue.{Filesystems, files_at, node_seen}
use Rattle.vt_overlay.specs.declared.merge.layers.LayerRef.{LayerRef}
use Rattle.vt_overlay.specs.MergedTree.{OverlayValue, merged_tree, object_shown, overlay_seen, path_at, plain_world}

-- the inode of the real object of a node
abbrev pub real_inode : Filesystems → OverlayValue → ℕ → Option (Node ℕ)
real_inode trees overlay number =
    then_some (path_at trees overlay number) (node_shown nat_eq (plain_world trees) (overlay_seen overlay))

-- an inode of the tree of a layer as that keeps it, its entries and its parent by slots
abbrev pub lent_at : Filesystems → ℕ → LayerRef → Option (Node ℕ)
lent_at trees object layer =
    option_map (node_seen layer.directory.filesystem.count)
    ((files_at trees layer.directory.filesystem.count).tree.node object)

-- so the real object of a node
abbrev pub real_lent : Filesystems → OverlayValue → ℕ → Option (Node ℕ)
real_lent trees overlay number =
    then_some (object_shown trees overlay number) (λ (seen : Shown ℕ).
    then_some (slice_get overlay.lowers seen.layer) (lent_at trees seen.object))

-- A node has the owner, group, mode, kind and content of its real object.
abbrev pub ObjectsAreAlike : Type 0
ObjectsAreAlike =
    (trees : Filesystems) (overlay : OverlayValue) (number : ℕ)
    → front (real_inode trees overlay number) ≡ front ((merged_tree trees overlay).node number)
