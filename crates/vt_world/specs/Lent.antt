-- What is lent for an inode of the world: the inode of a plain tree as that keeps it, or the real object of an overlay's
-- node, its entries and its parent by slots of its layer.
use Rattle.std.specs.Prelude.{None, Option, Some, nat_eq, option_map, slice_get, ℕ, ◌-◌, ◌/◌}
use Rattle.vt_spec.specs.Lists.{then_some}
use Rattle.vt_spec.specs.Machine.Layers.{node_at_path}
use Rattle.vt_spec.specs.Machine.World.{Filesystem, Layer, Overlay, Real, World, filesystem_numbered, open_layer}
use Rattle.vt_spec.specs.Machine.World.Real.{Lower, Upper}
use Rattle.vt_spec.specs.Tree.{Node}
use Rattle.vt_fs.specs.FilesystemsValue.{node_seen}

-- the count of a filesystem's number
abbrev pub count_of : ℕ → ℕ
count_of number = (number - 1) / 4

-- a real object in the layers of an overlay
abbrev pub lent_in_layers : World ℕ → Overlay ℕ → Real ℕ → Option (Node ℕ)
lent_in_layers world overlay (Upper object) =
    then_some overlay.upper (λ (layer : Layer ℕ). option_map (node_seen (count_of layer.filesystem))
    ((filesystem_numbered nat_eq world layer.filesystem).files.tree.node object))
lent_in_layers world overlay (Lower place path) =
    then_some (slice_get overlay.lowers place) (λ (layer : Layer ℕ).
    option_map (node_seen (count_of layer.filesystem)) (node_at_path (open_layer nat_eq world layer) path))

abbrev pub lent_by : World ℕ → ℕ → Filesystem ℕ → Option (Overlay ℕ) → Option (Node ℕ)
lent_by world number filesystem None =
    option_map (node_seen (count_of filesystem.number)) (filesystem.files.tree.node number)
lent_by world number filesystem (Some overlay) = then_some (overlay.real number) (lent_in_layers world overlay)

-- of a filesystem, by its number
abbrev pub lent_of_world : World ℕ → ℕ → ℕ → Option (Node ℕ)
lent_of_world world filesystem number =
    lent_by world number (filesystem_numbered nat_eq world filesystem)
    (filesystem_numbered nat_eq world filesystem).overlay
