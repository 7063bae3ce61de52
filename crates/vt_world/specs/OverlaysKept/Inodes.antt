-- The inodes of an overlay that is kept as its layers, each with its real object, in the order of their numbers. A value
-- of a world has no functions, so it has these in the place of the tree.
use Rattle.std.specs.Prelude.{List, Option, [], filter_map, map, nat_eq, option_map, unwrap_or, ℕ, ◌≡◌}
use Rattle.vt_spec.specs.Machine.Invariants.{ListsNumbers}
use Rattle.vt_spec.specs.Machine.Merging.{MergedInode, real_of, tree_of}
use Rattle.vt_spec.specs.Machine.World.{Real}
use Rattle.vt_spec.specs.Machine.World.Real.{Lower}
use Rattle.vt_spec.specs.Tree.{Node}
use Rattle.vt_location.specs.InOrder.{in_order_by}
use Rattle.vt_fs.specs.FilesystemsValue.{Filesystems}
use Rattle.vt_overlay.specs.MergedTree.{AreLayers, OverlayValue, merged_files, merged_tree, numbers_shown}
use Rattle.vt_world.specs.OverlaysKept.Kept.{IsShownAlike, real_objects}

-- an inode with its real object, if it is there
abbrev pub object_at : Filesystems → OverlayValue → ℕ → Option (Node ℕ × Real ℕ)
object_at trees overlay number =
    option_map (λ node. (node, unwrap_or (real_objects trees overlay number) (Lower 0 [])))
    ((merged_tree trees overlay).node number)

-- all that are shown, under their numbers
abbrev pub objects_shown : Filesystems → OverlayValue → List (ℕ × (Node ℕ × Real ℕ))
objects_shown trees overlay =
    filter_map (λ number. option_map (λ object. (number, object)) (object_at trees overlay number))
    (numbers_shown trees overlay)

abbrev pub inode_kept : ℕ × (Node ℕ × Real ℕ) → MergedInode ℕ
inode_kept kept = record { number = kept.0; node = kept.1.0; real = kept.1.1 }

abbrev pub inodes_kept : Filesystems → OverlayValue → List (MergedInode ℕ)
inodes_kept trees overlay = map inode_kept (in_order_by (λ number. number) (objects_shown trees overlay))

-- These inodes are those of the tree,
abbrev pub InodesAreTheTree : Type 0
InodesAreTheTree =
    (trees : Filesystems) (overlay : OverlayValue)
    → (tree_of nat_eq (merged_tree trees overlay).root (inodes_kept trees overlay)).tree ≡ merged_tree trees overlay

-- and have its real objects.
abbrev pub InodesHaveTheirObjects : Type 0
InodesHaveTheirObjects =
    (trees : Filesystems) (overlay : OverlayValue) → AreLayers trees overlay.lowers
    → real_of nat_eq (inodes_kept trees overlay) ≡ real_objects trees overlay

-- The numbers beside its tree, of all that is shown, are those of its inodes.
abbrev pub NumbersAreListed : Type 0
NumbersAreListed =
    (trees : Filesystems) (overlay : OverlayValue) → AreLayers trees overlay.lowers
    → ListsNumbers nat_eq (merged_files trees overlay)

-- Where an overlay is shown alike, they are the same, in the same order.
abbrev pub InodesStay : Type 0
InodesStay =
    (old new : Filesystems) (overlay : OverlayValue) → IsShownAlike old new overlay
    → inodes_kept new overlay ≡ inodes_kept old overlay
