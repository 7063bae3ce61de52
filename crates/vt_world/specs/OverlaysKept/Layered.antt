-- The inodes of an overlay of either kind, each with its real object, in the order of their numbers: what its layers
-- show, and with an upper layer also what it keeps without a name. The kernel's overlayfs document, "upper and lower";
-- unlink(2) of what is in use.
use Rattle.std.specs.Prelude.{List, None, Option, Some, [], filter_map, is_some, map, nat_eq, option_map, true, unwrap_or, ⊤, ℕ, ◌≡◌}
use Rattle.vt_spec.specs.Machine.Invariants.{real_node}
use Rattle.vt_spec.specs.Machine.Merging.{MergedInode, real_of, tree_of}
use Rattle.vt_spec.specs.Machine.World.{Real}
use Rattle.vt_spec.specs.Machine.World.Real.{Lower}
use Rattle.vt_spec.specs.Tree.{Node}
use Rattle.vt_location.specs.InOrder.{in_order_by}
use Rattle.vt_fs.specs.FilesystemsValue.{Filesystems}
use Rattle.vt_overlay.specs.MergedTree.{OverlayValue, plain_world}
use Rattle.vt_upper_overlay.specs.MergedAbove.{held, merged_above, numbers_there, upper_seen}
use Rattle.vt_layered.specs.LayeredTree.{StandsLayered, layered_files, layered_objects}
use Rattle.vt_layered.specs.LayeredValue.{Above, upper_of}
use Rattle.vt_layered.specs.Staying.{ShowsTheSame}
use Rattle.vt_world.specs.OverlaysKept.Inodes.{inode_kept, inodes_kept}

-- an inode of an overlay with an upper layer, with its real object, if it is there
abbrev pub object_above : Filesystems → OverlayValue → Above → ℕ → Option (Node ℕ × Real ℕ)
object_above trees overlay above number =
    option_map (λ node. (node, unwrap_or (layered_objects trees overlay (Some above) number) (Lower 0 [])))
    ((merged_above trees (upper_of overlay above)).node number)

-- all that are shown or kept, under their numbers
abbrev pub objects_above : Filesystems → OverlayValue → Above → List (ℕ × (Node ℕ × Real ℕ))
objects_above trees overlay above =
    filter_map (λ number. option_map (λ object. (number, object)) (object_above trees overlay above number))
    (numbers_there trees (upper_of overlay above))

abbrev pub inodes_layered : Filesystems → OverlayValue → Option Above → List (MergedInode ℕ)
inodes_layered trees overlay None = inodes_kept trees overlay
inodes_layered trees overlay (Some above) =
    map inode_kept (in_order_by (λ number. number) (objects_above trees overlay above))

-- These inodes are those of the tree,
abbrev pub LayeredInodesAreTheTree : Type 0
LayeredInodesAreTheTree =
    (trees : Filesystems) (overlay : OverlayValue) (above : Option Above)
    → (tree_of nat_eq (layered_files trees overlay above).tree.root (inodes_layered trees overlay above)).tree
    ≡ (layered_files trees overlay above).tree

-- what an overlay keeps without a name is there: the real object of each is an inode of its layer
abbrev pub KeptAreThere : Filesystems → OverlayValue → Option Above → Type 0
KeptAreThere trees overlay None = ⊤
KeptAreThere trees overlay (Some above) =
    (number : ℕ) (real : Real ℕ) → held trees (upper_of overlay above) number ≡ Some real
    → is_some (real_node nat_eq (plain_world trees) (upper_seen (upper_of overlay above)) real) ≡ true

-- and if they are there, they have its real objects.
abbrev pub LayeredInodesHaveTheirObjects : Type 0
LayeredInodesHaveTheirObjects =
    (trees : Filesystems) (overlay : OverlayValue) (above : Option Above) → StandsLayered trees overlay above
    → KeptAreThere trees overlay above
    → real_of nat_eq (inodes_layered trees overlay above) ≡ layered_objects trees overlay above

-- Where an overlay shows the same, they are the same, in the same order.
abbrev pub LayeredInodesStay : Type 0
LayeredInodesStay =
    (old new : Filesystems) (overlay : OverlayValue) (above : Option Above) → ShowsTheSame old new overlay above
    → inodes_layered new overlay above ≡ inodes_layered old overlay above
