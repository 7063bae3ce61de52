-- What is lent for a node of an overlay with an upper layer, by its number: unlink(2) of what is in use, and the kernel's
-- overlayfs document, "non-directories".
use Rattle.std.specs.Prelude.{Bool, List, None, Option, Some, find, is_some, nat_eq, ℕ, ◌&&◌, ◌≡◌}
use Rattle.std.specs.Map.{keys_of}
use Rattle.vt_spec.specs.FileTree.{has_entry_to}
use Rattle.vt_spec.specs.Lists.{then_some}
use Rattle.vt_spec.specs.Machine.Layers.{shown}
use Rattle.vt_spec.specs.Tree.{Node}
use Rattle.vt_location.specs.declared.locations.NodeRef.{NodeRef}
use Rattle.vt_location.specs.Locations.{number_of}
use Rattle.vt_location.specs.Numbers.{exchanged}
use Rattle.vt_births.specs.Births.{node_above}
use Rattle.vt_fs.specs.FilesystemsValue.{Filesystems, files_at}
use Rattle.vt_location.specs.Fronts.{front}
use Rattle.vt_overlay.specs.Merge.LayerValue.{layers_of}
use Rattle.vt_upper_overlay.specs.MergedAbove.{directory_path, lent, merged_above, object_lent, path_at}
use Rattle.vt_upper_overlay.specs.Standing.{StandsAbove}
use Rattle.vt_upper_overlay.specs.UpperValue.{UpperOverlayValue}

-- the node of a number that is kept without a name
abbrev pub node_kept : UpperOverlayValue → ℕ → Option NodeRef
node_kept overlay number = find (λ node. nat_eq number (number_of node)) (keys_of overlay.nodes.kept.by_node)

-- the real object: what the layers show at the path of a number, else that of what is kept
abbrev pub lent_by_path : Filesystems → UpperOverlayValue → ℕ → Option (List (List ℕ)) → Option (Node ℕ)
lent_by_path trees overlay number None = then_some (node_kept overlay number) (object_lent trees overlay)
lent_by_path trees overlay number (Some path) = lent trees overlay (shown (layers_of trees overlay.layers.lowers) path)

abbrev pub real_lent : Filesystems → UpperOverlayValue → ℕ → Option (Node ℕ)
real_lent trees overlay number = lent_by_path trees overlay number (path_at trees overlay number)

-- a directory of the upper layer, in a filesystem, is shown and has a name for an object
abbrev pub is_shown_name : Filesystems → UpperOverlayValue → ℕ → ℕ → ℕ → Bool
is_shown_name trees overlay count object directory =
    has_entry_to nat_eq (files_at trees count).tree directory object
    && is_some (directory_path trees overlay
    (number_of (node_above overlay.nodes.births overlay.layers.number (exchanged count directory))))

-- A node has the owner, group, mode, kind and content of its real object.
abbrev pub ObjectsAreAlikeAbove : Type 0
ObjectsAreAlikeAbove =
    (trees : Filesystems) (overlay : UpperOverlayValue) (number : ℕ) → StandsAbove trees overlay
    → front (real_lent trees overlay number) ≡ front ((merged_above trees overlay).node number)
