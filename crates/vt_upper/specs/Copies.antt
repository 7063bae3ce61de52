-- The copies that a change of an object needs: the kernel's overlayfs document, "upper and lower" (copy_up).
use Rattle.std.specs.Prelude.{Bool, List, Option, Some, [], ℕ, ◌∷◌, ◌≡◌}
use Rattle.vt_spec.specs.Tree.{Node}
use Rattle.vt_copyup.specs.declared.plans.Piece.{Piece}
use Rattle.vt_copyup.specs.declared.plans.Plan.{Plan}
use Rattle.vt_copyup.specs.Planned.{IsPlanOf}
use Rattle.vt_copyup.specs.Plans.{in_turn}
use Rattle.vt_fs.specs.FilesystemsValue.{Filesystems, files_at}
use Rattle.vt_location.specs.declared.locations.NodeRef.{NodeRef}
use Rattle.vt_location.specs.Locations.{inode_of, number_of}
use Rattle.vt_overlay.specs.declared.merge.layers.LayerRef.{LayerRef}
use Rattle.vt_overlay.specs.declared.merge.layers.Real.{Real}
use Rattle.vt_upper_overlay.specs.MergedAbove.{number_at}
use Rattle.vt_upper_overlay.specs.UpperValue.{UpperOverlayValue, real_at}

-- None are needed of an object in the upper layer. Of any other one they are those of a path at which it is, from the
-- longest front on that the upper layer has.
pub data AreCopiesOf (with_bytes : Bool) (trees : Filesystems) (overlay : UpperOverlayValue) (node : NodeRef)
    : Plan → Type 0 where
  is_above : (plan : Plan) (real : Real) → real_at overlay node ≡ Some real → real.layer ≡ 0
      → plan.directory ≡ real.inode → plan.pieces.items ≡ [] → AreCopiesOf with_bytes trees overlay node plan
  is_below : (plan : Plan) (path : List (List ℕ)) → number_at trees overlay path ≡ Some (number_of node)
      → ((upper : LayerRef) (lowers : List LayerRef) → overlay.layers.lowers ≡ upper ∷ lowers
      → IsPlanOf with_bytes trees upper lowers overlay.layers.number path plan)
      → AreCopiesOf with_bytes trees overlay node plan

-- What is said of the inode that is copied last, or, where there are no copies, of the one that is there.
abbrev pub IsLastOf : (IsCopied IsThere : Option (Node ℕ) → Type 0) → List Piece → Option (Node ℕ) → Type 0
IsLastOf IsCopied IsThere [] node = IsThere node
IsLastOf IsCopied IsThere (piece ∷ []) _ = IsCopied (Some piece.copy.node)
IsLastOf IsCopied IsThere (piece ∷ next ∷ rest) node = IsLastOf IsCopied IsThere (next ∷ rest) node

-- The object fits once it is in the upper layer: as its last copy, or as it is there.

abbrev pub IsLastFit : (Option (Node ℕ) → Type 0) → Plan → Filesystems → Type 0
IsLastFit Fits plan trees =
    IsLastOf Fits Fits (in_turn plan)
    ((files_at trees plan.directory.filesystem.count).tree.node (inode_of plan.directory))
