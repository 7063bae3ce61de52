-- What is planned of a path: the kernel's overlayfs document, "upper and lower" (copy_up).
use Rattle.std.specs.Prelude.{Bool, List, None, Some, [], map, suc, slice_get, ℕ, ⊤, ◌++◌, ◌∷◌, ◌≡◌}
use Rattle.vt_spec.specs.Lists.{Fresh, then_some}
use Rattle.vt_spec.specs.Machine.CopyUp.{Stack}
use Rattle.vt_spec.specs.Machine.Layers.{at_path, shown}
use Rattle.vt_spec.specs.Machine.Merging.{layer_node}
use Rattle.vt_spec.specs.Rights.{Credentials}
use Rattle.vt_spec.specs.Tree.{Node}
use Rattle.vt_spec.specs.TreeInvariant.{led}
use Rattle.vt_location.specs.declared.locations.NodeRef.{NodeRef}
use Rattle.vt_location.specs.declared.numbers.FilesystemId.{FilesystemId}
use Rattle.vt_location.specs.Locations.{inode_of}
use Rattle.vt_fs.specs.FilesystemsValue.{Filesystems, files_at}
use Rattle.vt_overlay.specs.declared.merge.layers.LayerRef.{LayerRef}
use Rattle.vt_overlay.specs.Merge.LayerValue.{layer_of, layers_of}
use Rattle.vt_overlay.specs.MergedTree.{node_born}
use Rattle.vt_laws_worlds.specs.Seen.CopySteps.{ArePlanned, Copy}
use Rattle.vt_births.specs.Births.{BirthsValue, copy_of}
use Rattle.vt_copyup.specs.Copied.{copied}
use Rattle.vt_copyup.specs.Plans.{CopiesAreThere, in_turn}
use Rattle.vt_copyup.specs.declared.plans.Piece.{Piece}
use Rattle.vt_copyup.specs.declared.plans.Plan.{Plan}
use Rattle.vt_copyup.specs.declared.plans.PlannedCopy.{PlannedCopy}

-- the upper layer's directory, the lower layers and the mounter, as the definitions see them
abbrev pub stack_of : Filesystems → LayerRef → List LayerRef → Credentials → Stack ℕ
stack_of trees upper lowers mounter =
    record { directory = inode_of upper.directory; lowers = layers_of trees lowers; mounter = mounter }

-- Layers are given with the upper one first. A lower layer shows a node at a path, which was born there.
pub record IsNodeAt (trees : Filesystems) (layers : List LayerRef) (overlay : FilesystemId) (path : List (List ℕ))
    (node : NodeRef) : Type 0 where
  pub place : ℕ
  pub object : ℕ
  pub lower : LayerRef
  pub layer : slice_get layers (suc place) ≡ Some lower
  pub shows : shown (layers_of trees layers) path ≡ Some (record { layer = suc place; object = object })
  pub leads : at_path (layer_of trees lower) path ≡ Some object
  pub is : node ≡ node_born trees overlay place lower path

-- What a lower layer shows has no copy yet, and each copy that has a birth is in the upper layer's tree.
pub record AreBirthsOf (trees : Filesystems) (layers : List LayerRef) (overlay : FilesystemId) (births : BirthsValue)
    : Type 0 where
  pub there : (upper : LayerRef) → slice_get layers 0 ≡ Some upper
      → CopiesAreThere trees upper.directory.filesystem.count births
  pub new : (path : List (List ℕ)) (node : NodeRef) → IsNodeAt trees layers overlay path node
      → copy_of births node ≡ None

-- A copy is that of what the layers show under its name in a directory, and of the node there.
pub record IsCopyIn (with_bytes : Bool) (trees : Filesystems) (layers : List LayerRef) (overlay : FilesystemId) (front : List (List ℕ))
    (copy : PlannedCopy) : Type 0 where
  pub inode : Node ℕ
  pub shows : then_some (shown (layers_of trees layers) (front ++ copy.name.items ∷ []))
      (layer_node (layers_of trees layers)) ≡ Some inode
  pub node : copy.node ≡ copied with_bytes inode
  pub born : IsNodeAt trees layers overlay (front ++ copy.name.items ∷ []) copy.born

-- so is each copy of a plan, the first in a directory and each further one in that before
abbrev pub AreCopiesFrom : (with_bytes : Bool) → Filesystems → List LayerRef → FilesystemId → List (List ℕ) → List Piece → Type 0
AreCopiesFrom with_bytes trees layers overlay front [] = ⊤
AreCopiesFrom with_bytes trees layers overlay front (piece ∷ rest) =
    IsCopyIn with_bytes trees layers overlay front piece.copy
    × AreCopiesFrom with_bytes trees layers overlay (front ++ piece.copy.name.items ∷ []) rest

-- the names of a plan's copies
abbrev pub names_of : List Piece → List (List ℕ)
names_of pieces = map (λ (piece : Piece). piece.copy.name.items) pieces

-- The definitions plan these copies, from a path on: the same names, and inodes that are copied alike.
pub record ArePlannedBy (with_bytes : Bool) (fresh : Fresh ℕ) (mounter : Credentials) (trees : Filesystems) (upper : LayerRef)
    (lowers : List LayerRef) (front : List (List ℕ)) (pieces : List Piece) : Type 0 where
  pub copies : List Copy
  pub planned : ArePlanned fresh (stack_of trees upper lowers mounter)
      (files_at trees upper.directory.filesystem.count) front copies
  pub names : map (λ (copy : Copy). copy.name) copies ≡ names_of pieces
  pub nodes : map (λ (copy : Copy). copied with_bytes copy.node) copies ≡ map (λ (piece : Piece). piece.copy.node) pieces

-- A plan is that of a path: of the longest front that the upper layer has it begins in the inode there, and it copies what
-- the layers show at each further front.
pub record IsPlanOf (with_bytes : Bool) (trees : Filesystems) (upper : LayerRef) (lowers : List LayerRef) (overlay : FilesystemId)
    (path : List (List ℕ)) (plan : Plan) : Type 0 where
  pub front : List (List ℕ)
  pub whole : front ++ names_of (in_turn plan) ≡ path
  pub leads : led (files_at trees upper.directory.filesystem.count).tree (inode_of upper.directory) front
      ≡ Some (inode_of plan.directory)
  pub filesystem : plan.directory.filesystem ≡ upper.directory.filesystem
  pub planned : (fresh : Fresh ℕ) (mounter : Credentials)
      → ArePlannedBy with_bytes fresh mounter trees upper lowers front (in_turn plan)
  pub copies : AreCopiesFrom with_bytes trees (upper ∷ lowers) overlay front (in_turn plan)
