-- The last name of a node: unlink(2), rmdir(2). Nothing else shows it.
use Rattle.std.specs.Prelude.{Bool, List, Some, [], false, if◌then◌else◌, is_some, nat_eq, true, ℕ, ◌&&◌, ◌++◌, ◌∷◌, ◌≡◌, ◌≢◌, ◌↔◌}
use Rattle.vt_spec.specs.Language.Changes.{changed}
use Rattle.vt_spec.specs.Language.Changes.Change.{Remove}
use Rattle.vt_spec.specs.Lists.{holds_of}
use Rattle.vt_spec.specs.Tree.{entries_in}
use Rattle.vt_spec.specs.TreeInvariant.{HasName}
use Rattle.vt_births.specs.Births.{node_above, slot_above}
use Rattle.vt_fs.specs.FilesystemsValue.{Filesystems, files_at}
use Rattle.vt_location.specs.declared.locations.InodeRef.{InodeRef}
use Rattle.vt_location.specs.declared.locations.NodeRef.{NodeRef}
use Rattle.vt_location.specs.Locations.{inode_of, is_small_node, number_of}
use Rattle.vt_location.specs.Numbers.{exchanged}
use Rattle.vt_node.specs.Ranks.{name_ranked}
use Rattle.vt_upper_overlay.specs.MergedAbove.{directory_path, merged_files, number_at}
use Rattle.vt_upper_overlay.specs.Standing.{StandsAbove}
use Rattle.vt_upper_overlay.specs.UpperValue.{UpperOverlayValue}

-- a name of the directory at a path leads to a node
pub record IsNameAt (trees : Filesystems) (overlay : UpperOverlayValue) (directory node : NodeRef)
    (path : List (List ℕ)) (name : List ℕ) : Type 0 where
  pub way : directory_path trees overlay (number_of directory) ≡ Some path
  pub leads : number_at trees overlay (path ++ name ∷ []) ≡ Some (number_of node)

-- what has a number is shown at a path alone, or at another one too
abbrev pub IsOnlyAt : Filesystems → UpperOverlayValue → ℕ → List (List ℕ) → Type 0
IsOnlyAt trees overlay number path =
    (other : List (List ℕ)) → number_at trees overlay other ≡ Some number → other ≡ path

pub record IsAlsoElsewhere (trees : Filesystems) (overlay : UpperOverlayValue) (number : ℕ) (path : List (List ℕ))
    : Type 0 where
  pub other : List (List ℕ)
  pub numbered : number_at trees overlay other ≡ Some number
  pub differs : other ≢ path

-- the name at that path is the last one just if this says so
abbrev pub IsToldLast : Bool → Filesystems → UpperOverlayValue → ℕ → List (List ℕ) → Type 0
IsToldLast true trees overlay number path = IsOnlyAt trees overlay number path
IsToldLast false trees overlay number path = IsAlsoElsewhere trees overlay number path

-- A name that is removed from the merged tree is the last one of its node just if that has no name then.
abbrev pub LastNamesLeaveNone : Type 0
LastNamesLeaveNone =
    (trees : Filesystems) (overlay : UpperOverlayValue) (directory node : NodeRef) (path : List (List ℕ))
    (name : List ℕ)
    → StandsAbove trees overlay → is_small_node directory ≡ true → directory.filesystem ≡ overlay.layers.number
    → IsNameAt trees overlay directory node path name
    → (IsOnlyAt trees overlay (number_of node) (path ++ name ∷ [])
    ↔ ¬ (HasName (changed nat_eq (merged_files trees overlay)
    (Remove (number_of directory) name (number_of node))).tree (number_of node)))

-- of one directory one name does not count: from which rank on the names count of the directory in a slot
abbrev pub first_rank : UpperOverlayValue → NodeRef → ℕ → ℕ
first_rank overlay directory slot =
    if holds_of (nat_eq slot) (slot_above overlay.nodes.births directory) then 1 else 0

-- a directory of the upper layer is shown, and has a name for an inode that counts
abbrev pub is_other_name : Filesystems → UpperOverlayValue → InodeRef → NodeRef → ℕ → Bool
is_other_name trees overlay inode directory other =
    is_some (name_ranked (entries_in ((files_at trees inode.filesystem.count).tree.node other)) (inode_of inode)
    (first_rank overlay directory (exchanged inode.filesystem.count other)))
    && is_some (directory_path trees overlay
    (number_of (node_above overlay.nodes.births overlay.layers.number (exchanged inode.filesystem.count other))))
