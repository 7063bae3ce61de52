-- Plans of copies, and what they need: the kernel's overlayfs document, "upper and lower" (copy_up).
use Rattle.std.specs.Prelude.{All, List, None, Some, [], false, is_some, length, map, nat_eq, reverse, true, ℕ, ⊤, ◌<◌, ◌∷◌, ◌≡◌, ◌≤◌}
use Rattle.vt_spec.specs.FileTree.{has_entry_to}
use Rattle.vt_spec.specs.Rights.{is_directory}
use Rattle.vt_spec.specs.Tree.{Tree, entries_in, kind_of}
use Rattle.vt_spec.specs.TreeInvariant.{IsDirectory, entry_at}
use Rattle.vt_location.specs.declared.locations.InodeRef.{InodeRef}
use Rattle.vt_location.specs.declared.locations.NodeRef.{NodeRef}
use Rattle.vt_location.specs.Locations.{inode_of}
use Rattle.vt_location.specs.Numbers.{inode_number}
use Rattle.vt_location.specs.SameNodes.{same_node}
use Rattle.vt_fs.specs.FilesystemsValue.{Filesystems, files_at, inodes_promised}
use Rattle.vt_births.specs.Births.{BirthsValue, copy_of, is_born_below, node_of}
use Rattle.vt_copyup.specs.declared.plans.Piece.{Piece}
use Rattle.vt_copyup.specs.declared.plans.Plan.{Plan}
use Rattle.vt_copyup.specs.declared.plans.PlannedCopy.{PlannedCopy}

-- the pieces of a plan in the order in which they are made, and their copies
abbrev pub in_turn : Plan → List Piece
in_turn plan = reverse plan.pieces.items

abbrev pub copies_of : List Piece → List PlannedCopy
copies_of pieces = map (λ (piece : Piece). piece.copy) pieces

-- how many copies are planned
abbrev pub many : Plan → ℕ
many plan = length plan.pieces.items

-- each entry leads to what is there
abbrev pub EntriesAreThere : Tree ℕ → Type 0
EntriesAreThere tree =
    (directory number : ℕ) → has_entry_to nat_eq tree directory number ≡ true → is_some (tree.node number) ≡ true

-- each copy that has a birth is in the upper layer's tree
abbrev pub CopiesAreThere : Filesystems → ℕ → BirthsValue → Type 0
CopiesAreThere trees upper births =
    (slot : ℕ) (node : NodeRef) → node_of births slot ≡ Some node
    → is_some ((files_at trees upper).tree.node (inode_number upper slot)) ≡ true

-- A copy fits into a directory: this has no such name, and room for one.
pub record Fits (copy : PlannedCopy) (room : ℕ) (directory : InodeRef) (trees : Filesystems) : Type 0 where
  pub there : IsDirectory (files_at trees directory.filesystem.count).tree (inode_of directory)
  pub free : entry_at (files_at trees directory.filesystem.count).tree (inode_of directory) copy.name.items ≡ None
  pub has_room : length (entries_in ((files_at trees directory.filesystem.count).tree.node (inode_of directory))) < room

-- so does the first of a plan
abbrev pub FirstFits : List Piece → ℕ → InodeRef → Filesystems → Type 0
FirstFits [] room directory trees = ⊤
FirstFits (piece ∷ rest) room directory trees = Fits piece.copy room directory trees

-- each copy but the last is a directory, in which there is room for the next
abbrev pub AreNested : List Piece → Type 0
AreNested [] = ⊤
AreNested (piece ∷ []) = ⊤
AreNested (piece ∷ next ∷ rest) =
    (is_directory (kind_of piece.copy.node.content) ≡ true) × (0 < next.room) × AreNested (next ∷ rest)

-- they are copies of different nodes
abbrev pub AreApart : List Piece → Type 0
AreApart [] = ⊤
AreApart (piece ∷ rest) =
    All (λ (other : Piece). same_node piece.copy.born other.copy.born ≡ false) rest × AreApart rest

-- What copies need that are made one in the other, the first in a directory: inodes and births that are promised, and
-- nodes below the upper layer that have no copy yet.
pub record AreReady (pieces : List Piece) (directory : InodeRef) (trees : Filesystems) (births : BirthsValue) : Type 0
  where
    pub entries : EntriesAreThere (files_at trees directory.filesystem.count).tree
    pub there : CopiesAreThere trees directory.filesystem.count births
    pub many_inodes : length pieces ≤ inodes_promised trees directory.filesystem.count
    pub many_births : length pieces ≤ births.promised
    pub nested : AreNested pieces
    pub below : All (λ (piece : Piece). is_born_below piece.copy.born ≡ true) pieces
    pub new : All (λ (piece : Piece). copy_of births piece.copy.born ≡ None) pieces
    pub apart : AreApart pieces

-- a plan can be applied
pub record IsReady (plan : Plan) (trees : Filesystems) (births : BirthsValue) (room : ℕ) : Type 0 where
  pub first : FirstFits (in_turn plan) room plan.directory trees
  pub all : AreReady (in_turn plan) plan.directory trees births
