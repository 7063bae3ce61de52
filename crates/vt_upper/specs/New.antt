-- New objects in an upper layer: mkdir(2), symlink(2), open(2) with O_CREAT, and the kernel's overlayfs document,
-- "whiteouts and opaque directories".
use Rattle.std.specs.Prelude.{All, Bool, IfSome, IsSome, List, None, Option, Some, [], false, length, nat_eq, option_map, slice_get, true, ℕ, ⊤, ◌++◌, ◌<◌, ◌∷◌, ◌≡◌, ◌≢◌}
use Rattle.vt_spec.specs.Inodes.{Inodes, changed, uses_in}
use Rattle.vt_spec.specs.Lists.{folded}
use Rattle.vt_spec.specs.Machine.Layers.{at_path, shown}
use Rattle.vt_spec.specs.FileTree.{has_entry_to}
use Rattle.vt_spec.specs.Tree.{Entries, Node, Tree, entries_in, is_directory_node}
use Rattle.vt_spec.specs.TreeInvariant.{IsDirectory, entry_at}
use Rattle.vt_births.specs.Births.{BirthsValue}
use Rattle.vt_copyup.specs.declared.plans.Plan.{Plan}
use Rattle.vt_copyup.specs.declared.plans.PlannedCopy.{PlannedCopy}
use Rattle.vt_copyup.specs.Made.{AreMade}
use Rattle.vt_copyup.specs.Plans.{CopiesAreThere, IsReady, copies_of, in_turn, many}
use Rattle.vt_fs.specs.FilesystemsValue.{ChangesInodes, Filesystems, files_at, inodes_at, inodes_promised}
use Rattle.vt_laws_upper_layers.specs.Rows.{marking}
use Rattle.vt_laws_worlds.specs.Merging.UpperChanges.{copy_node}
use Rattle.vt_location.specs.declared.locations.InodeRef.{InodeRef}
use Rattle.vt_location.specs.declared.locations.NodeRef.{NodeRef}
use Rattle.vt_location.specs.Locations.{inode_of, number_of}
use Rattle.vt_location.specs.Numbers.{most_counted}
use Rattle.vt_overlay.specs.declared.merge.layers.LayerRef.{LayerRef}
use Rattle.vt_overlay.specs.Merge.LayerValue.{layer_of, layers_of}
use Rattle.vt_upper.specs.Copies.{AreCopiesOf, IsLastOf}
use Rattle.vt_upper.specs.declared.leaving.Leaving.{Leaving}
use Rattle.vt_upper.specs.declared.making.Place.{Place}
use Rattle.vt_upper.specs.declared.making.Place.TheVariants.{Copied, There}
use Rattle.vt_upper.specs.declared.making.Spot.{Spot}
use Rattle.vt_upper.specs.Leaving.{IsLeaving, MayBeEmptied, NamesAreUsed, gone_from, held_for, made_over, within_of}
use Rattle.vt_upper_overlay.specs.MergedAbove.{number_at, object_lent, object_shown, upper_count}
use Rattle.vt_upper_overlay.specs.UpperValue.{UpperOverlayValue}

-- an empty directory
abbrev pub IsEmptyNode : Option (Node ℕ) → Type 0
IsEmptyNode node = (is_directory_node node ≡ true) × (entries_in node ≡ [])

-- A plan knows what has a name, with all that is in it: it is another inode, nothing in it is a directory, and each may be
-- held.
pub record IsKnown (trees : Filesystems) (directory : InodeRef) (leaving : Leaving) : Type 0 where
  pub filesystem : leaving.object.filesystem ≡ directory.filesystem
  pub known : IsLeaving trees leaving
  pub few : All (λ number. uses_in ((inodes_at trees directory.filesystem.count).inode number) < most_counted)
      (held_for (Some (inode_of leaving.object)) (entries_in
      ((files_at trees directory.filesystem.count).tree.node (inode_of leaving.object))))

pub record MayBeFreed (trees : Filesystems) (directory : InodeRef) (leaving : Leaving) : Type 0 where
  pub filesystem : leaving.object.filesystem ≡ directory.filesystem
  pub known : IsLeaving trees leaving
  pub other : nat_eq (inode_of leaving.object) (inode_of directory) ≡ false
  pub emptied : MayBeEmptied (inodes_at trees directory.filesystem.count) (inode_of leaving.object)

-- the inode that leaves
abbrev pub object_in : Leaving → ℕ
object_in leaving = inode_of leaving.object

abbrev pub had_in : Spot → Option ℕ
had_in spot = option_map object_in spot.leaving

-- A name of a directory leads nowhere, or to what may leave it.
pub record HasName (trees : Filesystems) (spot : Spot) (name : List ℕ) : Type 0 where
  pub directory_there : IsDirectory (files_at trees spot.directory.filesystem.count).tree (inode_of spot.directory)
  pub leads : entry_at (files_at trees spot.directory.filesystem.count).tree (inode_of spot.directory) name
      ≡ had_in spot
  pub leaves : IfSome spot.leaving (MayBeFreed trees spot.directory)
  pub used : NamesAreUsed (inodes_at trees spot.directory.filesystem.count)

-- the directory for the first copy, or that which is there; the copies; and what has the name
abbrev pub start_of : Place → InodeRef
start_of (There spot) = spot.directory
start_of (Copied copies room) = copies.directory

abbrev pub copies_in : Place → List PlannedCopy
copies_in (There spot) = []
copies_in (Copied copies room) = copies_of (in_turn copies)

abbrev pub leaves_in : Place → Option ℕ
leaves_in (There spot) = had_in spot
leaves_in (Copied copies room) = None

-- what has the name is kept, since it is in use
abbrev pub keeps_in : Place → Bool
keeps_in (There spot) = spot.keeps
keeps_in (Copied copies room) = false

-- a place as it is, but for that
abbrev pub keeping : Bool → Place → Place
keeping keeps (There spot) = There (record spot { keeps = keeps })
keeping keeps (Copied copies room) = Copied copies room

-- A place is ready for a name: an inode more is promised than copies need, and the last copy is a directory with room.
abbrev pub IsPlaceReady : Place → List ℕ → Filesystems → BirthsValue → ℕ → Type 0
IsPlaceReady (There spot) name trees births room =
    HasName trees spot name
    × (0 < inodes_promised trees spot.directory.filesystem.count)
    × (length (entries_in ((files_at trees spot.directory.filesystem.count).tree.node (inode_of spot.directory))) < room)
IsPlaceReady (Copied copies own) name trees births room =
    IsReady copies trees births room
    × (many copies < inodes_promised trees copies.directory.filesystem.count)
    × IsLastOf (λ node. is_directory_node node ≡ true) (λ node. false ≡ true) (in_turn copies) None
    × (0 < own)

-- What is made in a directory: what has the name goes, and the inode gets it; then its mark.
abbrev pub made_in_place : Place → List ℕ → Node ℕ → (within : Entries ℕ) → (directory object : ℕ) → Inodes ℕ → Inodes ℕ
made_in_place place name node within directory object =
    made_over (keeps_in place) name (copy_node directory node) (leaves_in place) within directory object

abbrev pub made_new : Place → List ℕ → Node ℕ → Bool → (within : Entries ℕ) → (directory object : ℕ) → Inodes ℕ → Inodes ℕ
made_new place name node opaque within directory object inodes =
    folded (changed nat_eq) (made_in_place place name node within directory object inodes) (marking opaque object)

-- The copies were made, with their births, and then a change in the last one, with a new inode; of the trees only that of
-- the upper layer has changed.
pub record IsNewMade (place : Place) (change : (within : Entries ℕ) → (directory object : ℕ) → Inodes ℕ → Inodes ℕ)
    (trees : Filesystems) (births : BirthsValue) (trees_after : Filesystems) (births_after : BirthsValue)
    (object : InodeRef) : Type 0 where
  pub between : Filesystems
  pub directory : InodeRef
  pub made : AreMade (start_of place) (copies_in place) trees births between births_after directory
  pub making : ChangesInodes (start_of place).filesystem.count
      (change (within_of (files_at between (start_of place).filesystem.count).tree (leaves_in place))
      (inode_of directory) (inode_of object)) between trees_after
  pub there : CopiesAreThere trees (start_of place).filesystem.count births
      → CopiesAreThere between (start_of place).filesystem.count births_after
  pub filesystem : object.filesystem ≡ (start_of place).filesystem
  pub vacant : (files_at between (start_of place).filesystem.count).tree.node (inode_of object) ≡ None

-- how many copies are made first
abbrev pub many_in : Place → ℕ
many_in (There spot) = 0
many_in (Copied copies room) = many copies

-- the place is the last of these copies, with room for a name
abbrev pub IsCopiedFrom : Plan → Place → Type 0
IsCopiedFrom plan (There spot) = false ≡ true
IsCopiedFrom plan (Copied copies room) = (copies ≡ plan) × (0 < room)

-- a path of a directory of the overlay leads in the upper layer to an inode
pub record IsAbove (trees : Filesystems) (overlay : UpperOverlayValue) (node : NodeRef) (directory : InodeRef) : Type 0
  where
    pub path : List (List ℕ)
    pub numbered : number_at trees overlay path ≡ Some (number_of node)
    pub leads : (upper : LayerRef) → slice_get overlay.layers.lowers 0 ≡ Some upper
        → at_path (layer_of trees upper) path ≡ Some (inode_of directory)

-- The place of a directory of the overlay: the directory as it is in the upper layer, or its copy.
abbrev pub IsPlaceOf : Filesystems → UpperOverlayValue → NodeRef → Place → Type 0
IsPlaceOf trees overlay node (There spot) = IsAbove trees overlay node spot.directory
IsPlaceOf trees overlay node (Copied copies room) = AreCopiesOf true trees overlay node copies

-- What a new object needs: its directory, which is shown, shows nothing under the name, and each inode of the upper layer's
-- tree that has a name is used.
pub record MayMakeIn (trees : Filesystems) (overlay : UpperOverlayValue) (node : NodeRef) (name : List ℕ) : Type 0 where
  pub shown_there : IsSome (object_shown trees overlay (number_of node))
  pub directory : is_directory_node (object_lent trees overlay node) ≡ true
  pub free : (path : List (List ℕ)) → number_at trees overlay path ≡ Some (number_of node)
      → shown (layers_of trees overlay.layers.lowers) (path ++ name ∷ []) ≡ None
  pub used : NamesAreUsed (inodes_at trees (upper_count overlay))

-- What a name needs that is removed: its directory is shown, and what has it shows nothing; and each inode of the upper
-- layer's tree that has a name is used.
pub record MayRemoveFrom (trees : Filesystems) (overlay : UpperOverlayValue) (node : NodeRef) (name : List ℕ) : Type 0 where
  pub shown_there : IsSome (object_shown trees overlay (number_of node))
  pub directory : is_directory_node (object_lent trees overlay node) ≡ true
  pub bare : (path : List (List ℕ)) (word : List ℕ) → number_at trees overlay path ≡ Some (number_of node)
      → shown (layers_of trees overlay.layers.lowers) (path ++ name ∷ word ∷ []) ≡ None
  pub used : NamesAreUsed (inodes_at trees (upper_count overlay))

-- What a name needs under which something is put: its directory is shown; nothing that is in what has the name in the upper
-- layer is a directory; and each inode of that tree that has a name is used.
pub record MayPutIn (trees : Filesystems) (overlay : UpperOverlayValue) (node : NodeRef) (name : List ℕ) : Type 0 where
  pub shown_there : IsSome (object_shown trees overlay (number_of node))
  pub directory : is_directory_node (object_lent trees overlay node) ≡ true
  pub plain : (directory : InodeRef) (object one : ℕ) (word : List ℕ) → IsAbove trees overlay node directory
      → directory.filesystem.count ≡ upper_count overlay
      → entry_at (files_at trees directory.filesystem.count).tree (inode_of directory) name ≡ Some object
      → entry_at (files_at trees directory.filesystem.count).tree object word ≡ Some one
      → is_directory_node ((files_at trees directory.filesystem.count).tree.node one) ≡ false
  pub used : NamesAreUsed (inodes_at trees (upper_count overlay))

-- A place is ready for a name that is removed: what has it may leave, or the directory's copies are ready, and the last of
-- them is a directory.
abbrev pub IsNameReady : Place → List ℕ → Filesystems → BirthsValue → ℕ → Type 0
IsNameReady (There spot) name trees births room = HasName trees spot name
IsNameReady (Copied copies own) name trees births room =
    IsReady copies trees births room
    × IsLastOf (λ node. is_directory_node node ≡ true) (λ node. false ≡ true) (in_turn copies) None

-- it is ready for a whiteout, too, if one is to be made
abbrev pub IsRemovalReady : Bool → Place → List ℕ → Filesystems → BirthsValue → ℕ → Type 0
IsRemovalReady true place name trees births room = IsPlaceReady place name trees births room
IsRemovalReady false place name trees births room = IsNameReady place name trees births room

-- The copies were made, with their births, and then what has the name lost it; of the trees only that of the upper layer
-- has changed.
pub record IsNameGone (place : Place) (name : List ℕ) (trees : Filesystems) (births : BirthsValue)
    (trees_after : Filesystems) (births_after : BirthsValue) : Type 0 where
  pub between : Filesystems
  pub directory : InodeRef
  pub made : AreMade (start_of place) (copies_in place) trees births between births_after directory
  pub removing : ChangesInodes (start_of place).filesystem.count
      (gone_from (keeps_in place) name (leaves_in place)
      (within_of (files_at between (start_of place).filesystem.count).tree (leaves_in place)) (inode_of directory))
      between trees_after
  pub there : CopiesAreThere trees (start_of place).filesystem.count births
      → CopiesAreThere between (start_of place).filesystem.count births_after

-- a whiteout got the name, or nothing
abbrev pub IsRemoved : Bool → Place → List ℕ → Node ℕ → Filesystems → BirthsValue → Filesystems → BirthsValue → Type 0
IsRemoved true place name node trees births trees_after births_after =
    (white : InodeRef) × IsNewMade place (made_in_place place name node) trees births trees_after births_after white
IsRemoved false place name node trees births trees_after births_after =
    IsNameGone place name trees births trees_after births_after

-- an inode loses no name: it is not what leaves, nor in that
abbrev pub LosesNoName : Tree ℕ → Option ℕ → ℕ → Type 0
LosesNoName tree None inode = ⊤
LosesNoName tree (Some had) inode = (had ≢ inode) × (has_entry_to nat_eq tree had inode ≡ false)

-- an inode more for a whiteout
abbrev pub one_if : Bool → ℕ
one_if true = 1
one_if false = 0
