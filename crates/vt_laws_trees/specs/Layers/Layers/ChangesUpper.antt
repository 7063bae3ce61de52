-- What a change of an overlay does to its tree and to its upper layer, clause by clause: the kernel's overlayfs
-- document, "upper and lower" (copy_up) and "whiteouts and opaque directories".
use Rattle.std.specs.Prelude.{List, None, Option, Some, [], false, is_some, nat_eq, true, ℕ, ⊤, ◌++◌, ◌||◌, ◌≡◌, ◌≢◌, ◌⊎◌}
use Rattle.vt_spec.specs.Language.Changes.{Change, changed, node_with_attr, node_with_mark}
use Rattle.vt_spec.specs.Language.Changes.Change.{AddName, CopyUp, Make, Move, Remove, SetAttr, SetBytes, SetMark}
use Rattle.vt_spec.specs.Machine.CopyUp.{Merge, Stack, copied_up, hides_directory, line_to, merge_changed, shown_in_lowers_at, upper_directory_named, upper_of, whiteout_of}
use Rattle.vt_spec.specs.FileTree.{FileTree, a_name, attr_in, is_opaque_in, kind_in}
use Rattle.vt_spec.specs.Machine.Layers.{Shown}
use Rattle.vt_spec.specs.Lists.{Fresh, evens, is_among, odds}
use Rattle.vt_spec.specs.Machine.Filesystems.{merge_of}
use Rattle.vt_spec.specs.Machine.World.{Layer, Overlay, World, filesystem_numbered, upper_object}
use Rattle.vt_spec.specs.Machine.Invariants.{IsWorld, ListsNumbers, number_at_path}
use Rattle.vt_spec.specs.Tree.{Node, bytes_in, bytes_of, entries_in, entries_of, is_directory_node, kind_of, new_directory, node_with_bytes}
use Rattle.vt_spec.specs.TreeInvariant.{IsDirectory, IsReached, IsTree, entry_at}
use Rattle.vt_laws_trees.specs.Layers.Layers.Untouched.{IsKept}
use Rattle.vt_laws_trees.specs.Layers.Layers.Upper.{IsThere, SpeaksOfWhatIsThere}
use Rattle.vt_laws_trees.specs.Trees.Settling.{inode_in}

-- an inode of the overlay has a real object in the upper layer
abbrev pub StandsInUpper : Merge ℕ → ℕ → Type 0
StandsInUpper merge number = is_some (upper_object (merge.real number)) ≡ true

-- an inode with one of the numbers that are handed in
abbrev pub IsNewBy : Fresh ℕ → ℕ → Type 0
IsNewBy fresh object = (k : ℕ) × (object ≡ fresh k)

-- What holds of an overlay with an upper layer, and of the new numbers that a change is handed: its tree is a tree; its
-- root stands in the upper layer, and so does each directory that has an entry for what stands there; what lies only
-- below has one name; two inodes have two upper objects, and one with a name has one of its own kind; and no upper
-- object has a new number.
pub record IsFitToChange (fresh : Fresh ℕ) (merge : Merge ℕ) : Type 0 where
  pub tree : IsTree merge.files.tree
  pub numbers : ListsNumbers nat_eq merge.files
  pub root : StandsInUpper merge merge.files.tree.root
  pub above : (directory : ℕ) (name : List ℕ) (object : ℕ)
      → entry_at merge.files.tree directory name ≡ Some object → StandsInUpper merge object
      → StandsInUpper merge directory
  pub one_name : (directory other : ℕ) (name other_name : List ℕ) (object : ℕ)
      → entry_at merge.files.tree directory name ≡ Some object
      → entry_at merge.files.tree other other_name ≡ Some object
      → is_some (upper_object (merge.real object)) ≡ false → directory ≡ other
  pub one_to_one : (a b object : ℕ)
      → upper_object (merge.real a) ≡ Some object → upper_object (merge.real b) ≡ Some object → a ≡ b
  pub kinds : (path : List (List ℕ)) (number object : ℕ)
      → number_at_path merge.files path ≡ Some number → upper_object (merge.real number) ≡ Some object
      → is_directory_node (merge.upper.tree.node object) ≡ is_directory_node (merge.files.tree.node number)
  pub unused : (k number : ℕ) → upper_object (merge.real number) ≢ Some (fresh k)
  pub distinct : (j k : ℕ) → fresh j ≡ fresh k → j ≡ k

-- what a change asks to be copied: an object that is opened for writing, changed, linked or renamed, and the
-- directories in which something is made, removed or renamed, each behind the directories above it
abbrev pub asked_copies : FileTree ℕ → Change ℕ → List ℕ
asked_copies files (Make directory name number node) = line_to nat_eq files directory
asked_copies files (AddName directory name object) = line_to nat_eq files object ++ line_to nat_eq files directory
asked_copies files (Remove directory name object) = line_to nat_eq files directory
asked_copies files (Move from old to new object) = line_to nat_eq files object ++ line_to nat_eq files to
asked_copies files (SetBytes file bytes) = line_to nat_eq files file
asked_copies files (SetAttr object attr) = line_to nat_eq files object
asked_copies files (SetMark directory opaque) = line_to nat_eq files directory
asked_copies files (CopyUp object) = line_to nat_eq files object

-- the overlay when these are copied, and nothing is changed yet
abbrev pub copied_for : Fresh ℕ → Merge ℕ → Change ℕ → Merge ℕ
copied_for fresh merge (Make directory name number node) = copied_up nat_eq (evens fresh) merge directory
copied_for fresh merge (AddName directory name object) =
    copied_up nat_eq (odds fresh) (copied_up nat_eq (evens fresh) merge object) directory
copied_for fresh merge (Remove directory name object) = copied_up nat_eq (evens fresh) merge directory
copied_for fresh merge (Move from old to new object) =
    copied_up nat_eq (evens (odds fresh)) (copied_up nat_eq (evens fresh) merge object) to
copied_for fresh merge (SetBytes file bytes) = copied_up nat_eq fresh merge file
copied_for fresh merge (SetAttr object attr) = copied_up nat_eq fresh merge object
copied_for fresh merge (SetMark directory opaque) = copied_up nat_eq fresh merge directory
copied_for fresh merge (CopyUp object) = copied_up nat_eq fresh merge object

-- a copy has the kind, owner and mode, and bytes or text of what is shown, and no mark
pub record IsCopyOf (seen copy : Option (Node ℕ)) : Type 0 where
  pub there : is_some copy ≡ is_some seen
  pub kind : kind_in copy ≡ kind_in seen
  pub attr : attr_in copy ≡ attr_in seen
  pub bytes : bytes_in copy ≡ bytes_in seen
  pub mark : is_opaque_in copy ≡ false

-- an inode stands in the upper layer now: as the object that it was there, or as a copy of what is shown
abbrev pub StandsNow : Merge ℕ → Merge ℕ → ℕ → Type 0
StandsNow before copied number =
    (object : ℕ) × (upper_object (copied.real number) ≡ Some object)
    × ((upper_object (before.real number) ≡ Some object)
    ⊎ IsCopyOf (before.files.tree.node number) (copied.upper.tree.node object))

-- a new object is as it was asked for; its parent is the upper layer's, and of its mark more is said below
pub record IsMadeAs (node : Node ℕ) (made : Option (Node ℕ)) : Type 0 where
  pub there : is_some made ≡ true
  pub kind : kind_in made ≡ kind_of node.content
  pub attr : attr_in made ≡ node.attr
  pub names : entries_in made ≡ entries_of node.content
  pub bytes : bytes_in made ≡ bytes_of node.content

-- a directory that names lead to
abbrev pub IsReachedDirectory : FileTree ℕ → ℕ → Type 0
IsReachedDirectory files directory = IsReached files.tree directory × IsDirectory files.tree directory

-- What a change asks for stands in the upper layer after it: a new object under its name, an object under a new name,
-- in the object of the directory; and the object has the bytes, owner and mode, or mark. What is left of a removed name
-- is said below.
abbrev pub ReachesUpper : Merge ℕ → Merge ℕ → Change ℕ → Type 0
ReachesUpper copied later (Make directory name number node) =
    IsReachedDirectory copied.files directory
    → (object : ℕ) × (upper_object (later.real number) ≡ Some object)
    × (entry_at later.upper.tree (upper_of copied directory) name ≡ Some object)
    × IsMadeAs node (later.upper.tree.node object)
ReachesUpper copied later (AddName directory name object) =
    IsReachedDirectory copied.files directory
    → entry_at later.upper.tree (upper_of copied directory) name ≡ Some (upper_of copied object)
ReachesUpper copied later (Remove directory name object) = ⊤
ReachesUpper copied later (Move from old to new object) =
    IsReachedDirectory copied.files to → entry_at copied.files.tree to new ≢ Some object
    → entry_at later.upper.tree (upper_of copied to) new ≡ Some (upper_of copied object)
ReachesUpper copied later (SetBytes file bytes) =
    later.upper.tree.node (upper_of copied file) ≡ node_with_bytes bytes (copied.upper.tree.node (upper_of copied file))
ReachesUpper copied later (SetAttr object attr) =
    later.upper.tree.node (upper_of copied object)
    ≡ node_with_attr attr (copied.upper.tree.node (upper_of copied object))
ReachesUpper copied later (SetMark directory opaque) =
    later.upper.tree.node (upper_of copied directory)
    ≡ node_with_mark opaque (copied.upper.tree.node (upper_of copied directory))
ReachesUpper copied later (CopyUp object) = ⊤

-- where a name was, a whiteout stands if lower layers show something there, else nothing
abbrev pub IsLeftBy : Option (Shown ℕ) → Stack ℕ → FileTree ℕ → ℕ → List ℕ → Type 0
IsLeftBy None stack upper directory name = entry_at upper.tree directory name ≡ None
IsLeftBy (Some seen) stack upper directory name =
    (whiteout : ℕ) × (entry_at upper.tree directory name ≡ Some whiteout)
    × (upper.tree.node whiteout ≡ Some (whiteout_of stack.mounter))

abbrev pub IsLeft : Stack ℕ → Merge ℕ → Merge ℕ → ℕ → List ℕ → Type 0
IsLeft stack copied later directory name =
    IsLeftBy (shown_in_lowers_at nat_eq stack copied directory name) stack later.upper (upper_of copied directory) name

-- the names that a change removes or leaves
abbrev pub NamesLeft : Stack ℕ → Merge ℕ → Merge ℕ → Change ℕ → Type 0
NamesLeft stack copied later (Remove directory name object) =
    entry_at copied.files.tree directory name ≡ Some object → IsLeft stack copied later directory name
NamesLeft stack copied later (Move from old to new object) = IsLeft stack copied later from old
NamesLeft stack copied later change = ⊤

-- the directory that a change removes, or that another takes the place of, which shows no names
abbrev pub RemovedIsEmpty : Merge ℕ → Merge ℕ → Change ℕ → Type 0
RemovedIsEmpty copied later (Remove directory name object) =
    (replaced : ℕ) → upper_directory_named copied directory name ≡ Some replaced
    → entries_in (later.upper.tree.node replaced) ≡ []
RemovedIsEmpty copied later (Move from old to new object) =
    (replaced number : ℕ) → entry_at copied.files.tree to new ≡ Some number
    → entries_in (copied.files.tree.node number) ≡ []
    → upper_directory_named copied to new ≡ Some replaced → entries_in (later.upper.tree.node replaced) ≡ []
RemovedIsEmpty copied later change = ⊤

-- A new directory is opaque if lower layers show a directory there, else it has no mark. A moved one is opaque if lower
-- layers show a directory at its new place, else it keeps what it had.
abbrev pub MarksAreRight : Stack ℕ → Merge ℕ → Merge ℕ → Change ℕ → Type 0
MarksAreRight stack copied later (Make directory name number node) =
    (parent : ℕ) → node.content ≡ new_directory parent
    → is_opaque_in (later.upper.tree.node (upper_of later number)) ≡ hides_directory nat_eq stack copied directory name
MarksAreRight stack copied later (Move from old to new object) =
    IsDirectory copied.files.tree object
    → is_opaque_in (later.upper.tree.node (upper_of copied object))
    ≡ (hides_directory nat_eq stack copied to new || is_opaque_in (copied.upper.tree.node (upper_of copied object)))
MarksAreRight stack copied later change = ⊤

-- A change of an overlay.
pub record ChangesUpper (fresh : Fresh ℕ) (stack : Stack ℕ) (before : Merge ℕ) (change : Change ℕ)
    (later : Merge ℕ) : Type 0 where
  -- its tree changes as any tree does
  pub tree : later.files ≡ changed nat_eq before.files change
  -- what is asked stands in the upper layer, missing parents too, with the shown owner, mode and content, and no mark
  pub stands : (number : ℕ)
      → is_among nat_eq number (asked_copies before.files change) ≡ true → IsThere before.files number
      → StandsNow before (copied_for fresh before change) number
  -- and so does, after the change, what it makes of it
  pub reaches : ReachesUpper (copied_for fresh before change) later change
  -- where a name was removed or left stands a whiteout if something is shown below, else nothing
  pub names_left : NamesLeft stack (copied_for fresh before change) later change
  -- a removed or replaced directory keeps no whiteout in it
  pub removed_empty : RemovedIsEmpty (copied_for fresh before change) later change
  -- a new or moved directory is opaque if a directory is shown below
  pub marks : MarksAreRight stack (copied_for fresh before change) later change
  -- all else in the upper layer is as it was
  pub rest : (inode : ℕ)
      → ((k : ℕ) → inode ≢ fresh k) → ((number : ℕ) → upper_object (before.real number) ≢ Some inode)
      → IsKept (before.upper.tree.node inode) (later.upper.tree.node inode)

abbrev pub OverlayChanges : Type 0
OverlayChanges =
    (fresh : Fresh ℕ) (stack : Stack ℕ) (before : Merge ℕ) (change : Change ℕ)
    → IsFitToChange fresh before → SpeaksOfWhatIsThere before.files change
    → ChangesUpper fresh stack before change (merge_changed nat_eq fresh stack before change)

-- Each overlay of a world with an upper layer is fit to change, by new numbers that no inode of the upper layer's
-- filesystem has.
abbrev pub OverlaysAreFit : Type 0
OverlaysAreFit =
    (fresh : Fresh ℕ) (world : World ℕ) (number : ℕ) (overlay : Overlay ℕ) (upper : Layer ℕ)
    → IsWorld nat_eq world
    → (filesystem_numbered nat_eq world number).overlay ≡ Some overlay → overlay.upper ≡ Some upper
    → ((j k : ℕ) → fresh j ≡ fresh k → j ≡ k) → ((k : ℕ) → inode_in world upper.filesystem (fresh k) ≡ None)
    → IsFitToChange fresh (merge_of nat_eq world (filesystem_numbered nat_eq world number) overlay upper)

-- An object that lay only below is copied as an inode with no names in it, which stands under the name that the object
-- has, or under none.
abbrev pub CopiesHaveTheirName : Type 0
CopiesHaveTheirName =
    (fresh : Fresh ℕ) (before : Merge ℕ) (object : ℕ)
    → IsFitToChange fresh before → IsThere before.files object → upper_object (before.real object) ≡ None
    → (copy : ℕ) × (upper_object ((copied_up nat_eq fresh before object).real object) ≡ Some copy)
    × IsCopyOf (before.files.tree.node object) ((copied_up nat_eq fresh before object).upper.tree.node copy)
    × (entries_in ((copied_up nat_eq fresh before object).upper.tree.node copy) ≡ [])
    × ((name : ℕ × List ℕ) → a_name nat_eq before.files object ≡ Some name
    → entry_at (copied_up nat_eq fresh before object).upper.tree
    (upper_of (copied_up nat_eq fresh before object) name.0) name.1 ≡ Some copy)
