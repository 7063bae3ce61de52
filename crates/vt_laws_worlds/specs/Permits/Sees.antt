-- What a permit that a call is given guarantees, besides that what it names exists: names are free and of a legal
-- length, what is removed may go, and the limits of files and tasks hold.
use Rattle.std.specs.Prelude.{Bool, List, Option, Some, false, is_some, length, nat_eq, nat_le, nat_lt, not, option_map, true, ℕ, ⊤, ◌&&◌, ◌+◌, ◌<◌, ◌≡◌}
use Rattle.vt_laws_trees.specs.Calls.Inodes.{change_of}
use Rattle.vt_laws_worlds.specs.Permits.Left.{IsGiven}
use Rattle.vt_spec.specs.Language.Changes.{Change}
use Rattle.vt_spec.specs.Language.Changes.Change.{AddName, CopyUp, Make, Move, Remove, SetAttr, SetBytes, SetMark}
use Rattle.vt_spec.specs.Language.Limits.{deepest_name, largest_file, most_descriptors, most_forks}
use Rattle.vt_spec.specs.Laws.Trees.{IsNewIn}
use Rattle.vt_spec.specs.Lists.{Fresh}
use Rattle.vt_spec.specs.Machine.Mounts.{Location}
use Rattle.vt_spec.specs.Machine.Permits.{Permit}
use Rattle.vt_spec.specs.Machine.Permits.Permit.{Allowed, ToBind, ToChange, ToClose, ToEnterNamespace, ToExit, ToFork, ToList, ToListMounts, ToMake, ToMountOverlay, ToMountPlain, ToMove, ToOpen, ToOpenNew, ToPivot, ToRead, ToReadPart, ToRemoveDirectory, ToRename, ToSetCredentials, ToSetDirectory, ToSetFlags, ToSetRoot, ToSetType, ToSetUmask, ToStat, ToUnmount, ToUnmountLazily, ToUnshare, ToWritePart}
use Rattle.vt_spec.specs.Machine.Rules.Descriptors.{descriptor_numbered}
use Rattle.vt_spec.specs.Machine.World.{Descriptor, Task, World, files_at, is_directory_at}
use Rattle.vt_spec.specs.Machine.Invariants.{IsWorld}
use Rattle.vt_spec.specs.Fits.{Fits}
use Rattle.vt_spec.specs.Inodes.{Inodes, tree_of}
use Rattle.vt_spec.specs.PathText.{is_empty}
use Rattle.vt_spec.specs.Tree.{Node, Tree, is_directory_node}
use Rattle.vt_spec.specs.TreeInvariant.{entry_at}
use Rattle.vt_laws_trees.specs.Trees.{IsFree, IsProper, MayAddName, MayMove, MayRemove}
use Rattle.vt_laws_trees.specs.Trees.Sizes.{IsFitChange, is_fit_name, is_fit_node}

-- the tree of the filesystem that a location is in
abbrev pub tree_at : World ℕ → Location ℕ → Tree ℕ
tree_at world location = (files_at nat_eq world location).tree

-- a new inode under a name of a directory: mkdir(2), symlink(2), mknod(2), and open(2) with O_CREAT
pub record MayBeMade (world : World ℕ) (directory : Location ℕ) (name : List ℕ) (node : Node ℕ) : Type 0 where
  pub name_is_free : IsFree (tree_at world directory) directory.node name
  pub fit_name : is_fit_name name ≡ true
  pub fits : IsNewIn directory.node node
  pub small : is_fit_node node ≡ true

-- rename(2): both names are seen through one mount; what has the new name is of the object's kind, or nothing has it
pub record MayBeRenamed (world : World ℕ) (from : Location ℕ) (old : List ℕ) (to : Location ℕ) (new : List ℕ)
    (object : Location ℕ) (replaced : Option (Location ℕ)) : Type 0 where
  pub to_mount : to.mount ≡ from.mount
  pub object_mount : object.mount ≡ from.mount
  pub moves : MayMove (tree_at world from) from.node old to.node new object.node
  pub fit_name : is_fit_name new ≡ true
  pub replaces : replaced ≡ option_map (λ number. record { mount = to.mount; node = number })
      (entry_at (tree_at world to) to.node new)
  pub kinds : (other : Location ℕ) → replaced ≡ Some other
      → is_directory_at nat_eq world other ≡ is_directory_at nat_eq world object

-- open(2), EMFILE
abbrev pub HasRoom : Task ℕ → Type 0
HasRoom task = nat_le most_descriptors (length task.descriptors) ≡ false

-- a descriptor of the task is for this file: pread(2) and pwrite(2), EBADF
abbrev pub HasOpen : Task ℕ → Location ℕ → (Descriptor ℕ → Bool) → Type 0
HasOpen task file fits =
    (number : ℕ) × (descriptor : Descriptor ℕ) × (descriptor_numbered task number ≡ Some descriptor)
    × (fits descriptor ≡ true) × (descriptor.location ≡ file)

-- link(2), unlink(2), write(2), chmod(2), chown(2), setxattr(2): the change is one of what is at the location
abbrev pub SeesToChange : World ℕ → Location ℕ → Change ℕ → Type 0
SeesToChange world location (Make directory name number node) = ⊥
SeesToChange world location (AddName directory name object) =
    (directory ≡ location.node) × MayAddName (tree_at world location) location.node name object
    × (is_fit_name name ≡ true)
SeesToChange world location (Remove directory name object) =
    (directory ≡ location.node) × MayRemove (tree_at world location) location.node name object
    × (is_directory_node ((tree_at world location).node object) ≡ false)
SeesToChange world location (Move from old to new object) = ⊥
SeesToChange world location (SetBytes file bytes) =
    (file ≡ location.node) × (is_directory_at nat_eq world location ≡ false)
    × (nat_le (length bytes) largest_file ≡ true)
SeesToChange world location (SetAttr object attr) = object ≡ location.node
SeesToChange world location (SetMark directory opaque) =
    (directory ≡ location.node) × (is_directory_at nat_eq world location ≡ true)
SeesToChange world location (CopyUp object) = ⊥

abbrev pub SeesTo : World ℕ → Task ℕ → Permit ℕ → Type 0
SeesTo world task Allowed = ⊤
SeesTo world task (ToList directory) = is_directory_at nat_eq world directory ≡ true
SeesTo world task (ToStat object) = ⊤
SeesTo world task (ToRead file) = is_directory_at nat_eq world file ≡ false
SeesTo world task (ToReadPart file offset size) = HasOpen task file (λ descriptor. descriptor.reads)
SeesTo world task (ToChange location change) = SeesToChange world location change
SeesTo world task (ToMake directory name node) = MayBeMade world directory name node
SeesTo world task (ToRemoveDirectory parent name directory) =
    (directory.mount ≡ parent.mount) × MayRemove (tree_at world parent) parent.node name directory.node
    × (is_directory_at nat_eq world directory ≡ true)
SeesTo world task (ToRename from old to new object replaced) = MayBeRenamed world from old to new object replaced
SeesTo world task (ToOpen file access) = (is_directory_at nat_eq world file ≡ false) × HasRoom task
SeesTo world task (ToOpenNew directory name node access) = MayBeMade world directory name node × HasRoom task
SeesTo world task (ToWritePart file offset bytes) =
    HasOpen task file (λ descriptor. descriptor.writes)
    × ((not (is_empty bytes) && nat_lt largest_file (offset + length bytes)) ≡ false)
SeesTo world task (ToClose descriptor) = is_some (descriptor_numbered task descriptor) ≡ true
SeesTo world task (ToSetDirectory directory) = ⊤
SeesTo world task (ToSetRoot root) = ⊤
SeesTo world task (ToSetUmask umask) = umask < 512
SeesTo world task (ToSetCredentials credentials) = credentials.groups ≡ task.credentials.groups
SeesTo world task (ToFork credentials) =
    (nat_le most_forks task.forks ≡ false) × (nat_le deepest_name (length task.name) ≡ false)
SeesTo world task ToExit = ⊤
SeesTo world task ToUnshare = ⊤
SeesTo world task (ToEnterNamespace namespace) = ⊤
SeesTo world task (ToMountPlain place flags) = ⊤
SeesTo world task (ToMountOverlay place overlay flags) = ⊤
SeesTo world task (ToBind source place recursive) = ⊤
SeesTo world task (ToMove mount place) = ⊤
SeesTo world task (ToUnmount mount) = ⊤
SeesTo world task (ToUnmountLazily mount) = ⊤
SeesTo world task (ToSetFlags mount flags) = ⊤
SeesTo world task (ToSetType mount word recursive) = ⊤
SeesTo world task (ToPivot new put) = ⊤
SeesTo world task ToListMounts = ⊤

-- In every world with all invariants, with overlays or without, the judgement of a call sees to this for each permit
-- that it gives.
abbrev pub GivenPermitsAreSeenTo : Type 0
GivenPermitsAreSeenTo =
    (world : World ℕ) (fresh : Fresh ℕ) (task : Task ℕ) (permit : Permit ℕ) → IsWorld nat_eq world
    → IsGiven fresh world task permit → SeesTo world task permit

-- So each change of a tree that a permit asks for is proper, and within the limits,
abbrev pub GivenChangesAreProper : Type 0
GivenChangesAreProper =
    (world : World ℕ) (fresh : Fresh ℕ) (task : Task ℕ) (permit : Permit ℕ) (location : Location ℕ) (change : Change ℕ)
    → IsWorld nat_eq world → IsGiven fresh world task permit
    → change_of fresh world permit ≡ Some (location, change)
    → IsProper (tree_at world location) change × IsFitChange change

-- and it fits counted inodes that have that tree.
abbrev pub GivenChangesFit : Type 0
GivenChangesFit =
    (world : World ℕ) (fresh : Fresh ℕ) (task : Task ℕ) (permit : Permit ℕ) (location : Location ℕ) (change : Change ℕ)
    (inodes : Inodes ℕ) → IsWorld nat_eq world → IsGiven fresh world task permit
    → change_of fresh world permit ≡ Some (location, change)
    → tree_of inodes ≡ tree_at world location → Fits inodes change
