-- What goes when a call changes a plain tree: mkdir(2), open(2) with O_CREAT, link(2), symlink(2), unlink(2), rmdir(2),
-- rename(2), write(2), chmod(2), chown(2).
use Rattle.std.specs.Prelude.{Contains, List, None, Some, [], false, map, nat_eq, option_to_list, true, ℕ, ⊤, ◌≡◌}
use Rattle.vt_spec.specs.FileTree.{FileTree}
use Rattle.vt_spec.specs.Language.Calls.{Access, same_name}
use Rattle.vt_spec.specs.Language.Changes.{Change, changed}
use Rattle.vt_spec.specs.Language.Changes.Change.{AddName, CopyUp, Make, Move, Remove, SetAttr, SetBytes, SetMark}
use Rattle.vt_spec.specs.Lists.{Fresh, any_pair, evens, is_among}
use Rattle.vt_spec.specs.Machine.Apply.{apply}
use Rattle.vt_spec.specs.Machine.Detach.{mounts_on, taken_away}
use Rattle.vt_spec.specs.Machine.Filesystems.{with_change}
use Rattle.vt_spec.specs.Machine.Mounts.{Location}
use Rattle.vt_spec.specs.Machine.Permits.Permit.{ToMake, ToOpenNew, ToRemoveDirectory, ToRename, ToWritePart}
use Rattle.vt_spec.specs.Machine.Settled.{settled}
use Rattle.vt_spec.specs.Machine.World.{Filesystem, Task, World, filesystem_at, files_at, is_overlay, mount_at}
use Rattle.vt_spec.specs.Tree.{Node, is_directory_node}
use Rattle.vt_spec.specs.TreeInvariant.{entry_at}
use Rattle.vt_laws_mounts.specs.LettingGo.InUse.{IsListedTree}
use Rattle.vt_laws_mounts.specs.LettingGo.LeavingOverlays.{IsSettled}
use Rattle.vt_laws_mounts.specs.LettingGo.MountingOverlays.{used_by_gone_with_layers}
use Rattle.vt_laws_mounts.specs.LettingGo.OneByOne.{Inode}
use Rattle.vt_laws_mounts.specs.LettingGo.Overlays.{let_go_all, let_go_all_inodes}
use Rattle.vt_laws_mounts.specs.LettingGo.TreeChanges.{ChangesTree}
use Rattle.vt_laws_mounts.specs.LettingGo.TreesOverlays.{with_lost}
use Rattle.vt_laws_mounts.specs.LettingGo.Unmounting.{numbers_of_trees}

-- what loses a name by a change: what had the name that another object gets, or that is removed
abbrev pub names_lost : FileTree ℕ → Change ℕ → List ℕ
names_lost files (Make directory name number node) = option_to_list (entry_at files.tree directory name)
names_lost files (AddName directory name object) = option_to_list (entry_at files.tree directory name)
names_lost files (Remove directory name object) = option_to_list (entry_at files.tree directory name)
names_lost files (Move from old to new object) = option_to_list (entry_at files.tree to new)
names_lost files (SetBytes file bytes) = []
names_lost files (SetAttr object attr) = []
names_lost files (SetMark directory opaque) = []
names_lost files (CopyUp object) = []

-- with the number of its filesystem
abbrev pub inodes_lost : World ℕ → Location ℕ → Change ℕ → List Inode
inodes_lost world location change =
    map (λ inode. ((mount_at nat_eq world location).filesystem, inode))
    (names_lost (files_at nat_eq world location) change)

-- A new inode has a new number and a directory for its name; what moves has the old name, and a directory for the new
-- one. The rules of the calls ask for it.
pub record IsMade (files : FileTree ℕ) (directory number : ℕ) : Type 0 where
  pub in_directory : is_directory_node (files.tree.node directory) ≡ true
  pub is_new : files.tree.node number ≡ None

pub record IsMoved (files : FileTree ℕ) (from : ℕ) (old : List ℕ) (to object : ℕ) : Type 0 where
  pub named : entry_at files.tree from old ≡ Some object
  pub in_directory : is_directory_node (files.tree.node to) ≡ true

abbrev pub MayChange : FileTree ℕ → Change ℕ → Type 0
MayChange files (Make directory name number node) = IsMade files directory number
MayChange files (AddName directory name object) = ⊤
MayChange files (Remove directory name object) = ⊤
MayChange files (Move from old to new object) = IsMoved files from old to object
MayChange files (SetBytes file bytes) = ⊤
MayChange files (SetAttr object attr) = ⊤
MayChange files (SetMark directory opaque) = ⊤
MayChange files (CopyUp object) = ⊤

-- Each change keeps the root, and all names but those.
abbrev pub ChangesKeepNames : Type 0
ChangesKeepNames =
    (files : FileTree ℕ) (change : Change ℕ) → IsListedTree files → IsListedTree (changed nat_eq files change)
    → MayChange files change → ChangesTree files (changed nat_eq files change) (names_lost files change)

-- After a call that changes a plain tree, in a world with overlays or without, at the most the inode goes that lost a
-- name.
abbrev pub FileChangesLetGo : Type 0
FileChangesLetGo =
    (fresh : Fresh ℕ) (world : World ℕ) (location : Location ℕ) (change : Change ℕ) → IsSettled world
    → any_pair (λ (a b : Filesystem ℕ). nat_eq a.number b.number) world.filesystems ≡ false
    → is_among nat_eq (mount_at nat_eq world location).filesystem
    (map (λ filesystem. filesystem.number) world.filesystems)
    ≡ true
    → is_overlay (filesystem_at nat_eq world location) ≡ false
    → IsListedTree (changed nat_eq (files_at nat_eq world location) change)
    → MayChange (files_at nat_eq world location) change
    → settled nat_eq (with_change nat_eq fresh world location change)
    ≡ let_go_all_inodes (with_change nat_eq fresh world location change)
    (inodes_lost world location change)

-- Where the call takes mounts away, too: the same, and of what they used, that goes which nothing uses any more.
abbrev pub TakenAndFileChangesLetGo : Type 0
TakenAndFileChangesLetGo =
    (fresh : Fresh ℕ) (world : World ℕ) (gone : List ℕ) (location : Location ℕ) (change : Change ℕ) → IsSettled world
    → any_pair (λ (a b : Filesystem ℕ). nat_eq a.number b.number) world.filesystems ≡ false
    → is_among nat_eq (mount_at nat_eq world location).filesystem
    (map (λ filesystem. filesystem.number) world.filesystems)
    ≡ true
    → is_overlay (filesystem_at nat_eq world location) ≡ false
    → IsListedTree (changed nat_eq (files_at nat_eq world location) change)
    → MayChange (files_at nat_eq world location) change
    → settled nat_eq (with_change nat_eq fresh (taken_away nat_eq world gone) location change)
    ≡ let_go_all (with_change nat_eq fresh (taken_away nat_eq world gone) location change)
    (with_lost (used_by_gone_with_layers world gone) (inodes_lost world location change))

-- So it is of rmdir: the directory goes if nothing is at it, with what only the mounts on it used,
abbrev pub RemovedDirectoriesLetGo : Type 0
RemovedDirectoriesLetGo =
    (fresh : Fresh ℕ) (world : World ℕ) (task : Task ℕ) (parent : Location ℕ) (name : List ℕ) (directory : Location ℕ)
    → IsSettled world
    → any_pair (λ (a b : Filesystem ℕ). nat_eq a.number b.number) world.filesystems ≡ false
    → is_among nat_eq (mount_at nat_eq world parent).filesystem
    (map (λ filesystem. filesystem.number) world.filesystems)
    ≡ true
    → is_overlay (filesystem_at nat_eq world parent) ≡ false
    → IsListedTree (changed nat_eq (files_at nat_eq world parent) (Remove parent.node name directory.node))
    → settled nat_eq (apply nat_eq fresh world task (ToRemoveDirectory parent name directory)).world
    ≡ let_go_all (apply nat_eq fresh world task (ToRemoveDirectory parent name directory)).world
    (with_lost (used_by_gone_with_layers world (numbers_of_trees world (mounts_on nat_eq world directory)))
    (inodes_lost world parent (Remove parent.node name directory.node)))

-- and of a rename that replaces an object.
abbrev pub ReplacingLetsGo : Type 0
ReplacingLetsGo =
    (fresh : Fresh ℕ) (world : World ℕ) (task : Task ℕ) (from : Location ℕ) (old : List ℕ) (to : Location ℕ)
    (new : List ℕ)
    (object replaced : Location ℕ) → IsSettled world
    → any_pair (λ (a b : Filesystem ℕ). nat_eq a.number b.number) world.filesystems ≡ false
    → is_among nat_eq (mount_at nat_eq world from).filesystem (map (λ filesystem. filesystem.number) world.filesystems)
    ≡ true
    → is_overlay (filesystem_at nat_eq world from) ≡ false
    → IsListedTree (changed nat_eq (files_at nat_eq world from) (Move from.node old to.node new object.node))
    → IsMoved (files_at nat_eq world from) from.node old to.node object.node
    → settled nat_eq (apply nat_eq fresh world task (ToRename from old to new object (Some replaced))).world
    ≡ let_go_all (apply nat_eq fresh world task (ToRename from old to new object (Some replaced))).world
    (with_lost (used_by_gone_with_layers world (numbers_of_trees world (mounts_on nat_eq world replaced)))
    (inodes_lost world from (Move from.node old to.node new object.node)))

-- A call that makes an inode under a free name takes nothing away: mkdir(2), symlink(2), mknod(2).
abbrev pub MadeKeepsAll : Type 0
MadeKeepsAll =
    (fresh : Fresh ℕ) (world : World ℕ) (task : Task ℕ) (directory : Location ℕ) (name : List ℕ) (node : Node ℕ)
    → IsSettled world
    → any_pair (λ (a b : Filesystem ℕ). nat_eq a.number b.number) world.filesystems ≡ false
    → is_among nat_eq (mount_at nat_eq world directory).filesystem
    (map (λ filesystem. filesystem.number) world.filesystems)
    ≡ true
    → is_overlay (filesystem_at nat_eq world directory) ≡ false
    → IsListedTree (changed nat_eq (files_at nat_eq world directory) (Make directory.node name (evens fresh 0) node))
    → IsMade (files_at nat_eq world directory) directory.node (evens fresh 0)
    → entry_at (files_at nat_eq world directory).tree directory.node name ≡ None
    → settled nat_eq (apply nat_eq fresh world task (ToMake directory name node)).world
    ≡ (apply nat_eq fresh world task (ToMake directory name node)).world

-- Nor does one that writes a part of a file, or nothing: pwrite(2).
abbrev pub WrittenPartsKeepAll : Type 0
WrittenPartsKeepAll =
    (fresh : Fresh ℕ) (world : World ℕ) (task : Task ℕ) (file : Location ℕ) (offset : ℕ) (bytes : List ℕ)
    → IsSettled world
    → any_pair (λ (a b : Filesystem ℕ). nat_eq a.number b.number) world.filesystems ≡ false
    → is_among nat_eq (mount_at nat_eq world file).filesystem (map (λ filesystem. filesystem.number) world.filesystems)
    ≡ true
    → is_overlay (filesystem_at nat_eq world file) ≡ false
    → settled nat_eq (apply nat_eq fresh world task (ToWritePart file offset bytes)).world
    ≡ (apply nat_eq fresh world task (ToWritePart file offset bytes)).world

-- Nor does one by which a task of the world opens a new file: open(2) with O_CREAT.
abbrev pub OpenedNewKeepsAll : Type 0
OpenedNewKeepsAll =
    (fresh : Fresh ℕ) (world : World ℕ) (task : Task ℕ) (directory : Location ℕ) (name : List ℕ) (node : Node ℕ)
    (access : Access) → IsSettled world
    → any_pair (λ (a b : Filesystem ℕ). nat_eq a.number b.number) world.filesystems ≡ false
    → any_pair (λ (a b : Task ℕ). same_name a.name b.name) world.tasks ≡ false → Contains world.tasks task
    → is_among nat_eq (mount_at nat_eq world directory).filesystem
    (map (λ filesystem. filesystem.number) world.filesystems)
    ≡ true
    → is_overlay (filesystem_at nat_eq world directory) ≡ false
    → IsListedTree (changed nat_eq (files_at nat_eq world directory) (Make directory.node name (evens fresh 0) node))
    → IsMade (files_at nat_eq world directory) directory.node (evens fresh 0)
    → entry_at (files_at nat_eq world directory).tree directory.node name ≡ None
    → settled nat_eq (apply nat_eq fresh world task (ToOpenNew directory name node access)).world
    ≡ (apply nat_eq fresh world task (ToOpenNew directory name node access)).world
