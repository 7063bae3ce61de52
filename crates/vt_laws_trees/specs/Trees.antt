-- Trees stay trees: what each change of a tree asks for, and what it keeps.
pub mod Settling
pub mod Calls
pub mod Limits
pub mod Sizes
use Rattle.std.specs.Prelude.{List, None, Some, [], false, is_some, nat_eq, true, ℕ, ⊤, ◌≡◌, ◌≢◌}
use Rattle.vt_spec.specs.Laws.Trees.{IsNewIn}
use Rattle.vt_spec.specs.Language.Changes.{Change, changed}
use Rattle.vt_spec.specs.Language.Changes.Change.{AddName, CopyUp, Make, Move, Remove, SetAttr, SetBytes, SetMark}
use Rattle.vt_spec.specs.FileTree.{FileTree}
use Rattle.vt_spec.specs.Machine.Invariants.{ListsNumbers}
use Rattle.vt_spec.specs.Tree.{Node, Tree, entries_in, is_directory_node}
pub use Rattle.vt_spec.specs.TreeInvariant.{HasOwnParents}
use Rattle.vt_spec.specs.TreeInvariant.{IsDirectory, IsReached, IsTree, entry_at, led}

-- a name that is free, in a directory that names lead to from the root: EEXIST and ENOENT of mkdir(2)
pub record IsFree (tree : Tree ℕ) (directory : ℕ) (name : List ℕ) : Type 0 where
  pub in_directory : IsDirectory tree directory
  pub reached : IsReached tree directory
  pub free : entry_at tree directory name ≡ None

-- mkdir(2), open(2), symlink(2), mknod(2): a new inode is an empty directory, or no directory
pub record MayMake (tree : Tree ℕ) (directory : ℕ) (name : List ℕ) (number : ℕ) (node : Node ℕ) : Type 0 where
  pub name_is_free : IsFree tree directory name
  pub number_is_new : tree.node number ≡ None
  pub fits : IsNewIn directory node

-- link(2): EPERM of a directory
pub record MayAddName (tree : Tree ℕ) (directory : ℕ) (name : List ℕ) (object : ℕ) : Type 0 where
  pub name_is_free : IsFree tree directory name
  pub is_there : is_some (tree.node object) ≡ true
  pub no_directory : is_directory_node (tree.node object) ≡ false

-- unlink(2), rmdir(2): the name is the object's, and a directory is empty: ENOTEMPTY
pub record MayRemove (tree : Tree ℕ) (directory : ℕ) (name : List ℕ) (object : ℕ) : Type 0 where
  pub named : entry_at tree directory name ≡ Some object
  pub empty : entries_in (tree.node object) ≡ []

-- rename(2): the old name is the object's, and it does not go under itself: EINVAL. What has the new name is another
-- object without entries, a file or an empty directory: ENOTEMPTY.
pub record MayMove (tree : Tree ℕ) (from : ℕ) (old : List ℕ) (to : ℕ) (new : List ℕ) (object : ℕ) : Type 0 where
  pub named : entry_at tree from old ≡ Some object
  pub in_directory : IsDirectory tree to
  pub reached : IsReached tree to
  pub not_under : (names : List (List ℕ)) → led tree object names ≢ Some to
  pub replaced_other : entry_at tree to new ≢ Some object
  pub replaced_empty : (replaced : ℕ) → entry_at tree to new ≡ Some replaced → entries_in (tree.node replaced) ≡ []

-- what a change asks for: the calls' tables of rules see to it
abbrev pub IsProper : Tree ℕ → Change ℕ → Type 0
IsProper tree (Make directory name number node) = MayMake tree directory name number node
IsProper tree (AddName directory name object) = MayAddName tree directory name object
IsProper tree (Remove directory name object) = MayRemove tree directory name object
IsProper tree (Move from old to new object) = MayMove tree from old to new object
IsProper tree (SetBytes file bytes) = ⊤
IsProper tree (SetAttr object attr) = ⊤
IsProper tree (SetMark directory opaque) = ⊤
IsProper tree (CopyUp object) = ⊤

-- Each change of a tree makes a tree of it.
abbrev pub ChangesKeepTrees : Type 0
ChangesKeepTrees =
    (files : FileTree ℕ) (change : Change ℕ)
    → IsTree files.tree → IsProper files.tree change → IsTree (changed nat_eq files change).tree

-- The numbers that stand beside a tree are still those of its inodes.
abbrev pub ChangesKeepNumbers : Type 0
ChangesKeepNumbers =
    (files : FileTree ℕ) (change : Change ℕ) → ListsNumbers nat_eq files
    → ListsNumbers nat_eq (changed nat_eq files change)

-- What lost its name is its own parent.
abbrev pub ChangesKeepOwnParents : Type 0
ChangesKeepOwnParents =
    (files : FileTree ℕ) (change : Change ℕ)
    → IsTree files.tree → HasOwnParents files.tree → IsProper files.tree change
    → HasOwnParents (changed nat_eq files change).tree

-- The invariants of a filesystem's tree: it is a tree, with the numbers of its inodes beside it.
pub record IsFileTree (files : FileTree ℕ) : Type 0 where
  pub tree : IsTree files.tree
  pub numbers : ListsNumbers nat_eq files
  pub own_parents : HasOwnParents files.tree
