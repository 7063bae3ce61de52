-- Laws of the plain filesystems as the definitions see them.
use Rattle.std.specs.Prelude.{Bool, false, find, length, nat_eq, not, true, unwrap_or, ℕ, ◌||◌, ◌≡◌, ◌≢◌}
use Rattle.vt_spec.specs.FileTree.{FileTree, has_entry_to, is_directory_under, is_removed}
use Rattle.vt_spec.specs.Lists.{any_pair}
use Rattle.vt_spec.specs.Machine.World.{no_filesystem}
use Rattle.vt_spec.specs.Machine.Invariants.{ListsNumbers}
use Rattle.vt_spec.specs.Tree.{Tree, parent_in}
use Rattle.vt_spec.specs.TreeInvariant.{HasOwnParents, IsTree}
use Rattle.vt_location.specs.Numbers.{counted}
use Rattle.vt_fs.specs.FilesystemsValue.{FilesystemEntry, Filesystems, entry_at, files_seen, filesystem_seen, filesystems_seen, inodes_seen, numbers_seen}

-- Each directory other than the root has a name in its parent, or it has none and is its own parent.
abbrev pub ParentsAreNamed : Tree ℕ → Type 0
ParentsAreNamed tree =
    (directory : ℕ) → directory ≢ tree.root
    → has_entry_to nat_eq tree (parent_in directory (tree.node directory)) directory
    ≡ not (nat_eq directory (parent_in directory (tree.node directory)))

-- Each directory that is not removed lies under the root.
abbrev pub LieUnderRoot : FileTree ℕ → Type 0
LieUnderRoot files =
    (directory : ℕ) → is_removed nat_eq files.tree directory ≡ false
    → is_directory_under nat_eq files files.tree.root directory ≡ true

-- `..` of a directory leads nowhere on a mount with this root: it is removed, or does not lie under the root
abbrev pub is_lost_under : FileTree ℕ → ℕ → ℕ → Bool
is_lost_under files root directory =
    is_removed nat_eq files.tree directory || not (is_directory_under nat_eq files root directory)

-- the parents are named so in every tree of a world
abbrev pub TreesNameParents : Type 0
TreesNameParents = (tree : Tree ℕ) → IsTree tree → HasOwnParents tree → ParentsAreNamed tree

-- the numbers beside a tree are those of its inodes
abbrev pub NumbersAreListed : Type 0
NumbersAreListed = (entry : FilesystemEntry) → ListsNumbers nat_eq (files_seen entry)

-- each of them once
abbrev pub NumbersAreApart : Type 0
NumbersAreApart = (entry : FilesystemEntry) → any_pair nat_eq (numbers_seen entry) ≡ false

-- as many as there are inodes
abbrev pub NumbersAreCounted : Type 0
NumbersAreCounted = (entry : FilesystemEntry) → length (numbers_seen entry) ≡ (inodes_seen entry).count

-- the definitions find a filesystem by its number as code does by its count
abbrev pub FilesystemsAreFound : Type 0
FilesystemsAreFound =
    (filesystems : Filesystems) (count : ℕ)
    → unwrap_or (find (λ filesystem. nat_eq (counted count) filesystem.number) (filesystems_seen filesystems))
    (no_filesystem (counted count))
    ≡ filesystem_seen (entry_at filesystems count)
