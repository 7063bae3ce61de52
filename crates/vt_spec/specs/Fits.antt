-- What a change needs of a tree whose inodes count their uses: the rules of its call have seen to it.
use Rattle.std.specs.Prelude.{None, Option, Some, false, length, nat_eq, ℕ, ⊤, ◌≡◌, ◌≢◌, ◌≤◌, []}
use Rattle.vt_spec.specs.Inodes.{Inodes, is_directory_under, tree_of}
use Rattle.vt_spec.specs.Language.Changes.{Change}
use Rattle.vt_spec.specs.Language.Changes.Change.{AddName, CopyUp, Make, Move, Remove, SetAttr, SetBytes, SetMark}
use Rattle.vt_spec.specs.Language.Limits.{largest_file}
use Rattle.vt_spec.specs.Laws.Trees.{IsNewIn}
use Rattle.vt_spec.specs.Tree.{Tree, entries_in, is_directory_node}
use Rattle.vt_spec.specs.TreeInvariant.{IsDirectory, entry_at}

-- what an object may take the place of: another object of its kind, without entries: rename(2)
abbrev pub MayReplace : Tree ℕ → ℕ → Option ℕ → Type 0
MayReplace tree object None = ⊤
MayReplace tree object (Some old) =
    (old ≢ object) × (is_directory_node (tree.node old) ≡ is_directory_node (tree.node object))
    × (entries_in (tree.node old) ≡ [])

-- a directory does not go under itself
abbrev pub StaysOutside : Inodes ℕ → ℕ → ℕ → Type 0
StaysOutside inodes object directory =
    IsDirectory (tree_of inodes) object → is_directory_under nat_eq inodes object directory ≡ false

-- what a change needs of a tree, which the rules of its call have seen to
abbrev pub Fits : Inodes ℕ → Change ℕ → Type 0
Fits inodes (Make directory name number node) =
    IsDirectory (tree_of inodes) directory × (entry_at (tree_of inodes) directory name ≡ None)
    × (inodes.inode number ≡ None) × IsNewIn directory node
Fits inodes (AddName directory name object) =
    IsDirectory (tree_of inodes) directory × (entry_at (tree_of inodes) directory name ≡ None)
    × (is_directory_node ((tree_of inodes).node object) ≡ false)
Fits inodes (Remove directory name object) =
    (entry_at (tree_of inodes) directory name ≡ Some object) × (entries_in ((tree_of inodes).node object) ≡ [])
Fits inodes (Move from old to new object) =
    (entry_at (tree_of inodes) from old ≡ Some object) × IsDirectory (tree_of inodes) to
    × MayReplace (tree_of inodes) object (entry_at (tree_of inodes) to new) × StaysOutside inodes object to
Fits inodes (SetBytes file bytes) =
    (is_directory_node ((tree_of inodes).node file) ≡ false) × (length bytes ≤ largest_file)
Fits inodes (SetAttr object attr) = ⊤
Fits inodes (SetMark directory opaque) = IsDirectory (tree_of inodes) directory
Fits inodes (CopyUp object) = ⊤
