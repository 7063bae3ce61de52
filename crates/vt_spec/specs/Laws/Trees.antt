-- Laws of trees: each change keeps the invariants of a tree.
use Rattle.std.specs.Prelude.{◌≡◌, ℕ, nat_eq, false, ◌⊎◌, List, None}
use Rattle.vt_spec.specs.declared.attributes.Attr.{Attr}
use Rattle.vt_spec.specs.Rights.{is_directory}
use Rattle.vt_spec.specs.Tree.{Tree, Node, kind_of, new_directory, with_object, with_file_bytes, tree_of_root}
use Rattle.vt_spec.specs.TreeInvariant.{entry_at, IsDirectory, IsReached, IsTree}

-- an object that may be put into a directory: an empty directory with that as its parent, or no directory
abbrev pub IsNewIn : ℕ → Node ℕ → Type 0
IsNewIn directory node = (node.content ≡ new_directory directory) ⊎ (is_directory (kind_of node.content) ≡ false)

-- one empty directory is a tree
abbrev pub RootIsTree : Type 0
RootIsTree = (root : ℕ) (attr : Attr) → IsTree (tree_of_root nat_eq root attr)

-- A new object, with a number that was vacant, under a name that was free, in a directory that names lead to from the
-- root, makes a tree of a tree.
abbrev pub NewObjectKeepsTree : Type 0
NewObjectKeepsTree =
    (tree : Tree ℕ) (directory : ℕ) (name : List ℕ) (number : ℕ) (node : Node ℕ)
    → IsTree tree → IsDirectory tree directory → IsReached tree directory
    → entry_at tree directory name ≡ None → tree.node number ≡ None → IsNewIn directory node
    → IsTree (with_object nat_eq tree directory name number node)

-- so do other bytes of a file
abbrev pub FileBytesKeepTree : Type 0
FileBytesKeepTree = (tree : Tree ℕ) (file : ℕ) (bytes : List ℕ) → IsTree tree
    → IsTree (with_file_bytes nat_eq tree file bytes)
