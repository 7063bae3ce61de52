-- Looks at counted inodes and at the tree beside them: path_resolution(7).
use Rattle.std.specs.Prelude.{nat_eq, ℕ, ◌≡◌}
use Rattle.vt_spec.specs.FileTree as Trees
use Rattle.vt_spec.specs.Machine.World.{Filesystem, World}
use Rattle.vt_spec.specs.Inodes.{Inodes, is_directory_under, tree_of}
use Rattle.vt_spec.specs.TreeInvariant.{HasOwnParents, IsTree}
use Rattle.vt_laws_mounts.specs.Counts.Counted.{IsCounted}

-- Counted inodes, uses aside, are the tree.
abbrev pub CountedTreeIsTheTree : Type 0
CountedTreeIsTheTree =
    (world : World ℕ) (filesystem : Filesystem ℕ) (inodes : Inodes ℕ) → IsCounted world filesystem inodes
    → tree_of inodes ≡ filesystem.files.tree

-- A directory lies under another among counted inodes just where it does in the tree.
abbrev pub DirectoriesLieAlike : Type 0
DirectoriesLieAlike =
    (world : World ℕ) (filesystem : Filesystem ℕ) (inodes : Inodes ℕ) (top directory : ℕ)
    → IsTree filesystem.files.tree → HasOwnParents filesystem.files.tree → IsCounted world filesystem inodes
    → is_directory_under nat_eq inodes top directory ≡ Trees.is_directory_under nat_eq filesystem.files top directory
