-- Paths from one directory of a tree down to another: mountinfo of proc(5).
use Rattle.std.specs.Prelude.{Bool, List, Option, Some, [], map, reverse, true, ℕ, ◌≡◌}
use Rattle.vt_spec.specs.FileTree.{FileTree, named_parent, own_name}
use Rattle.vt_spec.specs.Lists.{before_first, chain, is_among, when}
use Rattle.vt_spec.specs.Inodes.{Inodes, tree_of}
use Rattle.vt_spec.specs.Tree.{Tree, is_directory_node}
use Rattle.vt_spec.specs.TreeInvariant.{entry_at}

-- the tree of some inodes, its numbers aside
abbrev pub files_of : {N : Type 0} → Inodes N → FileTree N
files_of inodes = record { tree = tree_of inodes; numbers = [] }

module _ {N : Type 0} (eq : N → N → Bool) where
  -- a directory and those above it, by their names
  abbrev pub named_up : Inodes N → N → List N
  named_up inodes directory = chain inodes.count (named_parent eq (tree_of inodes)) directory

  -- the names that lead from a directory down to another, if that one lies under it
  abbrev pub path_in : Inodes N → N → N → Option (List (List ℕ))
  path_in inodes top directory =
      when (is_among eq top (named_up inodes directory))
      (reverse (map (own_name eq (files_of inodes)) (before_first (eq top) (named_up inodes directory))))

-- a directory has one name at most
abbrev pub NamesDirectoriesOnce : Tree ℕ → Type 0
NamesDirectoriesOnce tree =
    (directory : ℕ) (name other : List ℕ) (object : ℕ) → entry_at tree directory name ≡ Some object
    → entry_at tree directory other ≡ Some object
    → is_directory_node (tree.node object) ≡ true → name ≡ other
