-- What a contract sees of a `Tree`.
use Rattle.std.specs.Prelude.{ℕ, Bool, List, Option, None, Some, count_by, is_some, slice_index_or, ◌+◌}
use Rattle.vt_spec.specs.Inodes.{Inode, Inodes, tree_of as tree_of_inodes, with_inode}
use Rattle.vt_spec.specs.Tree.{Node, Tree}

-- the number of the root, the inode at each number from 0 on, the number that the next new object gets, and how many
-- inodes are promised to a plan
pub record TreeValue : Type 0 where
  pub root : ℕ
  pub slots : List (Option (Inode ℕ))
  pub next : ℕ
  pub promised : ℕ

-- the inodes with their uses, and how many there are
abbrev pub inodes_of : TreeValue → Inodes ℕ
inodes_of value =
    record { root = value.root; inode = λ id. slice_index_or value.slots id None; count = count_by is_some value.slots }

-- the finite map of nodes
abbrev pub tree_of : TreeValue → Tree ℕ
tree_of value = tree_of_inodes (inodes_of value)

-- the number that the next new object gets
abbrev pub next_number : TreeValue → ℕ
next_number value = value.next

-- one inode more, which is in use and has no name
abbrev pub with_unnamed : {N : Type 0} → (N → N → Bool) → Inodes N → N → Node N → Inodes N
with_unnamed eq inodes number node =
    record (with_inode eq inodes number (Some (record { node = node; uses = 1 }))) { count = inodes.count + 1 }
