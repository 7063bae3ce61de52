-- Inodes that have names: inode(7), "Hard link count".
use Rattle.std.specs.Prelude.{Bool, is_some, nat_eq, not, ℕ, ◌||◌}
use Rattle.vt_spec.specs.FileTree.{FileTree}
use Rattle.vt_spec.specs.Lists.{is_among}
use Rattle.vt_spec.specs.Machine.Settled.{named_in}

-- an inode does not exist, is the root, or has a name
abbrev pub lacks_no_name : FileTree ℕ → ℕ → Bool
lacks_no_name files number =
    not (is_some (files.tree.node number))
    || (nat_eq number files.tree.root || is_among nat_eq number (named_in files))
