-- What filesystems end as, where a `&mut` to the tree of one is returned.
use Rattle.std.specs.Prelude.{ℕ, Option}
use Rattle.std.specs.Borrow.{LendsIf, Fml, MutBor}
use Rattle.vt_fs.specs.contracts.tree.trees.Tree.{the_row as tree_row}
use Rattle.vt_fs.specs.Trees.TreeValue.{TreeValue}
use Rattle.vt_fs.specs.FilesystemsValue.{Filesystems, with_tree}
use Rattle.vt_fs.specs.contracts.filesystems.Filesystems.{the_row}

-- once the borrow ends, the filesystem has the last tree written through it; at `None` nothing has changed
abbrev pub lends_tree : MutBor Filesystems → ℕ → Option (MutBor TreeValue) → Fml
lends_tree filesystems count r =
    LendsIf the_row tree_row filesystems r (λ tree. with_tree count tree filesystems.now) filesystems.now
