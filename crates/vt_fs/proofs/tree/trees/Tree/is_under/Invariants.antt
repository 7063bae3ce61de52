use Rattle.std.proofs.Common.{◌≡◌, nat_eq}
use Rattle.vt_spec.proofs.Common.{chain, is_among, parent_above}
use Rattle.vt_spec.specs.Inodes.{is_directory_under}
use Rattle.vt_fs.specs.Trees.TreeValue.{inodes_of}
use Rattle.vt_fs.proofs.tree.trees.Tree.is_under.Given as goal

-- the way that is left leads to the top where the whole way does
abbrev pub invariant-loop-left : goal.invariant-loop-left
invariant-loop-left l = is_among nat_eq l.top (chain l.left (parent_above nat_eq (inodes_of l.self)) l.here)
    ≡ is_directory_under nat_eq (inodes_of l.self) l.top l.fn.directory

abbrev pub decreases-loop-left : goal.decreases-loop-left
decreases-loop-left l = l.left
