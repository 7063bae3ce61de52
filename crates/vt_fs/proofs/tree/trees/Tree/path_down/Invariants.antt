use Rattle.std.proofs.Common.{◌≡◌, map, nat_eq}
use Rattle.vt_spec.proofs.Common.{chain, named_parent}
use Rattle.vt_fs.specs.Trees.Paths.{path_in}
use Rattle.vt_fs.specs.Trees.TreeValue.{inodes_of, tree_of}
use Rattle.vt_fs.proofs.PathLemmas.{path_from}
use Rattle.vt_fs.proofs.tree.trees.Tree.path_down.Given as goal

-- the names so far are the last of the path, and the way that is left leads to the others
abbrev pub invariant-loop-alloc : goal.invariant-loop-alloc
invariant-loop-alloc l = path_from (inodes_of l.self) l.top (map (λ name. name.items) l.names.items)
    (chain l.left (named_parent nat_eq (tree_of l.self)) l.here)
    ≡ path_in nat_eq (inodes_of l.self) l.top l.fn.directory

abbrev pub decreases-loop-alloc : goal.decreases-loop-alloc
decreases-loop-alloc l = l.left
