use Rattle.std.proofs.Common.{arith, nat_eq, subst, sym, true, ◌≡◌}
use Rattle.vt_spec.proofs.Common.{is_among, targets_in, tree_of as nodes_of}
use Rattle.vt_fs.proofs.tree.NameCounts.{among_often, often_among}
use Rattle.vt_fs.proofs.tree.trees.Tree.directories_of.Goals as goal
use Rattle.vt_fs.specs.Trees.Names.{HoldsNames, directories_for}
use Rattle.vt_fs.specs.Trees.Slots.{inodes_in}
use Rattle.vt_fs.specs.Trees.TreeValue.{tree_of}

-- a directory with a name is listed
pub returns : goal.returns
returns c =
    let object = c.args.object in
    let tree = nodes_of (inodes_in c.self.inside.root c.self.inside.slots) in
    subst (λ value. HoldsNames (tree_of value) object c.directories.result.now) c.self.view_is (λ directory named.
    subst (λ list. is_among nat_eq directory list ≡ true) (sym c.directories.ensures)
    (often_among directory (directories_for c.self.inside.names object) (omega (
      arith,
      among_often object (targets_in (tree.node directory)) named,
      c.self.invariant.0 object directory,
    ))))
