use Rattle.std.proofs.Common.{sym, subst, ℕ, ◌∙◌, ◌≡◌}
use Rattle.vt_spec.proofs.Common.{IfOk-weaker, tree_of as nodes_of}
use Rattle.smallvec.specs.SmallVec.{SmallVec}
use Rattle.vt_fs.proofs.tree.trees.Tree.link_room.Goals as goal
use Rattle.vt_fs.specs.Trees.Names.{ListsNames, directories_for}
use Rattle.vt_fs.specs.Trees.Slots.{inodes_in}
use Rattle.vt_fs.specs.Trees.TreeValue.{tree_of}

-- each directory is listed as often as it has names
pub returns-clause-names : goal.returns-clause-names
returns-clause-names c =
    let object = c.args.object in
    let tree = nodes_of (inodes_in c.self.inside.root c.self.inside.slots) in
    let held : ListsNames tree object (directories_for c.self.inside.names object) =
    λ directory. c.self.invariant.0 object directory in
    IfOk-weaker c.beside.result (λ (room : SmallVec ℕ). room.items ≡ c.directories.result.now)
    (λ (room : SmallVec ℕ). ListsNames (tree_of c.args.self.now) object room.items)
    (λ room same. subst (λ value. ListsNames (tree_of value) object room.items) c.self.view_is
    (subst (ListsNames tree object) (sym (same ∙ c.directories.ensures)) held)) c.beside.ensures.directories
