use Rattle.std.proofs.Common.{rules, ◌≡◌, sym, ap, ◌∙◌, false, nat_eq, None, option_map}
use Rattle.vt_fs.specs.Trees.TreeValue.{tree_of}
use Rattle.vt_fs.proofs.PathLemmas.{nothing_in, one_name_in, parent_in_which}
use Rattle.vt_fs.proofs.tree.trees.Tree.name_above.Goals as goal

pub name_of-requires : goal.name_of-requires
name_of-requires c =
    one_name_in (tree_of c.args.self.now) c.requires c.args.directory c.parent-parent.result c.in_ok-node.field-0.now
    c.parent-parent.ensures c.in_ok-node.ensures

pub returns-in_err-name-clause-parent : goal.returns-in_err-name-clause-parent
returns-in_err-name-clause-parent c =
    let other : nat_eq c.args.directory (tree_of c.args.self.now).root ≡ false = cc in
    let nothing : c.from_residual-in_err-name.result ≡ None = search rules in
    ap (option_map (λ above. above.0)) nothing
    ∙ sym (nothing_in (tree_of c.args.self.now) c.requires c.args.directory c.parent-parent.result
    c.in_ok-node.field-0.now c.parent-parent.ensures c.in_ok-node.ensures
    other c.in_err-name.ensures)

pub returns-clause-parent : goal.returns-clause-parent
returns-clause-parent c =
    let other : nat_eq c.args.directory (tree_of c.args.self.now).root ≡ false = cc in
    parent_in_which (tree_of c.args.self.now) c.requires c.args.directory c.parent-parent.result
    c.in_ok-node.field-0.now c.parent-parent.ensures c.in_ok-node.ensures
    other c.in_ok-name.name.now c.in_ok-name.ensures
