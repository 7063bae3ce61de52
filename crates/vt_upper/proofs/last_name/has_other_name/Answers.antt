use Rattle.std.proofs.Common.{ap, arith, option_copied, rules, subst, sym, ◌<◌, ◌∙◌}
use Rattle.vt_spec.proofs.Common.{YieldsList-from_slice, any_from_yields_List, list_any}
use Rattle.vt_fs.specs.FilesystemsValue.{files_at}
use Rattle.vt_fs.specs.Trees.Names.{HoldsNames}
use Rattle.vt_fs.specs.Trees.TreeValue.{tree_of}
use Rattle.vt_upper.proofs.LastNames.{counts_named}
use Rattle.vt_upper.specs.LastName.{is_other_name}
use Rattle.vt_location.specs.Numbers.{exchanged}
use Rattle.vt_upper_overlay.proofs.NamesFound.{any_passing}
use Rattle.vt_upper.proofs.last_name.has_other_name.Goals as goal

pub returns : goal.returns
returns c =
    let trees = c.args.trees.now in
    let overlay = c.args.overlay.now in
    let inode = c.args.inode in
    let count = inode.filesystem.count in
    let tree = c.in-Some.tree.now in
    let directories = c.directories_of-directories.result.now in
    let small : inode.slot < 18446744073709551616 =
    let h = c.node.type_inv in let e = c.node.ensures in omega (arith, h, e) in
    let holds = subst (λ slot. HoldsNames (tree_of tree) slot directories) c.node.ensures
    c.directories_of-directories.ensures in
    any_from_yields_List (λ other. is_other_name trees overlay inode c.args.directory (exchanged count other)) _ _ _
    c.any.ensures.ran (YieldsList-from_slice directories cc) (λ x b q k. search rules)
    ∙ (λ i. list_any (λ other. counts_named trees overlay inode c.args.directory (exchanged count other) i) directories)
    ∙ any_passing trees count (is_other_name trees overlay inode c.args.directory) tree
    (sym (ap option_copied c.in-Some.is) ∙ c.get.ensures) inode.slot small directories holds
    ∙ (λ i. list_any (λ other. sym (counts_named trees overlay inode c.args.directory other) i)
    (files_at trees count).numbers)
