use Rattle.std.proofs.Common.{ap, arith, is_some, option_copied, rules, subst, sym, ◌<◌, ◌∙◌}
use Rattle.vt_spec.proofs.Common.{YieldsList-from_slice, any_from_yields_List}
use Rattle.vt_location.specs.Locations.{inode_of, number_of}
use Rattle.vt_location.specs.Numbers.{exchanged}
use Rattle.vt_births.specs.Births.{node_above}
use Rattle.vt_fs.specs.Trees.Names.{HoldsNames}
use Rattle.vt_fs.specs.Trees.TreeValue.{tree_of}
use Rattle.vt_upper_overlay.specs.Lent.{is_shown_name}
use Rattle.vt_upper_overlay.specs.MergedAbove.{directory_path}
use Rattle.vt_upper_overlay.proofs.NamesFound.{any_passing}
use Rattle.vt_upper_overlay.proofs.overlay.UpperOverlay.shows_name.Goals as goal

pub returns : goal.returns
returns c =
    let trees = c.args.trees.now in
    let overlay = c.args.self.now in
    let count = c.args.inode.filesystem.count in
    let tree = c.in-Some.tree.now in
    let directories = c.directories_of-directories.result.now in
    let small : c.args.inode.slot < 18446744073709551616 =
    let h = c.node.type_inv in let e = c.node.ensures in omega (arith, h, e) in
    let holds = subst (λ slot. HoldsNames (tree_of tree) slot directories) c.node.ensures
    c.directories_of-directories.ensures in
    any_from_yields_List (λ directory. is_shown_name trees overlay count (inode_of c.args.inode)
    (exchanged count directory)) _ _ _
    c.any.ensures.ran (YieldsList-from_slice directories cc) (λ x b q k. search rules)
    ∙ any_passing trees count (λ directory. is_some (directory_path trees overlay
    (number_of (node_above overlay.nodes.births overlay.layers.number (exchanged count directory))))) tree
    (sym (ap option_copied c.in-Some.is) ∙ c.get.ensures) c.args.inode.slot small directories holds
