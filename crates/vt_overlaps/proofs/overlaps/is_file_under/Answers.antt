use Rattle.std.proofs.Common.{ap, arith, nat_eq, option_copied, rules, subst, sym, ◌&&◌, ◌<◌, ◌∙◌}
use Rattle.vt_spec.proofs.Common.{YieldsList-from_slice, any_from_yields_List, has_entry_to, is_directory_under}
use Rattle.vt_location.specs.Locations.{inode_of}
use Rattle.vt_location.specs.Numbers.{exchanged, inode_number}
use Rattle.vt_fs.specs.FilesystemsValue.{files_at}
use Rattle.vt_fs.specs.Trees.Names.{HoldsNames}
use Rattle.vt_fs.specs.Trees.TreeValue.{tree_of}
use Rattle.vt_upper_overlay.proofs.NamesFound.{any_passing}
use Rattle.vt_overlaps.proofs.overlaps.is_file_under.Goals as goal

pub returns : goal.returns
returns c =
    let plain = c.args.plain.now in
    let count = c.args.top.filesystem.count in
    let tree = c.in-Some.tree.now in
    let directories = c.directories_of-directories.result.now in
    let small : c.args.slot < 18446744073709551616 =
    let h = c.node.type_inv in let e = c.node.ensures in omega (arith, h, e) in
    let holds = subst (λ slot. HoldsNames (tree_of tree) slot directories) c.node.ensures
    c.directories_of-directories.ensures in
    any_from_yields_List (λ directory. has_entry_to nat_eq (files_at plain count).tree (exchanged count directory)
    (inode_number count c.args.slot)
    && is_directory_under nat_eq (files_at plain count) (inode_of c.args.top) (exchanged count directory)) _ _ _
    c.any.ensures.ran (YieldsList-from_slice directories cc) (λ x b q k. search rules)
    ∙ any_passing plain count (is_directory_under nat_eq (files_at plain count) (inode_of c.args.top)) tree
    (sym (ap option_copied c.in-Some.is) ∙ c.get.ensures) c.args.slot small directories holds
