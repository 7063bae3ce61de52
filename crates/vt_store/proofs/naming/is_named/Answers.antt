use Rattle.std.proofs.Common.{arith, ap, below_more, length, nat_eq, option_copied, subst, sym, ℕ, ◌<◌, ◌∙◌}
use Rattle.std.proofs.lemmas.List.{get_or_default}
use Rattle.vt_spec.proofs.Common.{has_entry_to}
use Rattle.vt_fs.specs.FilesystemsValue.{files_at}
use Rattle.vt_fs.specs.Trees.Names.{HoldsNames}
use Rattle.vt_fs.specs.Trees.TreeValue.{tree_of}
use Rattle.vt_location.proofs.NumberLemmas.{exchanged_slot}
use Rattle.vt_location.specs.Locations.{inode_of}
use Rattle.vt_location.specs.Numbers.{exchanged, inode_number}
use Rattle.vt_store.proofs.NamesFound.{named_by_none, named_by_one}
use Rattle.vt_store.proofs.naming.is_named.Goals as goal

-- this directory neither
pub loop-directory-preserved : goal.loop-directory-preserved
loop-directory-preserved c =
    let count = c.args.inode.filesystem.count in
    let directories = c.directories_of-directories.result.now in
    let index = c.loop-directory.directory-index in
    let within : index < length directories = omega arith in
    let item = c.directory-item.is ∙ get_or_default directories index c.directory-item.result 0 within in
    let small : c.index-slot.result < 18446744073709551616 = let h = c.index-slot.type_inv in omega (arith, h) in
    let test = λ (number : ℕ). has_entry_to nat_eq (files_at c.args.plain.now count).tree number (inode_of c.args.inode) in
    below_more _ _ c.loop-directory.invariant (ap (λ n. test (exchanged count n)) (sym item ∙ sym c.index-slot.ensures)
    ∙ ap test (exchanged_slot count c.index-slot.result small) ∙ sym c.has_name.ensures
    ∙ c.if-has_name.false)

pub returns-then-has_name : goal.returns-then-has_name
returns-then-has_name c =
    let count = c.args.inode.filesystem.count in
    let tree = c.in-Some.tree.now in
    let directories = c.directories_of-directories.result.now in
    let small : c.args.inode.slot < 18446744073709551616 =
    let h = c.node.type_inv in let e = c.node.ensures in omega (arith, h, e) in
    let holds = subst (λ slot. HoldsNames (tree_of tree) slot directories) c.node.ensures
    c.directories_of-directories.ensures in
    sym (named_by_one c.args.plain.now count tree (sym (ap option_copied c.in-Some.is) ∙ c.get.ensures)
    c.args.inode.slot small directories holds (inode_number count c.index-slot.result)
    (sym c.has_name.ensures ∙ c.if-has_name.true))

pub returns : goal.returns
returns c =
    let count = c.args.inode.filesystem.count in
    let tree = c.in-Some.tree.now in
    let directories = c.directories_of-directories.result.now in
    let small : c.args.inode.slot < 18446744073709551616 =
    let h = c.node.type_inv in let e = c.node.ensures in omega (arith, h, e) in
    let holds = subst (λ slot. HoldsNames (tree_of tree) slot directories) c.node.ensures
    c.directories_of-directories.ensures in
    sym (named_by_none c.args.plain.now count tree
    (sym (ap option_copied c.in-Some.is) ∙ c.get.ensures) c.args.inode.slot small directories holds
    (λ k within. c.loop-directory.invariant k (omega (arith, within, c.loop-directory-test.false))))
