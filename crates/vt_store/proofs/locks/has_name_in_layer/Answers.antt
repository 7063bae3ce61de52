use Rattle.std.proofs.Common.{arith, ap, below_more, length, option_copied, subst, sym, ◌<◌, ◌∙◌}
use Rattle.std.proofs.lemmas.List.{get_or_default}
use Rattle.vt_fs.specs.Trees.Names.{HoldsNames}
use Rattle.vt_fs.specs.Trees.TreeValue.{tree_of}
use Rattle.vt_location.proofs.NumberLemmas.{exchanged_slot}
use Rattle.vt_location.specs.Locations.{inode_of}
use Rattle.vt_location.specs.Numbers.{exchanged, inode_number}
use Rattle.vt_store.proofs.NamesFound.{none_named, one_named}
use Rattle.vt_store.proofs.locks.has_name_in_layer.Goals as goal
use Rattle.vt_store.specs.Locks.{names_in_layer}

-- this directory neither
pub loop-directory-preserved : goal.loop-directory-preserved
loop-directory-preserved c =
    let count = c.args.file.filesystem.count in
    let directories = c.directories_of-directories.result.now in
    let index = c.loop-directory.directory-index in
    let within : index < length directories = omega arith in
    let item = c.directory-item.is ∙ get_or_default directories index c.directory-item.result 0 within in
    let small : c.index-slot.result < 18446744073709551616 = let h = c.index-slot.type_inv in omega (arith, h) in
    let test = names_in_layer c.args.plain.now c.args.overlays.now count (inode_of c.args.file) in
    below_more _ _ c.loop-directory.invariant (ap (λ n. test (exchanged count n)) (sym item ∙ sym c.index-slot.ensures)
    ∙ ap test (exchanged_slot count c.index-slot.result small) ∙ sym c.names_in_layer.ensures
    ∙ c.if-names_in_layer.false)

pub returns-then-names_in_layer : goal.returns-then-names_in_layer
returns-then-names_in_layer c =
    let count = c.args.file.filesystem.count in
    let tree = c.in-Some.tree.now in
    let directories = c.directories_of-directories.result.now in
    let small : c.args.file.slot < 18446744073709551616 =
    let h = c.node.type_inv in let e = c.node.ensures in omega (arith, h, e) in
    let holds = subst (λ slot. HoldsNames (tree_of tree) slot directories) c.node.ensures
    c.directories_of-directories.ensures in
    sym (one_named c.args.plain.now c.args.overlays.now count tree (sym (ap option_copied c.in-Some.is) ∙ c.get.ensures)
    c.args.file.slot small directories holds (inode_number count c.index-slot.result)
    (sym c.names_in_layer.ensures ∙ c.if-names_in_layer.true))

pub returns : goal.returns
returns c =
    let count = c.args.file.filesystem.count in
    let tree = c.in-Some.tree.now in
    let directories = c.directories_of-directories.result.now in
    let small : c.args.file.slot < 18446744073709551616 =
    let h = c.node.type_inv in let e = c.node.ensures in omega (arith, h, e) in
    let holds = subst (λ slot. HoldsNames (tree_of tree) slot directories) c.node.ensures
    c.directories_of-directories.ensures in
    sym (none_named c.args.plain.now c.args.overlays.now count tree
    (sym (ap option_copied c.in-Some.is) ∙ c.get.ensures) c.args.file.slot small directories holds
    (λ k within. c.loop-directory.invariant k (omega (arith, within, c.loop-directory-test.false))))
