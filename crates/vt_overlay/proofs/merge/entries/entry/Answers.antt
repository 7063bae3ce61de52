use Rattle.std.proofs.Common.{rules, ◌≡◌, ◌∙◌, ap, sym, None, Some, option_map, option_copied}
use Rattle.vt_location.specs.Locations.{inode_of}
use Rattle.vt_location.specs.Numbers.{exchanged}
use Rattle.vt_fs.specs.Trees.TreeValue.{tree_of}
use Rattle.vt_overlay.proofs.merge.EntriesSeen.{entry_seen}
use Rattle.vt_overlay.proofs.merge.entries.entry.Goals as goal

pub returns-in_err-slot-clause-number : goal.returns-in_err-slot-clause-number
returns-in_err-slot-clause-number c =
    let f = c.args.directory.filesystem.count in
    let lent : option_copied c.args.tree ≡ Some c.in_ok-tree.field-0.now = search rules in
    let is : (tree_of c.in_ok-tree.field-0.now).node c.slot_of.result ≡ Some c.in_ok-node.field-0.now = search rules in
    let none : c.from_residual-in_err-slot.result ≡ None = search rules in
    let missing : c.entry.result ≡ None = search rules in
    ap (option_map inode_of) none ∙ ap (option_map (exchanged f)) (sym missing ∙ c.entry.ensures)
    ∙ entry_seen f (option_copied c.args.tree) c.in_ok-tree.field-0.now c.slot_of.result _ c.args.name.now
    c.in_ok-node.field-0.now lent c.slot_of.ensures.number is

pub returns-clause-number : goal.returns-clause-number
returns-clause-number c =
    let f = c.args.directory.filesystem.count in
    let lent : option_copied c.args.tree ≡ Some c.in_ok-tree.field-0.now = search rules in
    let is : (tree_of c.in_ok-tree.field-0.now).node c.slot_of.result ≡ Some c.in_ok-node.field-0.now = search rules in
    let there : c.entry.result ≡ Some c.in_ok-slot.slot = search rules in
    ap Some c.beside.ensures.number ∙ ap (option_map (exchanged f)) (sym there ∙ c.entry.ensures)
    ∙ entry_seen f (option_copied c.args.tree) c.in_ok-tree.field-0.now c.slot_of.result _ c.args.name.now
    c.in_ok-node.field-0.now lent c.slot_of.ensures.number is
