use Rattle.std.proofs.Common.{ap, sym, ◌∙◌, Some}
use Rattle.vt_location.specs.Numbers.{exchanged}
use Rattle.vt_fs.proofs.Standing.{entry_look, vacant_there}
use Rattle.vt_fs.proofs.filesystems.Filesystems.next_number.Goals as goal

pub returns-clause-number : goal.returns-clause-number
returns-clause-number c =
    let f = c.args.filesystem.count in
    ap Some (c.in_slot.ensures.number ∙ ap (exchanged f) c.next_number.ensures.value)
    ∙ sym (entry_look c.args.self.now f c.in_ok-tree.tree.now (sym c.in_ok-tree.ensures)
    (λ count tree. exchanged count tree.next))

pub returns-clause-vacant : goal.returns-clause-vacant
returns-clause-vacant c =
    vacant_there c.args.self.now c.args.filesystem.count c.in_ok-tree.tree.now (sym c.in_ok-tree.ensures)
    c.next_number.result _ (sym c.in_slot.ensures.number) c.next_number.ensures.vacant
