use Rattle.std.proofs.Common.{ap, sym, ◌∙◌, Some}
use Rattle.vt_location.specs.Numbers.{exchanged}
use Rattle.vt_fs.proofs.Standing.{entry_look}
use Rattle.vt_fs.proofs.filesystems.Filesystems.root.Goals as goal

pub returns-clause-number : goal.returns-clause-number
returns-clause-number c =
    let f = c.args.filesystem.count in
    ap Some (c.in_slot.ensures.number ∙ ap (exchanged f) c.root.ensures.value)
    ∙ sym (entry_look c.args.self.now f c.in_ok-tree.tree.now (sym c.in_ok-tree.ensures)
    (λ count tree. exchanged count tree.root))
