use Rattle.std.proofs.Common.{ap, false, nat_eq, sym, true, ◌∙◌, ◌≡◌}
use Rattle.vt_location.specs.Locations.{number_of}
use Rattle.vt_location.specs.Numbers.{exchanged}
use Rattle.vt_fs.specs.FilesystemsValue.{files_at, inodes_at}
use Rattle.vt_fs.proofs.Nowhere.{no_inode_there, removed_there}
use Rattle.vt_fs.proofs.Parents.{removed_by_parent, root_stays}
use Rattle.vt_fs.proofs.Standing.{at_look, own_there}
use Rattle.vt_fs.proofs.filesystems.Filesystems.is_removed.Goals as goal

pub returns-then-is_same : goal.returns-then-is_same
returns-then-is_same c =
    let f = c.args.directory.filesystem.count in
    let number = number_of c.args.directory in
    let root = at_look c.args.self.now f c.in-Some.tree.now (sym c.in-Some.ensures)
    (λ count tree. exchanged count tree.root)
    ∙ ap (exchanged f) (sym c.root.ensures.value) ∙ sym c.in_slot.ensures.number in
    let same : nat_eq number (files_at c.args.self.now f).tree.root ≡ true =
    ap (nat_eq number) root ∙ sym c.is_same.ensures ∙ c.if-is_same.true in
    sym (root_stays (files_at c.args.self.now f).tree number same)

pub returns-in-Some-slot_in : goal.returns-in-Some-slot_in
returns-in-Some-slot_in c =
    let f = c.args.directory.filesystem.count in
    let number = number_of c.args.directory in
    let found = sym c.in-Some.ensures in
    let root = at_look c.args.self.now f c.in-Some.tree.now found (λ count tree. exchanged count tree.root)
    ∙ ap (exchanged f) (sym c.root.ensures.value) ∙ sym c.in_slot.ensures.number in
    let apart : nat_eq number (files_at c.args.self.now f).tree.root ≡ false =
    ap (nat_eq number) root ∙ sym c.is_same.ensures ∙ c.if-is_same.false in
    c.eq.ensures ∙ ap (nat_eq c.in-Some-slot_in.slot) c.parent.ensures
    ∙ sym (own_there c.args.self.now f c.in-Some.tree.now found c.in-Some-slot_in.slot _
    c.in-Some-slot_in.ensures.number)
    ∙ sym (removed_by_parent (inodes_at c.args.self.now f) c.requires.named number apart)

pub returns-in-None : goal.returns-in-None
returns-in-None c =
    let f = c.args.directory.filesystem.count in
    let number = number_of c.args.directory in
    let found = sym c.in-Some.ensures in
    let root = at_look c.args.self.now f c.in-Some.tree.now found (λ count tree. exchanged count tree.root)
    ∙ ap (exchanged f) (sym c.root.ensures.value) ∙ sym c.in_slot.ensures.number in
    let apart : nat_eq number (files_at c.args.self.now f).tree.root ≡ false =
    ap (nat_eq number) root ∙ sym c.is_same.ensures ∙ c.if-is_same.false in
    sym (removed_there c.args.self.now f number (no_inode_there c.args.self.now f c.in-Some.tree.now found number
    (c.slot_in.ensures.nowhere c.in-None.is)) apart)
