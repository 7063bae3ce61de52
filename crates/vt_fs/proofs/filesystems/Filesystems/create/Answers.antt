use Rattle.std.proofs.Common.{rules, ◌≡◌, ap, subst, sym, ◌∙◌, Err, OnErr}
use Rattle.vt_spec.proofs.Common.{Make}
use Rattle.vt_location.specs.Locations.{number_of}
use Rattle.vt_location.specs.Numbers.{exchanged}
use Rattle.vt_fs.specs.FilesystemsValue.{node_seen, with_tree}
use Rattle.vt_fs.proofs.Nowhere.{directory_has_slot, slot_there}
use Rattle.vt_fs.proofs.Standing.{at_look, changes, directory_exists, directory_there, free_there, kept, standing_of}
use Rattle.vt_fs.proofs.filesystems.Filesystems.create.Goals as goal

pub unwrap-parent-requires : goal.unwrap-parent-requires
unwrap-parent-requires c =
    directory_has_slot c.args.self.now c.args.directory.filesystem.count (number_of c.args.directory) c.slot_of.result
    c.slot_of.ensures.nowhere c.requires.directory

pub unwrap-tree-requires : goal.unwrap-tree-requires
unwrap-tree-requires c =
    directory_exists c.args.self.now c.args.directory.filesystem.count c.get_mut.result c.get_mut.ensures.value
    (number_of c.args.directory) c.requires.directory

pub create-requires-clause-directory : goal.create-requires-clause-directory
create-requires-clause-directory c =
    let f = c.args.directory.filesystem.count in
    let standing =
    standing_of c.args.self.now f c.get_mut.result c.unwrap-tree.result c.get_mut.ensures.value c.get_mut.ensures.apart
    c.unwrap-tree.ensures in
    let parent = slot_there f (number_of c.args.directory) c.slot_of.result c.unwrap-parent.result
    c.slot_of.ensures.number c.unwrap-parent.ensures in
    sym (directory_there c.args.self.now f c.unwrap-tree.result.now standing.found c.unwrap-parent.result _ parent)
    ∙ c.requires.directory

pub create-requires-clause-free : goal.create-requires-clause-free
create-requires-clause-free c =
    let f = c.args.directory.filesystem.count in
    let standing =
    standing_of c.args.self.now f c.get_mut.result c.unwrap-tree.result c.get_mut.ensures.value c.get_mut.ensures.apart
    c.unwrap-tree.ensures in
    let parent = slot_there f (number_of c.args.directory) c.slot_of.result c.unwrap-parent.result
    c.slot_of.ensures.number c.unwrap-parent.ensures in
    free_there c.args.self.now f c.unwrap-tree.result.now standing.found c.unwrap-parent.result _ c.args.name.items
    parent c.requires.free

pub returns-in_err-slot-clause-err : goal.returns-in_err-slot-clause-err
returns-in_err-slot-clause-err c =
    let f = c.args.directory.filesystem.count in
    let standing =
    standing_of c.args.self.now f c.get_mut.result c.unwrap-tree.result c.get_mut.ensures.value c.get_mut.ensures.apart
    c.unwrap-tree.ensures in
    let parent = slot_there f (number_of c.args.directory) c.slot_of.result c.unwrap-parent.result
    c.slot_of.ensures.number c.unwrap-parent.ensures in
    let error : c.from_residual.result ≡ Err c.in_err-slot.field-0.0 = search rules in
    subst (λ result. OnErr result (with_tree f c.create.new.self c.args.self.now ≡ c.args.self.now)) (sym error)
    (kept c.args.self.now f c.create.new.self c.unwrap-tree.result.now standing c.in_err-slot.ensures.err)

pub returns-clause-ok : goal.returns-clause-ok
returns-clause-ok c =
    let f = c.args.directory.filesystem.count in
    let standing =
    standing_of c.args.self.now f c.get_mut.result c.unwrap-tree.result c.get_mut.ensures.value c.get_mut.ensures.apart
    c.unwrap-tree.ensures in
    let parent = slot_there f (number_of c.args.directory) c.slot_of.result c.unwrap-parent.result
    c.slot_of.ensures.number c.unwrap-parent.ensures in
    changes c.args.self.now f c.create.new.self c.unwrap-tree.result.now standing
    (Make c.unwrap-parent.result c.args.name.items c.in_ok-slot.slot c.args.node) _
    (λ i. Make (parent i) c.args.name.items (sym c.in_slot.ensures.number i) (node_seen f c.args.node))
    c.in_ok-slot.ensures.ok

pub returns-clause-number : goal.returns-clause-number
returns-clause-number c =
    let f = c.args.directory.filesystem.count in
    let standing =
    standing_of c.args.self.now f c.get_mut.result c.unwrap-tree.result c.get_mut.ensures.value c.get_mut.ensures.apart
    c.unwrap-tree.ensures in
    let parent = slot_there f (number_of c.args.directory) c.slot_of.result c.unwrap-parent.result
    c.slot_of.ensures.number c.unwrap-parent.ensures in
    c.in_slot.ensures.number ∙ ap (exchanged f) c.in_ok-slot.ensures.number
    ∙ sym (at_look c.args.self.now f c.unwrap-tree.result.now standing.found (λ count tree. exchanged count tree.next))
