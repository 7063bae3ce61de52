use Rattle.std.proofs.Common.{ap, length, refl, subst, sym, ℕ, ◌+◌, ◌<◌, ◌∙◌}
use Rattle.vt_spec.proofs.Common.{Make, entries_in}
use Rattle.vt_location.specs.Locations.{number_of}
use Rattle.vt_location.specs.Numbers.{exchanged}
use Rattle.vt_fs.specs.FilesystemsValue.{node_seen, with_tree}
use Rattle.vt_fs.proofs.Nowhere.{directory_has_slot, slot_there}
use Rattle.vt_fs.proofs.Standing.{at_look, changes, directory_exists, directory_there, found_with, free_there, names_there, plain_there, standing_of}
use Rattle.vt_fs.proofs.filesystems.Filesystems.create_promised.Goals as goal

pub unwrap-parent-requires : goal.unwrap-parent-requires
unwrap-parent-requires c =
    directory_has_slot c.args.self.now c.args.directory.filesystem.count (number_of c.args.directory) c.slot_of.result
    c.slot_of.ensures.nowhere c.requires.directory

pub unwrap-tree-requires : goal.unwrap-tree-requires
unwrap-tree-requires c =
    directory_exists c.args.self.now c.args.directory.filesystem.count c.get_mut.result c.get_mut.ensures.value
    (number_of c.args.directory) c.requires.directory

pub create_promised-slot-requires-clause-directory : goal.create_promised-slot-requires-clause-directory
create_promised-slot-requires-clause-directory c =
    let f = c.args.directory.filesystem.count in
    let standing =
    standing_of c.args.self.now f c.get_mut.result c.unwrap-tree.result c.get_mut.ensures.value c.get_mut.ensures.apart
    c.unwrap-tree.ensures in
    let parent = slot_there f (number_of c.args.directory) c.slot_of.result c.unwrap-parent.result
    c.slot_of.ensures.number c.unwrap-parent.ensures in
    sym (directory_there c.args.self.now f c.unwrap-tree.result.now standing.found c.unwrap-parent.result _ parent)
    ∙ c.requires.directory

pub create_promised-slot-requires-clause-free : goal.create_promised-slot-requires-clause-free
create_promised-slot-requires-clause-free c =
    let f = c.args.directory.filesystem.count in
    let standing =
    standing_of c.args.self.now f c.get_mut.result c.unwrap-tree.result c.get_mut.ensures.value c.get_mut.ensures.apart
    c.unwrap-tree.ensures in
    let parent = slot_there f (number_of c.args.directory) c.slot_of.result c.unwrap-parent.result
    c.slot_of.ensures.number c.unwrap-parent.ensures in
    free_there c.args.self.now f c.unwrap-tree.result.now standing.found c.unwrap-parent.result _ c.args.name.items
    parent c.requires.free

pub create_promised-slot-requires-clause-promised : goal.create_promised-slot-requires-clause-promised
create_promised-slot-requires-clause-promised c =
    let f = c.args.directory.filesystem.count in
    let standing =
    standing_of c.args.self.now f c.get_mut.result c.unwrap-tree.result c.get_mut.ensures.value c.get_mut.ensures.apart
    c.unwrap-tree.ensures in
    subst (λ promised. 0 < promised)
    (at_look c.args.self.now f c.unwrap-tree.result.now standing.found (λ count tree. tree.promised))
    c.requires.promised

pub create_promised-slot-requires-clause-unnamed : goal.create_promised-slot-requires-clause-unnamed
create_promised-slot-requires-clause-unnamed c = λ place.
    let f = c.args.directory.filesystem.count in
    let tree = c.unwrap-tree.result.now in
    let standing =
    standing_of c.args.self.now f c.get_mut.result c.unwrap-tree.result c.get_mut.ensures.value c.get_mut.ensures.apart
    c.unwrap-tree.ensures in
    let next = at_look c.args.self.now f tree standing.found (λ count tree. exchanged count tree.next) in
    sym (names_there c.args.self.now f tree standing.found place _ tree.next _ refl (sym next))
    ∙ c.requires.unnamed (exchanged f place)

pub create_promised-slot-requires-clause-room : goal.create_promised-slot-requires-clause-room
create_promised-slot-requires-clause-room c =
    let f = c.args.directory.filesystem.count in
    let standing =
    standing_of c.args.self.now f c.get_mut.result c.unwrap-tree.result c.get_mut.ensures.value c.get_mut.ensures.apart
    c.unwrap-tree.ensures in
    let parent = slot_there f (number_of c.args.directory) c.slot_of.result c.unwrap-parent.result
    c.slot_of.ensures.number c.unwrap-parent.ensures in
    subst (λ entries. entries < c.args.room.now)
    (plain_there c.args.self.now f c.unwrap-tree.result.now standing.found ℕ (λ A node. length (entries_in node))
    c.unwrap-parent.result _ parent) c.requires.room

pub returns-clause-made : goal.returns-clause-made
returns-clause-made c =
    let f = c.args.directory.filesystem.count in
    let standing =
    standing_of c.args.self.now f c.get_mut.result c.unwrap-tree.result c.get_mut.ensures.value c.get_mut.ensures.apart
    c.unwrap-tree.ensures in
    let parent = slot_there f (number_of c.args.directory) c.slot_of.result c.unwrap-parent.result
    c.slot_of.ensures.number c.unwrap-parent.ensures in
    changes c.args.self.now f c.create_promised-slot.new.self c.unwrap-tree.result.now standing
    (Make c.unwrap-parent.result c.args.name.items c.create_promised-slot.result c.args.node) _
    (λ i. Make (parent i) c.args.name.items (sym c.in_slot.ensures.number i) (node_seen f c.args.node))
    c.create_promised-slot.ensures.made

pub returns-clause-number : goal.returns-clause-number
returns-clause-number c =
    let f = c.args.directory.filesystem.count in
    let standing =
    standing_of c.args.self.now f c.get_mut.result c.unwrap-tree.result c.get_mut.ensures.value c.get_mut.ensures.apart
    c.unwrap-tree.ensures in
    let parent = slot_there f (number_of c.args.directory) c.slot_of.result c.unwrap-parent.result
    c.slot_of.ensures.number c.unwrap-parent.ensures in
    c.in_slot.ensures.number ∙ ap (exchanged f) c.create_promised-slot.ensures.number
    ∙ sym (at_look c.args.self.now f c.unwrap-tree.result.now standing.found (λ count tree. exchanged count tree.next))

pub returns-clause-promised : goal.returns-clause-promised
returns-clause-promised c =
    let f = c.args.directory.filesystem.count in
    let new = c.create_promised-slot.new.self in
    let standing =
    standing_of c.args.self.now f c.get_mut.result c.unwrap-tree.result c.get_mut.ensures.value c.get_mut.ensures.apart
    c.unwrap-tree.ensures in
    ap (λ n. n + 1) (at_look (with_tree f new c.args.self.now) f new
    (found_with c.args.self.now f new c.unwrap-tree.result.now standing.found) (λ count tree. tree.promised))
    ∙ c.create_promised-slot.ensures.promised
    ∙ sym (at_look c.args.self.now f c.unwrap-tree.result.now standing.found (λ count tree. tree.promised))
