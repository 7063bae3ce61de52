use Rattle.std.proofs.Common.{is_some, ap, length, subst, sym, ℕ, ◌<◌, ◌∙◌}
use Rattle.vt_spec.proofs.Common.{Move, entries_in, is_directory_node}
use Rattle.vt_location.specs.Locations.{number_of}
use Rattle.vt_location.specs.declared.numbers.FilesystemId.{FilesystemId}
use Rattle.vt_fs.specs.FilesystemsValue.{files_at, with_tree}
use Rattle.vt_location.specs.Numbers.{exchanged}
use Rattle.vt_fs.proofs.Nowhere.{directory_has_slot, inode_has_slot, parent_has_slot, slot_there}
use Rattle.vt_fs.proofs.Standing.{at_look, changes, directory_exists, directory_there, found_with, outside_there, plain_there, replaced_there, slot_named, standing_of}
use Rattle.vt_fs.proofs.filesystems.Filesystems.rename_promised.Goals as goal

pub unwrap-was_in-requires : goal.unwrap-was_in-requires
unwrap-was_in-requires c =
    parent_has_slot c.args.self.now c.args.from.filesystem.count (number_of c.args.from) c.slot_of.result
    c.slot_of.ensures.nowhere c.args.old.now (number_of c.args.object) c.requires.named

pub unwrap-goes_to-requires : goal.unwrap-goes_to-requires
unwrap-goes_to-requires c =
    directory_has_slot c.args.self.now c.args.to.filesystem.count (number_of c.args.to) c.slot_of-2.result
    c.slot_of-2.ensures.nowhere
    (ap (λ (id : FilesystemId). is_directory_node ((files_at c.args.self.now id.count).tree.node (number_of c.args.to)))
    c.requires.one_filesystem ∙ c.requires.directory)

pub unwrap-named-requires : goal.unwrap-named-requires
unwrap-named-requires c =
    inode_has_slot c.args.self.now c.args.object.filesystem.count (number_of c.args.object) c.slot_of-3.result
    c.slot_of-3.ensures.nowhere
    (ap (λ (id : FilesystemId). is_some ((files_at c.args.self.now id.count).tree.node (number_of c.args.object)))
    c.requires.of_object ∙ c.requires.there)

pub unwrap-tree-requires : goal.unwrap-tree-requires
unwrap-tree-requires c =
    directory_exists c.args.self.now c.args.from.filesystem.count c.get_mut.result c.get_mut.ensures.value
    (number_of c.args.to) c.requires.directory

pub rename_promised-requires-clause-named : goal.rename_promised-requires-clause-named
rename_promised-requires-clause-named c =
    let f = c.args.from.filesystem.count in
    let standing =
    standing_of c.args.self.now f c.get_mut.result c.unwrap-tree.result c.get_mut.ensures.value c.get_mut.ensures.apart
    c.unwrap-tree.ensures in
    let was_in = slot_there f (number_of c.args.from) c.slot_of.result c.unwrap-was_in.result
    c.slot_of.ensures.number c.unwrap-was_in.ensures in
    let named = slot_there c.args.object.filesystem.count (number_of c.args.object) c.slot_of-3.result
    c.unwrap-named.result c.slot_of-3.ensures.number c.unwrap-named.ensures in
    let object = ap (λ id. exchanged id.count c.unwrap-named.result) (sym c.requires.of_object) ∙ named in
    slot_named c.args.self.now f c.unwrap-tree.result.now standing.found c.unwrap-was_in.result _ c.args.old.now
    c.unwrap-named.result _ was_in object c.requires.named

pub rename_promised-requires-clause-directory : goal.rename_promised-requires-clause-directory
rename_promised-requires-clause-directory c =
    let f = c.args.from.filesystem.count in
    let standing =
    standing_of c.args.self.now f c.get_mut.result c.unwrap-tree.result c.get_mut.ensures.value c.get_mut.ensures.apart
    c.unwrap-tree.ensures in
    let goes_to = slot_there c.args.to.filesystem.count (number_of c.args.to) c.slot_of-2.result
    c.unwrap-goes_to.result c.slot_of-2.ensures.number c.unwrap-goes_to.ensures in
    let to = ap (λ id. exchanged id.count c.unwrap-goes_to.result) (sym c.requires.one_filesystem) ∙ goes_to in
    sym (directory_there c.args.self.now f c.unwrap-tree.result.now standing.found c.unwrap-goes_to.result _ to)
    ∙ c.requires.directory

pub rename_promised-requires-clause-replaced : goal.rename_promised-requires-clause-replaced
rename_promised-requires-clause-replaced c =
    let f = c.args.from.filesystem.count in
    let standing =
    standing_of c.args.self.now f c.get_mut.result c.unwrap-tree.result c.get_mut.ensures.value c.get_mut.ensures.apart
    c.unwrap-tree.ensures in
    let goes_to = slot_there c.args.to.filesystem.count (number_of c.args.to) c.slot_of-2.result
    c.unwrap-goes_to.result c.slot_of-2.ensures.number c.unwrap-goes_to.ensures in
    let named = slot_there c.args.object.filesystem.count (number_of c.args.object) c.slot_of-3.result
    c.unwrap-named.result c.slot_of-3.ensures.number c.unwrap-named.ensures in
    let to = ap (λ id. exchanged id.count c.unwrap-goes_to.result) (sym c.requires.one_filesystem) ∙ goes_to in
    let object = ap (λ id. exchanged id.count c.unwrap-named.result) (sym c.requires.of_object) ∙ named in
    replaced_there c.args.self.now f c.unwrap-tree.result.now standing.found c.unwrap-goes_to.result _ c.args.new.items
    c.unwrap-named.result _ to object c.requires.replaced

pub rename_promised-requires-clause-outside : goal.rename_promised-requires-clause-outside
rename_promised-requires-clause-outside c =
    let f = c.args.from.filesystem.count in
    let standing =
    standing_of c.args.self.now f c.get_mut.result c.unwrap-tree.result c.get_mut.ensures.value c.get_mut.ensures.apart
    c.unwrap-tree.ensures in
    let goes_to = slot_there c.args.to.filesystem.count (number_of c.args.to) c.slot_of-2.result
    c.unwrap-goes_to.result c.slot_of-2.ensures.number c.unwrap-goes_to.ensures in
    let named = slot_there c.args.object.filesystem.count (number_of c.args.object) c.slot_of-3.result
    c.unwrap-named.result c.slot_of-3.ensures.number c.unwrap-named.ensures in
    let to = ap (λ id. exchanged id.count c.unwrap-goes_to.result) (sym c.requires.one_filesystem) ∙ goes_to in
    let object = ap (λ id. exchanged id.count c.unwrap-named.result) (sym c.requires.of_object) ∙ named in
    outside_there c.args.self.now f c.unwrap-tree.result.now standing.found c.unwrap-goes_to.result _
    c.unwrap-named.result _ to object c.requires.outside

pub rename_promised-requires-clause-room : goal.rename_promised-requires-clause-room
rename_promised-requires-clause-room c =
    let f = c.args.from.filesystem.count in
    let standing =
    standing_of c.args.self.now f c.get_mut.result c.unwrap-tree.result c.get_mut.ensures.value c.get_mut.ensures.apart
    c.unwrap-tree.ensures in
    let goes_to = slot_there c.args.to.filesystem.count (number_of c.args.to) c.slot_of-2.result
    c.unwrap-goes_to.result c.slot_of-2.ensures.number c.unwrap-goes_to.ensures in
    let to = ap (λ id. exchanged id.count c.unwrap-goes_to.result) (sym c.requires.one_filesystem) ∙ goes_to in
    subst (λ entries. entries < c.args.room.now)
    (plain_there c.args.self.now f c.unwrap-tree.result.now standing.found ℕ (λ A node. length (entries_in node))
    c.unwrap-goes_to.result _ to) c.requires.room

pub returns-clause-moved : goal.returns-clause-moved
returns-clause-moved c =
    let f = c.args.from.filesystem.count in
    let standing =
    standing_of c.args.self.now f c.get_mut.result c.unwrap-tree.result c.get_mut.ensures.value c.get_mut.ensures.apart
    c.unwrap-tree.ensures in
    let was_in = slot_there f (number_of c.args.from) c.slot_of.result c.unwrap-was_in.result
    c.slot_of.ensures.number c.unwrap-was_in.ensures in
    let goes_to = slot_there c.args.to.filesystem.count (number_of c.args.to) c.slot_of-2.result
    c.unwrap-goes_to.result c.slot_of-2.ensures.number c.unwrap-goes_to.ensures in
    let named = slot_there c.args.object.filesystem.count (number_of c.args.object) c.slot_of-3.result
    c.unwrap-named.result c.slot_of-3.ensures.number c.unwrap-named.ensures in
    let to = ap (λ id. exchanged id.count c.unwrap-goes_to.result) (sym c.requires.one_filesystem) ∙ goes_to in
    let object = ap (λ id. exchanged id.count c.unwrap-named.result) (sym c.requires.of_object) ∙ named in
    changes c.args.self.now f c.rename_promised.new.self c.unwrap-tree.result.now standing
    (Move c.unwrap-was_in.result c.args.old.now c.unwrap-goes_to.result c.args.new.items c.unwrap-named.result) _
    (λ i. Move (was_in i) c.args.old.now (to i) c.args.new.items (object i)) c.rename_promised.ensures.moved

pub returns-clause-promised : goal.returns-clause-promised
returns-clause-promised c =
    let f = c.args.from.filesystem.count in
    let new = c.rename_promised.new.self in
    let standing =
    standing_of c.args.self.now f c.get_mut.result c.unwrap-tree.result c.get_mut.ensures.value c.get_mut.ensures.apart
    c.unwrap-tree.ensures in
    at_look (with_tree f new c.args.self.now) f new
    (found_with c.args.self.now f new c.unwrap-tree.result.now standing.found) (λ count tree. tree.promised)
    ∙ c.rename_promised.ensures.promised
    ∙ sym (at_look c.args.self.now f c.unwrap-tree.result.now standing.found (λ count tree. tree.promised))
