use Rattle.std.proofs.Common.{is_some, ap, sym, ◌∙◌}
use Rattle.vt_spec.proofs.Common.{Remove}
use Rattle.vt_location.specs.Locations.{number_of}
use Rattle.vt_location.specs.declared.numbers.FilesystemId.{FilesystemId}
use Rattle.vt_fs.specs.FilesystemsValue.{files_at, with_tree}
use Rattle.vt_location.specs.Numbers.{exchanged}
use Rattle.vt_fs.proofs.Nowhere.{inode_has_slot, parent_has_slot, slot_there}
use Rattle.vt_fs.proofs.Standing.{at_look, changes, empty_there, found_with, named_exists, slot_named, standing_of}
use Rattle.vt_fs.proofs.filesystems.Filesystems.unlink_promised.Goals as goal

pub unwrap-parent-requires : goal.unwrap-parent-requires
unwrap-parent-requires c =
    parent_has_slot c.args.self.now c.args.directory.filesystem.count (number_of c.args.directory) c.slot_of.result
    c.slot_of.ensures.nowhere c.args.name.now (number_of c.args.object) c.requires.named

pub unwrap-named-requires : goal.unwrap-named-requires
unwrap-named-requires c =
    inode_has_slot c.args.self.now c.args.object.filesystem.count (number_of c.args.object) c.slot_of-2.result
    c.slot_of-2.ensures.nowhere
    (ap (λ (id : FilesystemId). is_some ((files_at c.args.self.now id.count).tree.node (number_of c.args.object)))
    c.requires.one_filesystem ∙ c.requires.there)

pub unwrap-tree-requires : goal.unwrap-tree-requires
unwrap-tree-requires c =
    named_exists c.args.self.now c.args.directory.filesystem.count c.get_mut.result c.get_mut.ensures.value
    (number_of c.args.directory) c.args.name.now (number_of c.args.object) c.requires.named

pub unlink-requires-clause-named : goal.unlink-requires-clause-named
unlink-requires-clause-named c =
    let f = c.args.directory.filesystem.count in
    let standing =
    standing_of c.args.self.now f c.get_mut.result c.unwrap-tree.result c.get_mut.ensures.value c.get_mut.ensures.apart
    c.unwrap-tree.ensures in
    let parent = slot_there f (number_of c.args.directory) c.slot_of.result c.unwrap-parent.result
    c.slot_of.ensures.number c.unwrap-parent.ensures in
    let named_slot = slot_there c.args.object.filesystem.count (number_of c.args.object) c.slot_of-2.result
    c.unwrap-named.result c.slot_of-2.ensures.number c.unwrap-named.ensures in
    let object = ap (λ id. exchanged id.count c.unwrap-named.result) (sym c.requires.one_filesystem) ∙ named_slot in
    slot_named c.args.self.now f c.unwrap-tree.result.now standing.found c.unwrap-parent.result _ c.args.name.now
    c.unwrap-named.result _ parent object c.requires.named

pub unlink-requires-clause-empty : goal.unlink-requires-clause-empty
unlink-requires-clause-empty c =
    let f = c.args.directory.filesystem.count in
    let standing =
    standing_of c.args.self.now f c.get_mut.result c.unwrap-tree.result c.get_mut.ensures.value c.get_mut.ensures.apart
    c.unwrap-tree.ensures in
    let parent = slot_there f (number_of c.args.directory) c.slot_of.result c.unwrap-parent.result
    c.slot_of.ensures.number c.unwrap-parent.ensures in
    let named_slot = slot_there c.args.object.filesystem.count (number_of c.args.object) c.slot_of-2.result
    c.unwrap-named.result c.slot_of-2.ensures.number c.unwrap-named.ensures in
    let object = ap (λ id. exchanged id.count c.unwrap-named.result) (sym c.requires.one_filesystem) ∙ named_slot in
    empty_there c.args.self.now f c.unwrap-tree.result.now standing.found c.unwrap-named.result _ object
    c.requires.empty

pub returns-clause-removed : goal.returns-clause-removed
returns-clause-removed c =
    let f = c.args.directory.filesystem.count in
    let standing =
    standing_of c.args.self.now f c.get_mut.result c.unwrap-tree.result c.get_mut.ensures.value c.get_mut.ensures.apart
    c.unwrap-tree.ensures in
    let parent = slot_there f (number_of c.args.directory) c.slot_of.result c.unwrap-parent.result
    c.slot_of.ensures.number c.unwrap-parent.ensures in
    let named_slot = slot_there c.args.object.filesystem.count (number_of c.args.object) c.slot_of-2.result
    c.unwrap-named.result c.slot_of-2.ensures.number c.unwrap-named.ensures in
    let object = ap (λ id. exchanged id.count c.unwrap-named.result) (sym c.requires.one_filesystem) ∙ named_slot in
    changes c.args.self.now f c.unlink.new.self c.unwrap-tree.result.now standing
    (Remove c.unwrap-parent.result c.args.name.now c.unwrap-named.result) _
    (λ i. Remove (parent i) c.args.name.now (object i)) c.unlink.ensures.removed

pub returns-clause-promised : goal.returns-clause-promised
returns-clause-promised c =
    let f = c.args.directory.filesystem.count in
    let new = c.unlink.new.self in
    let standing =
    standing_of c.args.self.now f c.get_mut.result c.unwrap-tree.result c.get_mut.ensures.value c.get_mut.ensures.apart
    c.unwrap-tree.ensures in
    at_look (with_tree f new c.args.self.now) f new
    (found_with c.args.self.now f new c.unwrap-tree.result.now standing.found) (λ count tree. tree.promised)
    ∙ c.unlink.ensures.promised
    ∙ sym (at_look c.args.self.now f c.unwrap-tree.result.now standing.found (λ count tree. tree.promised))
