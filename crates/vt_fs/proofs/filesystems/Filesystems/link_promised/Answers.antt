use Rattle.std.proofs.Common.{is_some, ap, length, subst, sym, ℕ, ◌<◌, ◌∙◌}
use Rattle.vt_spec.proofs.Common.{AddName, entries_in}
use Rattle.vt_location.specs.Locations.{number_of}
use Rattle.vt_location.specs.declared.numbers.FilesystemId.{FilesystemId}
use Rattle.vt_fs.specs.FilesystemsValue.{files_at, with_tree}
use Rattle.vt_location.specs.Numbers.{exchanged, most_counted}
use Rattle.vt_fs.proofs.Nowhere.{directory_has_slot, inode_has_slot, slot_there}
use Rattle.vt_fs.proofs.Standing.{at_look, changes, directory_exists, directory_there, found_with, free_there, lists_there, named_there, plain_there, standing_of, uses_there}
use Rattle.vt_fs.proofs.filesystems.Filesystems.link_promised.Goals as goal

pub unwrap-parent-requires : goal.unwrap-parent-requires
unwrap-parent-requires c =
    directory_has_slot c.args.self.now c.args.directory.filesystem.count (number_of c.args.directory) c.slot_of.result
    c.slot_of.ensures.nowhere c.requires.directory

pub unwrap-linked-requires : goal.unwrap-linked-requires
unwrap-linked-requires c =
    inode_has_slot c.args.self.now c.args.object.filesystem.count (number_of c.args.object) c.slot_of-2.result
    c.slot_of-2.ensures.nowhere
    (ap (λ (id : FilesystemId). is_some ((files_at c.args.self.now id.count).tree.node (number_of c.args.object)))
    c.requires.one_filesystem ∙ c.requires.there)

pub unwrap-tree-requires : goal.unwrap-tree-requires
unwrap-tree-requires c =
    directory_exists c.args.self.now c.args.directory.filesystem.count c.get_mut.result c.get_mut.ensures.value
    (number_of c.args.directory) c.requires.directory

pub link_promised-requires-clause-directory : goal.link_promised-requires-clause-directory
link_promised-requires-clause-directory c =
    let f = c.args.directory.filesystem.count in
    let standing =
    standing_of c.args.self.now f c.get_mut.result c.unwrap-tree.result c.get_mut.ensures.value c.get_mut.ensures.apart
    c.unwrap-tree.ensures in
    let parent = slot_there f (number_of c.args.directory) c.slot_of.result c.unwrap-parent.result
    c.slot_of.ensures.number c.unwrap-parent.ensures in
    sym (directory_there c.args.self.now f c.unwrap-tree.result.now standing.found c.unwrap-parent.result _ parent)
    ∙ c.requires.directory

pub link_promised-requires-clause-free : goal.link_promised-requires-clause-free
link_promised-requires-clause-free c =
    let f = c.args.directory.filesystem.count in
    let standing =
    standing_of c.args.self.now f c.get_mut.result c.unwrap-tree.result c.get_mut.ensures.value c.get_mut.ensures.apart
    c.unwrap-tree.ensures in
    let parent = slot_there f (number_of c.args.directory) c.slot_of.result c.unwrap-parent.result
    c.slot_of.ensures.number c.unwrap-parent.ensures in
    free_there c.args.self.now f c.unwrap-tree.result.now standing.found c.unwrap-parent.result _ c.args.name.items
    parent c.requires.free

pub link_promised-requires-clause-object : goal.link_promised-requires-clause-object
link_promised-requires-clause-object c =
    let f = c.args.directory.filesystem.count in
    let standing =
    standing_of c.args.self.now f c.get_mut.result c.unwrap-tree.result c.get_mut.ensures.value c.get_mut.ensures.apart
    c.unwrap-tree.ensures in
    let parent = slot_there f (number_of c.args.directory) c.slot_of.result c.unwrap-parent.result
    c.slot_of.ensures.number c.unwrap-parent.ensures in
    let linked = slot_there c.args.object.filesystem.count (number_of c.args.object) c.slot_of-2.result
    c.unwrap-linked.result c.slot_of-2.ensures.number c.unwrap-linked.ensures in
    let object = ap (λ id. exchanged id.count c.unwrap-linked.result) (sym c.requires.one_filesystem) ∙ linked in
    sym (directory_there c.args.self.now f c.unwrap-tree.result.now standing.found c.unwrap-linked.result _ object)
    ∙ c.requires.object

pub link_promised-requires-clause-named : goal.link_promised-requires-clause-named
link_promised-requires-clause-named c =
    let f = c.args.directory.filesystem.count in
    let standing =
    standing_of c.args.self.now f c.get_mut.result c.unwrap-tree.result c.get_mut.ensures.value c.get_mut.ensures.apart
    c.unwrap-tree.ensures in
    let parent = slot_there f (number_of c.args.directory) c.slot_of.result c.unwrap-parent.result
    c.slot_of.ensures.number c.unwrap-parent.ensures in
    let linked = slot_there c.args.object.filesystem.count (number_of c.args.object) c.slot_of-2.result
    c.unwrap-linked.result c.slot_of-2.ensures.number c.unwrap-linked.ensures in
    let object = ap (λ id. exchanged id.count c.unwrap-linked.result) (sym c.requires.one_filesystem) ∙ linked in
    named_there c.args.self.now f c.unwrap-tree.result.now standing.found c.unwrap-linked.result _ object c.requires.named

pub link_promised-requires-clause-uses : goal.link_promised-requires-clause-uses
link_promised-requires-clause-uses c =
    let f = c.args.directory.filesystem.count in
    let standing =
    standing_of c.args.self.now f c.get_mut.result c.unwrap-tree.result c.get_mut.ensures.value c.get_mut.ensures.apart
    c.unwrap-tree.ensures in
    let parent = slot_there f (number_of c.args.directory) c.slot_of.result c.unwrap-parent.result
    c.slot_of.ensures.number c.unwrap-parent.ensures in
    let linked = slot_there c.args.object.filesystem.count (number_of c.args.object) c.slot_of-2.result
    c.unwrap-linked.result c.slot_of-2.ensures.number c.unwrap-linked.ensures in
    let object = ap (λ id. exchanged id.count c.unwrap-linked.result) (sym c.requires.one_filesystem) ∙ linked in
    subst (λ uses. uses < most_counted)
    (uses_there c.args.self.now f c.unwrap-tree.result.now standing.found c.unwrap-linked.result _ object) c.requires.uses

pub link_promised-requires-clause-room : goal.link_promised-requires-clause-room
link_promised-requires-clause-room c =
    let f = c.args.directory.filesystem.count in
    let standing =
    standing_of c.args.self.now f c.get_mut.result c.unwrap-tree.result c.get_mut.ensures.value c.get_mut.ensures.apart
    c.unwrap-tree.ensures in
    let parent = slot_there f (number_of c.args.directory) c.slot_of.result c.unwrap-parent.result
    c.slot_of.ensures.number c.unwrap-parent.ensures in
    subst (λ entries. entries < c.args.room.now)
    (plain_there c.args.self.now f c.unwrap-tree.result.now standing.found ℕ (λ A node. length (entries_in node))
    c.unwrap-parent.result _ parent) c.requires.room

pub link_promised-requires-clause-names : goal.link_promised-requires-clause-names
link_promised-requires-clause-names c =
    let f = c.args.directory.filesystem.count in
    let standing =
    standing_of c.args.self.now f c.get_mut.result c.unwrap-tree.result c.get_mut.ensures.value c.get_mut.ensures.apart
    c.unwrap-tree.ensures in
    let parent = slot_there f (number_of c.args.directory) c.slot_of.result c.unwrap-parent.result
    c.slot_of.ensures.number c.unwrap-parent.ensures in
    let linked = slot_there c.args.object.filesystem.count (number_of c.args.object) c.slot_of-2.result
    c.unwrap-linked.result c.slot_of-2.ensures.number c.unwrap-linked.ensures in
    let object = ap (λ id. exchanged id.count c.unwrap-linked.result) (sym c.requires.one_filesystem) ∙ linked in
    lists_there c.args.self.now f c.unwrap-tree.result.now standing.found c.unwrap-linked.result _ object
    c.args.links.items c.requires.names

pub returns-clause-linked : goal.returns-clause-linked
returns-clause-linked c =
    let f = c.args.directory.filesystem.count in
    let standing =
    standing_of c.args.self.now f c.get_mut.result c.unwrap-tree.result c.get_mut.ensures.value c.get_mut.ensures.apart
    c.unwrap-tree.ensures in
    let parent = slot_there f (number_of c.args.directory) c.slot_of.result c.unwrap-parent.result
    c.slot_of.ensures.number c.unwrap-parent.ensures in
    let linked = slot_there c.args.object.filesystem.count (number_of c.args.object) c.slot_of-2.result
    c.unwrap-linked.result c.slot_of-2.ensures.number c.unwrap-linked.ensures in
    let object = ap (λ id. exchanged id.count c.unwrap-linked.result) (sym c.requires.one_filesystem) ∙ linked in
    changes c.args.self.now f c.link_promised.new.self c.unwrap-tree.result.now standing
    (AddName c.unwrap-parent.result c.args.name.items c.unwrap-linked.result) _
    (λ i. AddName (parent i) c.args.name.items (object i)) c.link_promised.ensures.linked

pub returns-clause-promised : goal.returns-clause-promised
returns-clause-promised c =
    let f = c.args.directory.filesystem.count in
    let new = c.link_promised.new.self in
    let standing =
    standing_of c.args.self.now f c.get_mut.result c.unwrap-tree.result c.get_mut.ensures.value c.get_mut.ensures.apart
    c.unwrap-tree.ensures in
    at_look (with_tree f new c.args.self.now) f new
    (found_with c.args.self.now f new c.unwrap-tree.result.now standing.found) (λ count tree. tree.promised)
    ∙ c.link_promised.ensures.promised
    ∙ sym (at_look c.args.self.now f c.unwrap-tree.result.now standing.found (λ count tree. tree.promised))
