use Rattle.std.proofs.Common.{is_some, ap, sym, ◌∙◌}
use Rattle.vt_spec.proofs.Common.{AddName, on_err_weaker, on_ok_weaker}
use Rattle.vt_location.specs.Locations.{number_of}
use Rattle.vt_location.specs.declared.numbers.FilesystemId.{FilesystemId}
use Rattle.vt_fs.specs.FilesystemsValue.{files_at}
use Rattle.vt_location.specs.Numbers.{exchanged}
use Rattle.vt_fs.proofs.Nowhere.{directory_has_slot, inode_has_slot, slot_there}
use Rattle.vt_fs.proofs.Standing.{changes, directory_exists, directory_there, free_there, kept, standing_of}
use Rattle.vt_fs.proofs.filesystems.Filesystems.link.Goals as goal

pub unwrap-parent-requires : goal.unwrap-parent-requires
unwrap-parent-requires c =
    directory_has_slot c.args.self.now c.args.directory.filesystem.count (number_of c.args.directory) c.slot_of.result
    c.slot_of.ensures.nowhere c.requires.directory

pub unwrap-linked-requires : goal.unwrap-linked-requires
unwrap-linked-requires c =
    inode_has_slot c.args.self.now c.args.object.filesystem.count (number_of c.args.object) c.slot_of-2.result
    c.slot_of-2.ensures.nowhere
    (ap (λ (id : FilesystemId). is_some ((files_at c.args.self.now id.count).tree.node (number_of c.args.object)))
    c.requires.one_filesystem ∙ c.requires.there)

pub unwrap-tree-requires : goal.unwrap-tree-requires
unwrap-tree-requires c =
    directory_exists c.args.self.now c.args.directory.filesystem.count c.get_mut.result c.get_mut.ensures.value
    (number_of c.args.directory) c.requires.directory

pub link-requires-clause-directory : goal.link-requires-clause-directory
link-requires-clause-directory c =
    let f = c.args.directory.filesystem.count in
    let standing =
    standing_of c.args.self.now f c.get_mut.result c.unwrap-tree.result c.get_mut.ensures.value c.get_mut.ensures.apart
    c.unwrap-tree.ensures in
    let parent = slot_there f (number_of c.args.directory) c.slot_of.result c.unwrap-parent.result
    c.slot_of.ensures.number c.unwrap-parent.ensures in
    sym (directory_there c.args.self.now f c.unwrap-tree.result.now standing.found c.unwrap-parent.result _ parent)
    ∙ c.requires.directory

pub link-requires-clause-free : goal.link-requires-clause-free
link-requires-clause-free c =
    let f = c.args.directory.filesystem.count in
    let standing =
    standing_of c.args.self.now f c.get_mut.result c.unwrap-tree.result c.get_mut.ensures.value c.get_mut.ensures.apart
    c.unwrap-tree.ensures in
    let parent = slot_there f (number_of c.args.directory) c.slot_of.result c.unwrap-parent.result
    c.slot_of.ensures.number c.unwrap-parent.ensures in
    free_there c.args.self.now f c.unwrap-tree.result.now standing.found c.unwrap-parent.result _ c.args.name.items
    parent c.requires.free

pub link-requires-clause-object : goal.link-requires-clause-object
link-requires-clause-object c =
    let f = c.args.directory.filesystem.count in
    let standing =
    standing_of c.args.self.now f c.get_mut.result c.unwrap-tree.result c.get_mut.ensures.value c.get_mut.ensures.apart
    c.unwrap-tree.ensures in
    let parent = slot_there f (number_of c.args.directory) c.slot_of.result c.unwrap-parent.result
    c.slot_of.ensures.number c.unwrap-parent.ensures in
    let linked = slot_there c.args.object.filesystem.count (number_of c.args.object) c.slot_of-2.result
    c.unwrap-linked.result c.slot_of-2.ensures.number c.unwrap-linked.ensures in
    let object = ap (λ id. exchanged id.count c.unwrap-linked.result) (sym c.requires.one_filesystem) ∙ linked in
    sym (directory_there c.args.self.now f c.unwrap-tree.result.now standing.found c.unwrap-linked.result _ object)
    ∙ c.requires.object

pub returns-clause-ok : goal.returns-clause-ok
returns-clause-ok c =
    let f = c.args.directory.filesystem.count in
    let standing =
    standing_of c.args.self.now f c.get_mut.result c.unwrap-tree.result c.get_mut.ensures.value c.get_mut.ensures.apart
    c.unwrap-tree.ensures in
    let parent = slot_there f (number_of c.args.directory) c.slot_of.result c.unwrap-parent.result
    c.slot_of.ensures.number c.unwrap-parent.ensures in
    let linked = slot_there c.args.object.filesystem.count (number_of c.args.object) c.slot_of-2.result
    c.unwrap-linked.result c.slot_of-2.ensures.number c.unwrap-linked.ensures in
    let object = ap (λ id. exchanged id.count c.unwrap-linked.result) (sym c.requires.one_filesystem) ∙ linked in
    on_ok_weaker c.link.result (changes c.args.self.now f c.link.new.self c.unwrap-tree.result.now standing
    (AddName c.unwrap-parent.result c.args.name.items c.unwrap-linked.result) _
    (λ i. AddName (parent i) c.args.name.items (object i))) c.link.ensures.ok

pub returns-clause-err : goal.returns-clause-err
returns-clause-err c =
    let f = c.args.directory.filesystem.count in
    let standing =
    standing_of c.args.self.now f c.get_mut.result c.unwrap-tree.result c.get_mut.ensures.value c.get_mut.ensures.apart
    c.unwrap-tree.ensures in
    let parent = slot_there f (number_of c.args.directory) c.slot_of.result c.unwrap-parent.result
    c.slot_of.ensures.number c.unwrap-parent.ensures in
    on_err_weaker c.link.result (kept c.args.self.now f c.link.new.self c.unwrap-tree.result.now standing)
    c.link.ensures.err
