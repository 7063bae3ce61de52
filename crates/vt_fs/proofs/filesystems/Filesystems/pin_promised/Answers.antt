use Rattle.std.proofs.Common.{subst, sym, ◌<◌, ◌∙◌}
use Rattle.vt_location.specs.Locations.{number_of}
use Rattle.vt_location.specs.Numbers.{most_counted}
use Rattle.vt_fs.specs.FilesystemsValue.{with_tree}
use Rattle.vt_fs.proofs.Nowhere.{inode_has_slot, slot_there}
use Rattle.vt_fs.proofs.Standing.{at_look, found_with, inode_lent, pins, standing_of, uses_there}
use Rattle.vt_fs.proofs.filesystems.Filesystems.pin_promised.Goals as goal

pub unwrap-held-requires : goal.unwrap-held-requires
unwrap-held-requires c =
    inode_has_slot c.args.self.now c.args.object.filesystem.count (number_of c.args.object) c.slot_of.result
    c.slot_of.ensures.nowhere c.requires.there

pub unwrap-tree-requires : goal.unwrap-tree-requires
unwrap-tree-requires c =
    inode_lent c.args.self.now c.args.object.filesystem.count (number_of c.args.object) c.requires.there c.get_mut.result
    c.get_mut.ensures.value

pub count_use-requires : goal.count_use-requires
count_use-requires c =
    let f = c.args.object.filesystem.count in
    let standing =
    standing_of c.args.self.now f c.get_mut.result c.unwrap-tree.result c.get_mut.ensures.value c.get_mut.ensures.apart
    c.unwrap-tree.ensures in
    let held = slot_there f (number_of c.args.object) c.slot_of.result c.unwrap-held.result c.slot_of.ensures.number
    c.unwrap-held.ensures in
    subst (λ uses. uses < most_counted)
    (uses_there c.args.self.now f c.unwrap-tree.result.now standing.found c.unwrap-held.result _ held) c.requires.uses

pub returns-clause-pinned : goal.returns-clause-pinned
returns-clause-pinned c =
    let f = c.args.object.filesystem.count in
    let standing =
    standing_of c.args.self.now f c.get_mut.result c.unwrap-tree.result c.get_mut.ensures.value c.get_mut.ensures.apart
    c.unwrap-tree.ensures in
    let held = slot_there f (number_of c.args.object) c.slot_of.result c.unwrap-held.result c.slot_of.ensures.number
    c.unwrap-held.ensures in
    pins c.args.self.now f c.count_use.new.self c.unwrap-tree.result.now standing c.unwrap-held.result _ held
    c.count_use.ensures.pinned

pub returns-clause-promised : goal.returns-clause-promised
returns-clause-promised c =
    let f = c.args.object.filesystem.count in
    let new = c.count_use.new.self in
    let standing =
    standing_of c.args.self.now f c.get_mut.result c.unwrap-tree.result c.get_mut.ensures.value c.get_mut.ensures.apart
    c.unwrap-tree.ensures in
    at_look (with_tree f new c.args.self.now) f new
    (found_with c.args.self.now f new c.unwrap-tree.result.now standing.found) (λ count tree. tree.promised)
    ∙ c.count_use.ensures.promised
    ∙ sym (at_look c.args.self.now f c.unwrap-tree.result.now standing.found (λ count tree. tree.promised))
