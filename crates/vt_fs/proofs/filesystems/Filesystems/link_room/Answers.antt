use Rattle.std.proofs.Common.{ap, map, ℕ, ◌∙◌}
use Rattle.smallvec.specs.SmallVec.{SmallVec}
use Rattle.vt_spec.proofs.Common.{IfOk-weaker}
use Rattle.vt_location.specs.Locations.{number_of}
use Rattle.vt_location.specs.Numbers.{exchanged}
use Rattle.vt_fs.specs.FilesystemsValue.{files_at}
use Rattle.vt_fs.specs.Trees.Names.{ListsNames}
use Rattle.vt_fs.specs.Trees.TreeValue.{tree_of}
use Rattle.vt_fs.proofs.Nowhere.{inode_has_slot, slot_there}
use Rattle.vt_fs.proofs.Standing.{inode_exists, listed_there, tree_found}
use Rattle.vt_fs.proofs.filesystems.Filesystems.link_room.Goals as goal

pub unwrap-linked-requires : goal.unwrap-linked-requires
unwrap-linked-requires c =
    inode_has_slot c.args.self.now c.args.object.filesystem.count (number_of c.args.object) c.slot_of.result
    c.slot_of.ensures.nowhere c.requires.there

pub unwrap-tree-requires : goal.unwrap-tree-requires
unwrap-tree-requires c =
    inode_exists c.args.self.now c.args.object.filesystem.count (number_of c.args.object) c.requires.there c.get.result
    c.get.ensures

pub returns-clause-names : goal.returns-clause-names
returns-clause-names c =
    let f = c.args.object.filesystem.count in
    let found = tree_found c.args.self.now f c.get.result c.unwrap-tree.result c.get.ensures c.unwrap-tree.ensures in
    let linked = slot_there f (number_of c.args.object) c.slot_of.result c.unwrap-linked.result
    c.slot_of.ensures.number c.unwrap-linked.ensures in
    IfOk-weaker c.link_room.result
    (λ (room : SmallVec ℕ). ListsNames (tree_of c.unwrap-tree.result.now) c.unwrap-linked.result room.items)
    (λ (room : SmallVec ℕ). ListsNames (files_at c.args.self.now f).tree (number_of c.args.object)
    (map (exchanged f) room.items))
    (λ room lists. listed_there c.args.self.now f c.unwrap-tree.result.now found c.unwrap-linked.result _ linked room.items
    lists) c.link_room.ensures.names
