use Rattle.std.proofs.Common.{ap, nat_eq, subst, sym, ◌+◌, ◌<◌, ◌∙◌}
use Rattle.vt_spec.specs.Laws.Trees.{IsNewIn}
use Rattle.vt_location.specs.Locations.{number_of}
use Rattle.vt_location.specs.Numbers.{exchanged}
use Rattle.vt_fs.specs.FilesystemsValue.{node_seen, seen_in, with_tree}
use Rattle.vt_fs.specs.Trees.TreeValue.{inodes_of, with_unnamed}
use Rattle.vt_fs.proofs.Renamed.{by_numbers, unnamed_by_numbers}
use Rattle.vt_fs.proofs.Standing.{at_look, changes_seen, found_with, promised_exists, standing_of}
use Rattle.vt_fs.proofs.filesystems.Filesystems.create_unnamed.Goals as goal

pub unwrap-tree-requires : goal.unwrap-tree-requires
unwrap-tree-requires c =
    promised_exists c.args.self.now c.args.filesystem.count c.get_mut.result c.get_mut.ensures.value c.requires.promised

pub create_unnamed-slot-requires-clause-node : goal.create_unnamed-slot-requires-clause-node
create_unnamed-slot-requires-clause-node c =
    let f = c.args.filesystem.count in
    let standing =
    standing_of c.args.self.now f c.get_mut.result c.unwrap-tree.result c.get_mut.ensures.value c.get_mut.ensures.apart
    c.unwrap-tree.ensures in
    subst (λ next. IsNewIn next c.args.node)
    (at_look c.args.self.now f c.unwrap-tree.result.now standing.found (λ count tree. tree.next)) c.requires.node

pub create_unnamed-slot-requires-clause-promised : goal.create_unnamed-slot-requires-clause-promised
create_unnamed-slot-requires-clause-promised c =
    let f = c.args.filesystem.count in
    let standing =
    standing_of c.args.self.now f c.get_mut.result c.unwrap-tree.result c.get_mut.ensures.value c.get_mut.ensures.apart
    c.unwrap-tree.ensures in
    subst (λ promised. 0 < promised)
    (at_look c.args.self.now f c.unwrap-tree.result.now standing.found (λ count tree. tree.promised))
    c.requires.promised

pub returns-clause-made : goal.returns-clause-made
returns-clause-made c =
    let f = c.args.filesystem.count in
    let tree = c.unwrap-tree.result.now in
    let standing =
    standing_of c.args.self.now f c.get_mut.result c.unwrap-tree.result c.get_mut.ensures.value c.get_mut.ensures.apart
    c.unwrap-tree.ensures in
    changes_seen f (λ inodes. with_unnamed nat_eq inodes (number_of c.in_slot.result) (node_seen f c.args.node))
    c.args.self.now c.create_unnamed-slot.new.self tree standing (ap (by_numbers f) c.create_unnamed-slot.ensures.made
    ∙ sym (unnamed_by_numbers f (inodes_of tree) c.create_unnamed-slot.result c.args.node)
    ∙ ap (λ number. with_unnamed nat_eq (seen_in f tree) number (node_seen f c.args.node))
    (sym c.in_slot.ensures.number))

pub returns-clause-promised : goal.returns-clause-promised
returns-clause-promised c =
    let f = c.args.filesystem.count in
    let new = c.create_unnamed-slot.new.self in
    let standing =
    standing_of c.args.self.now f c.get_mut.result c.unwrap-tree.result c.get_mut.ensures.value c.get_mut.ensures.apart
    c.unwrap-tree.ensures in
    ap (λ n. n + 1) (at_look (with_tree f new c.args.self.now) f new
    (found_with c.args.self.now f new c.unwrap-tree.result.now standing.found) (λ count tree. tree.promised))
    ∙ c.create_unnamed-slot.ensures.promised
    ∙ sym (at_look c.args.self.now f c.unwrap-tree.result.now standing.found (λ count tree. tree.promised))

pub returns-clause-number : goal.returns-clause-number
returns-clause-number c =
    let f = c.args.filesystem.count in
    let standing =
    standing_of c.args.self.now f c.get_mut.result c.unwrap-tree.result c.get_mut.ensures.value c.get_mut.ensures.apart
    c.unwrap-tree.ensures in
    c.in_slot.ensures.number ∙ ap (exchanged f) c.create_unnamed-slot.ensures.number
    ∙ sym (at_look c.args.self.now f c.unwrap-tree.result.now standing.found (λ count tree. exchanged count tree.next))
