use Rattle.std.proofs.Common.{ap, option_copied, sym, ◌∙◌, option_map}
use Rattle.vt_location.specs.Locations.{number_of}
use Rattle.vt_fs.specs.FilesystemsValue.{node_seen}
use Rattle.vt_fs.proofs.Nowhere.{no_node_there}
use Rattle.vt_fs.proofs.Standing.{node_there}
use Rattle.vt_fs.proofs.filesystems.Filesystems.node.Goals as goal

pub returns : goal.returns
returns c =
    let f = c.args.inode.filesystem.count in
    ap (option_map (node_seen f)) c.node.ensures ∙ sym (node_there c.args.self.now f c.in_ok-tree.tree.now
    (sym c.in_ok-tree.ensures) c.in_ok-slot.slot _ c.in_ok-slot.ensures.number)

pub returns-in_err-slot : goal.returns-in_err-slot
returns-in_err-slot c =
    let f = c.args.inode.filesystem.count in
    ap (λ found. option_map (node_seen f) (option_copied found)) c.from_residual-in_err-slot.ensures
    ∙ sym (no_node_there c.args.self.now f c.in_ok-tree.tree.now (sym c.in_ok-tree.ensures) (number_of c.args.inode)
    (c.slot_in.ensures.nowhere c.in_err-slot.was))
