use Rattle.std.proofs.Common.{ap, option_copied, sym, ◌∙◌}
use Rattle.vt_location.specs.Locations.{number_of}
use Rattle.vt_fs.proofs.Nowhere.{no_inode_else, no_inode_there}
use Rattle.vt_fs.proofs.filesystems.Filesystems.slot_of.Goals as goal

pub returns-in_err-tree-clause-nowhere : goal.returns-in_err-tree-clause-nowhere
returns-in_err-tree-clause-nowhere c = λ none.
    no_inode_else c.args.self.now c.args.node.filesystem.count (number_of c.args.node)
    (sym c.get.ensures ∙ ap option_copied c.in_err-tree.was)

pub returns-clause-nowhere : goal.returns-clause-nowhere
returns-clause-nowhere c = λ none. no_inode_there c.args.self.now c.args.node.filesystem.count c.in_ok-tree.tree.now
    (sym c.in_ok-tree.ensures) (number_of c.args.node) (c.slot_in.ensures.nowhere none)
