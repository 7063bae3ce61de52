use Rattle.std.proofs.Common.{ap, sym, ◌∙◌}
use Rattle.vt_spec.proofs.Common.{uses_in}
use Rattle.vt_location.specs.Locations.{number_of}
use Rattle.vt_fs.proofs.Nowhere.{no_inode_there}
use Rattle.vt_fs.proofs.Standing.{uses_there}
use Rattle.vt_fs.proofs.filesystems.Filesystems.uses.Goals as goal

pub returns-in-Some-slot_in : goal.returns-in-Some-slot_in
returns-in-Some-slot_in c = c.uses.ensures
    ∙ sym (uses_there c.args.self.now c.args.inode.filesystem.count c.in-Some.tree.now
    (sym c.in-Some.ensures) c.in-Some-slot_in.slot _ c.in-Some-slot_in.ensures.number)

pub returns-in-None : goal.returns-in-None
returns-in-None c = sym (ap uses_in (no_inode_there c.args.self.now c.args.inode.filesystem.count c.in-Some.tree.now
    (sym c.in-Some.ensures) (number_of c.args.inode) (c.slot_in.ensures.nowhere c.in-None.is)))
