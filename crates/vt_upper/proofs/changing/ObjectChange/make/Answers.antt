use Rattle.vt_copyup.proofs.Changed.{nothing_changes}
use Rattle.vt_upper.proofs.changing.ObjectChange.make.Goals as goal

pub returns-in-Copied : goal.returns-in-Copied
returns-in-Copied c = Rattle.std.proofs.Common.subst (λ change. Rattle.vt_fs.specs.FilesystemsValue.ChangesInodes
    c.args.object.filesystem.count (λ inodes. Rattle.vt_spec.specs.Lists.folded
    (Rattle.vt_spec.specs.Inodes.changed Rattle.std.proofs.Common.nat_eq) inodes
    (Rattle.vt_upper.specs.Changes.row_of change (Rattle.vt_location.specs.Locations.inode_of c.args.object)))
    c.args.trees.now c.args.trees.now) (Rattle.std.proofs.Common.sym c.in-Copied.is)
    (nothing_changes c.args.object.filesystem.count c.args.trees.now)
