use Rattle.std.proofs.Common.{nat_eq, subst, sym}
use Rattle.vt_spec.specs.Inodes.{changed}
use Rattle.vt_spec.specs.Lists.{folded}
use Rattle.vt_fs.specs.FilesystemsValue.{ChangesInodes, files_at}
use Rattle.vt_location.specs.declared.numbers.FilesystemId.{FilesystemId}
use Rattle.vt_location.specs.Locations.{inode_of}
use Rattle.vt_upper.specs.Changes.{IsFit, row_of}
use Rattle.vt_upper.proofs.LastMade.{fit_last}
use Rattle.vt_upper.proofs.changing.ChangePlan.apply.Goals as goal

pub make-requires : goal.make-requires
make-requires c = subst (λ (id : FilesystemId). IsFit c.args.self.change
    ((files_at c.apply-object.new.trees id.count).tree.node (inode_of c.apply-object.result)))
    (sym c.apply-object.ensures.filesystem)
    (fit_last c.args.self.change c.args.self.copies c.args.trees.now c.args.overlay.now.nodes.births c.args.room.now
    c.requires.ready c.requires.fit c.apply-object.new.trees c.apply-object.new.births c.apply-object.result
    c.apply-object.ensures.made)

pub returns-clause-changed : goal.returns-clause-changed
returns-clause-changed c = record {
  between = c.apply-object.new.trees;
  made = c.apply-object.ensures.made;
  row = subst (λ (id : FilesystemId). ChangesInodes id.count (λ inodes. folded (changed nat_eq) inodes
      (row_of c.args.self.change (inode_of c.apply-object.result))) c.apply-object.new.trees c.make.new.trees)
      c.apply-object.ensures.filesystem c.make.ensures;
}
