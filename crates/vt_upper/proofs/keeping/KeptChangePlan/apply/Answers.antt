use Rattle.std.proofs.Common.{nat_eq, subst, ◌∙◌}
use Rattle.vt_spec.specs.Inodes.{changed}
use Rattle.vt_spec.specs.Lists.{folded}
use Rattle.vt_fs.specs.FilesystemsValue.{ChangesInodes}
use Rattle.vt_location.specs.declared.numbers.FilesystemId.{FilesystemId}
use Rattle.vt_location.specs.Locations.{inode_of}
use Rattle.vt_upper.specs.Changes.{row_of}
use Rattle.vt_upper.proofs.KeptDone.{fits_made, made_in}
use Rattle.vt_upper.proofs.keeping.KeptChangePlan.apply.Goals as goal

pub make-requires : goal.make-requires
make-requires c =
    fits_made c.args.self.change c.args.self.object c.args.trees.now c.args.overlay.now.nodes.births
    c.make-made.new.trees c.make-made.new.births c.make-made.result c.requires.ready c.requires.fit c.make-made.ensures

pub returns-clause-changed : goal.returns-clause-changed
returns-clause-changed c = record {
  between = c.make-made.new.trees;
  made = c.make-made.ensures;
  row = subst (λ (id : FilesystemId). ChangesInodes id.count (λ inodes. folded (changed nat_eq) inodes
      (row_of c.args.self.change (inode_of c.make-made.result))) c.make-made.new.trees c.make.new.trees)
      (made_in c.args.self.upper c.args.self.object c.args.trees.now c.args.overlay.now.nodes.births
      c.make-made.new.trees c.make-made.new.births c.make-made.result c.make-made.ensures ∙ c.requires.upper)
      c.make.ensures;
}
