use Rattle.std.proofs.Common.{nat_eq, subst}
use Rattle.vt_spec.specs.Inodes.{changed}
use Rattle.vt_spec.specs.Lists.{folded}
use Rattle.vt_copyup.proofs.Changed.{changes_then}
use Rattle.vt_fs.specs.FilesystemsValue.{ChangesInodes, files_at}
use Rattle.vt_laws_upper_layers.specs.Rows.{marking}
use Rattle.vt_location.specs.declared.numbers.FilesystemId.{FilesystemId}
use Rattle.vt_location.specs.Locations.{inode_of}
use Rattle.vt_upper.specs.Leaving.{within_of}
use Rattle.vt_upper.specs.New.{leaves_in, made_in_place, start_of}
use Rattle.vt_upper.proofs.making.NewPlan.apply.Goals as goal

pub returns-clause-made : goal.returns-clause-made
returns-clause-made c =
    let was = c.make-made.ensures in
    let place = c.args.self.place in
    let f = (start_of place).filesystem.count in
    let within = within_of (files_at was.between f).tree (leaves_in place) in
    let marks = marking c.args.self.opaque (inode_of c.make-made.result) in
    let marked = subst (λ (id : FilesystemId). ChangesInodes id.count (λ inodes. folded (changed nat_eq) inodes marks)
    c.make-made.new.trees c.mark.new.trees) was.filesystem c.mark.ensures in
    record {
      between = was.between;
      directory = was.directory;
      made = was.made;
      making = changes_then f (made_in_place place c.args.self.object.name.items c.args.self.object.node within
          (inode_of was.directory) (inode_of c.make-made.result))
          (λ inodes. folded (changed nat_eq) inodes marks) was.between c.make-made.new.trees c.mark.new.trees
          was.making marked;
      there = was.there;
      filesystem = was.filesystem;
      vacant = was.vacant;
    }
