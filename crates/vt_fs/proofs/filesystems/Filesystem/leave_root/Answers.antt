use Rattle.std.proofs.Common.{ap, sym, ◌∙◌}
use Rattle.vt_location.specs.Locations.{number_of}
use Rattle.vt_fs.specs.FilesystemsValue.{seen_in}
use Rattle.vt_fs.specs.declared.filesystems.Filesystem.{Filesystem}
use Rattle.vt_fs.proofs.RootLemmas.{no_unpin_seen, unpin_seen}
use Rattle.vt_fs.proofs.filesystems.Filesystem.leave_root.Goals as goal
use Rattle.vt_fs.proofs.filesystems.Filesystem.leave_root.Goals.{in-Some, in_default}

pub returns-clause-tree : goal.returns-clause-tree
returns-clause-tree c =
    let f = c.args.root.filesystem.count in
    let tree = c.args.self.now.tree in
    elim c.match-slot_in.branch [
      | in-Some w ↦ ap (λ (self : Filesystem). seen_in f self.tree) w.self-is
          ∙ unpin_seen f tree w.in-Some.slot (number_of c.args.root) w.in-Some.ensures.number w.unpin.new.self
          w.unpin.ensures
      | in_default w ↦ ap (λ (self : Filesystem). seen_in f self.tree) w.self-is
          ∙ sym (no_unpin_seen f tree (number_of c.args.root) (c.slot_in.ensures.nowhere w.in_default.is))
    ]
