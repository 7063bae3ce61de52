use Rattle.std.proofs.Common.{ap, sym, ◌∙◌}
use Rattle.vt_location.specs.Locations.{number_of}
use Rattle.vt_fs.specs.FilesystemsValue.{seen_in}
use Rattle.vt_fs.specs.declared.filesystems.Filesystem.{Filesystem}
use Rattle.vt_fs.proofs.RootLemmas.{no_pin_seen, pin_seen}
use Rattle.vt_fs.proofs.filesystems.Filesystem.hold_root.Goals as goal
use Rattle.vt_fs.proofs.filesystems.Filesystem.hold_root.Goals.{in-Some+in_ok-pin, in_default}

pub returns-clause-tree : goal.returns-clause-tree
returns-clause-tree c =
    let f = c.args.root.filesystem.count in
    let tree = c.args.self.now.tree in
    elim c.match-slot_in.branch [
      | in-Some+in_ok-pin w ↦ ap (λ (self : Filesystem). seen_in f self.tree) w.self-is
          ∙ pin_seen f tree w.in-Some.slot (number_of c.args.root) w.in-Some.ensures.number w.pin.new.self
          w.in_ok-pin.ensures.ok
      | in_default w ↦ ap (λ (self : Filesystem). seen_in f self.tree) w.self-is
          ∙ sym (no_pin_seen f tree (number_of c.args.root) (c.slot_in.ensures.nowhere w.in_default.is))
    ]
