use Rattle.std.proofs.Common.{◌≡◌, ap, arith, refl, sym, ◌∙◌, nat_eq}
use Rattle.vt_spec.proofs.Common.{one_directory}
use Rattle.vt_location.specs.Numbers.{inode_number}
use Rattle.vt_fs.specs.FilesystemsValue.{FilesystemEntry, inodes_seen}
use Rattle.vt_fs.proofs.Entries.{added}
use Rattle.vt_fs.proofs.NewFilesystem.{new_seen}
use Rattle.vt_location.proofs.NumberLemmas.{exchanged_slot}
use Rattle.vt_fs.proofs.Renamed.{by_numbers, one_by_numbers}
use Rattle.vt_fs.proofs.filesystems.Filesystems.add.Goals as goal

pub returns-clause-ok : goal.returns-clause-ok
returns-clause-ok c =
    let f = c.args.filesystem.count in
    let entry : FilesystemEntry = record { count = f; tree = c.in_ok-tree.tree; mounts = 0 } in
    let inodes : inodes_seen entry ≡ one_directory nat_eq (inode_number f 0) c.args.attr =
    ap (by_numbers f) c.in_ok-tree.ensures.ok ∙ sym (one_by_numbers f 0 c.args.attr)
    ∙ ap (λ root. one_directory nat_eq root c.args.attr) (exchanged_slot f 0 (omega arith)) in (
      entry,
      added c.self.inside.by_number.entries _ c.args.self.now c.args.filesystem _ c.self.view_is c.requires
          c.in_ok-insert.ensures.updates.0,
      record { counts = refl; seen = new_seen entry f c.args.attr refl inodes; inodes = inodes; unmounted = refl },
    )
