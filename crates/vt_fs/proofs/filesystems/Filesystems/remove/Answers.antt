use Rattle.std.proofs.Common.{ap, ◌∙◌}
use Rattle.vt_fs.specs.FilesystemsValue.{without}
use Rattle.vt_fs.proofs.Entries.{removed}
use Rattle.vt_fs.proofs.filesystems.Filesystems.remove.Goals as goal

pub returns : goal.returns
returns c = removed c.args.filesystem.count c.self.inside.by_number.entries _ c.swap_remove.ensures.updates.0
    ∙ ap (without c.args.filesystem.count) c.self.view_is
