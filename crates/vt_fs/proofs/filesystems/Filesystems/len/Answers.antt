use Rattle.std.proofs.Common.{◌∙◌}
use Rattle.vt_fs.proofs.Entries.{held_length}
use Rattle.vt_fs.proofs.filesystems.Filesystems.len.Goals as goal

pub returns : goal.returns
returns c = c.len.ensures.len
    ∙ held_length c.self.inside.by_number.entries c.args.self.now c.self.view_is c.len.ensures.unique
