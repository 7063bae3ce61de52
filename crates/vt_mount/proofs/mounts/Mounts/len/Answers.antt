use Rattle.std.proofs.Common.{sym, ap, length, ◌∙◌}
use Rattle.vt_mount.proofs.EntryLemmas.{length-kept}
use Rattle.vt_mount.proofs.mounts.Mounts.len.Goals as goal

pub returns : goal.returns
returns c = c.len.ensures.len ∙ sym (length-kept c.self.inside.by_number.entries c.len.ensures.unique)
    ∙ ap length c.self.view_is
