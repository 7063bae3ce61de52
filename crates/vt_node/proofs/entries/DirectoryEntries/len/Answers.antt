use Rattle.std.proofs.Common.{ap, length, sym, ◌∙◌}
use Rattle.vt_node.proofs.Moved.{length-listed}
use Rattle.vt_node.proofs.entries.DirectoryEntries.len.Goals as goal

pub returns : goal.returns
returns c =
    c.len.ensures.len ∙ sym (length-listed c.self.inside.by_name.entries c.len.ensures.unique) ∙ ap length c.self.view_is
