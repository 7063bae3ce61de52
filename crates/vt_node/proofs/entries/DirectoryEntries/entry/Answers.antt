use Rattle.std.proofs.Common.{ap, sym, ◌∙◌}
use Rattle.vt_spec.proofs.Common.{entry_named}
use Rattle.vt_node.proofs.ListedLemmas.{find-listed}
use Rattle.vt_node.proofs.entries.DirectoryEntries.entry.Goals as goal

pub returns : goal.returns
returns c = c.copied.ensures ∙ c.get.ensures.value
    ∙ sym (find-listed c.args.name.now c.self.inside.by_name.entries) ∙ ap (entry_named c.args.name.now) c.self.view_is
