use Rattle.std.proofs.Common.{length, sym, ap, ◌∙◌}
use Rattle.vt_spec.proofs.Common.{nil_from_length}
use Rattle.vt_node.specs.Listed.{listed}
use Rattle.vt_node.proofs.ListedLemmas.{none-listed}
use Rattle.vt_node.proofs.entries.DirectoryEntries.is_empty.Goals as goal

pub returns : goal.returns
returns c =
    let entries = c.self.inside.by_name.entries in (
      λ yes. sym c.self.view_is ∙ ap listed (nil_from_length entries (c.is_empty.ensures.0 yes)),
      λ none. c.is_empty.ensures.1 (ap length (none-listed entries (c.self.view_is ∙ none))),
    )
