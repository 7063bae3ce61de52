use Rattle.std.proofs.Common.{ap, ◌∙◌}
use Rattle.vt_spec.proofs.Common.{without_entry}
use Rattle.vt_node.proofs.ListedLemmas.{listed-remove}
use Rattle.vt_node.proofs.entries.DirectoryEntries.remove.Goals as goal

pub returns : goal.returns
returns c =
    let updates = c.swap_remove.ensures.updates in
    listed-remove c.self.inside.by_name.entries c.swap_remove.new.self.entries c.args.name.now updates.1 updates.3
    ∙ ap (without_entry c.args.name.now) c.self.view_is
