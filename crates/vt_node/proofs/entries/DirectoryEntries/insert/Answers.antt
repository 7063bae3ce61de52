use Rattle.std.proofs.Common.{ap, sym, ◌∙◌, is_some, true≢false}
use Rattle.vt_spec.proofs.Common.{entry_named, is_sorted, name_cmp, passes, with_entry}
use Rattle.vt_node.proofs.ListedLemmas.{find-listed, is_sorted-listed, listed-insert}
use Rattle.vt_node.proofs.entries.DirectoryEntries.insert.Goals as goal

-- two lists in order that answer alike are one
pub returns-clause-ok : goal.returns-clause-ok
returns-clause-ok c =
    let facts = c.in_ok-insert.ensures in
    listed-insert c.self.inside.by_name.entries c.insert.new.self.entries c.args.name.items c.args.id
    facts.updates.1 facts.updates.3 ∙ ap (with_entry c.args.name.items c.args.id) c.self.view_is

-- only a name that was not there can fail
pub returns-in_err-insert-clause-present : goal.returns-in_err-insert-clause-present
returns-in_err-insert-clause-present c = λ there.
    let lookup_here = find-listed c.args.name.items c.self.inside.by_name.entries in
    let here = ap (entry_named c.args.name.items) c.self.view_is in
    let absent = c.in_err-insert.ensures.absent in
    absurd (true≢false (sym there ∙ ap is_some (sym here ∙ lookup_here ∙ absent)))

pub returns-clause-in_order : goal.returns-clause-in_order
returns-clause-in_order c =
    ap (is_sorted name_cmp) (sym c.self.view_is) ∙ passes _ (is_sorted-listed c.self.inside.by_name.entries)

pub returns-in_err-insert-clause-in_order : goal.returns-in_err-insert-clause-in_order
returns-in_err-insert-clause-in_order c =
    ap (is_sorted name_cmp) (sym c.self.view_is) ∙ passes _ (is_sorted-listed c.self.inside.by_name.entries)
