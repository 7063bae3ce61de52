use Rattle.std.proofs.Common.{ap, length, subst, sym, ◌<◌, ◌∙◌}
use Rattle.vt_spec.proofs.Common.{is_sorted, name_cmp, passes, with_entry}
use Rattle.vt_node.proofs.ListedLemmas.{is_sorted-listed, listed-insert}
use Rattle.vt_node.proofs.Moved.{where_ok}
use Rattle.vt_node.proofs.entries.DirectoryEntries.place.Goals as goal

pub make_place-requires : goal.make_place-requires
make_place-requires c = subst (λ entries. length entries < c.args.room.now) (sym c.self.view_is) c.requires

-- where there is a place it goes in
pub returns-clause-entry : goal.returns-clause-entry
returns-clause-entry c =
    let updates = where_ok c.insert.result (c.insert.ensures.succeeds c.make_place.ensures.place)
    c.insert.ensures.updates in
    listed-insert c.make_place.new.by_name.entries c.insert.new.self.entries c.args.name.items c.args.id updates.1
    updates.3 ∙ ap (with_entry c.args.name.items c.args.id) (c.make_place.ensures.listed ∙ c.self.view_is)

pub returns-clause-in_order : goal.returns-clause-in_order
returns-clause-in_order c =
    ap (is_sorted name_cmp) (sym c.self.view_is) ∙ passes _ (is_sorted-listed c.self.inside.by_name.entries)
