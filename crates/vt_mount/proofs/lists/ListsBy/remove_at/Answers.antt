use Rattle.std.proofs.Common.{None, Some, ap, filter, not, sym, ◌∙◌}
use Rattle.vt_spec.proofs.Common.{option_copied_mut}
use Rattle.indexmap.specs.IndexMap.{set_value_at}
use Rattle.vt_mount.proofs.ListedLemmas.{found-dropped, found-set_there, found-there, list_changed, no_mounts, on-some}
use Rattle.vt_mount.proofs.lists.ListsBy.remove_at.Goals as goal

pub returns-else-is_empty : goal.returns-else-is_empty
returns-else-is_empty g c key there =
    let laws = g.met.K.Eq.laws in
    let es = c.args.self.now.lists.entries in
    list_changed laws es (set_value_at es c.args.place c.remove.new.self) key c.in-Some.list.now
    (found-there laws key es c.args.place there ∙ sym c.get_index_mut.ensures.value ∙ ap option_copied_mut c.in-Some.is)
    (Some c.remove.new.self) (found-set_there laws key es c.args.place c.remove.new.self there)
    (filter (λ other. not (g.T.PartialEq.eq other c.args.one))) c.remove.ensures.items

pub returns-then-is_empty : goal.returns-then-is_empty
returns-then-is_empty g c key there =
    let laws = g.met.K.Eq.laws in
    let es = c.args.self.now.lists.entries in
    list_changed laws es c.swap_remove_index.new.self.entries key c.in-Some.list.now
    (found-there laws key es c.args.place there ∙ sym c.get_index_mut.ensures.value ∙ ap option_copied_mut c.in-Some.is)
    None (found-dropped laws key es _ c.args.place c.remove.new.self there c.swap_remove_index.result
    c.swap_remove_index.ensures.entry
    (on-some c.swap_remove_index.result c.swap_remove_index.ensures.updates (λ one updates. updates.0)))
    (filter (λ other. not (g.T.PartialEq.eq other c.args.one)))
    (sym (no_mounts _ (sym c.is_empty.ensures ∙ c.if-is_empty.true)) ∙ c.remove.ensures.items)
