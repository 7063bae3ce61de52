use Rattle.std.proofs.Common.{Some, ap, sym, ◌∙◌}
use Rattle.vt_spec.proofs.Common.{option_copied_mut}
use Rattle.indexmap.specs.IndexMap.{set_value_at}
use Rattle.vt_mount.specs.Rising.{inserted}
use Rattle.vt_mount.proofs.KeptLemmas.{on-err, on-ok}
use Rattle.vt_mount.proofs.ListedLemmas.{found-set_there, found-there, list_changed, list_kept}
use Rattle.vt_mount.proofs.lists.ListsBy.add_at.Goals as goal

pub returns-clause-ok : goal.returns-clause-ok
returns-clause-ok g c = on-ok c.add.result c.add.ensures.ok (λ added key there.
    let laws = g.met.K.Eq.laws in
    let es = c.args.self.now.lists.entries in
    list_changed laws es (set_value_at es c.args.place c.add.new.self) key c.in-Some.list.now
    (found-there laws key es c.args.place there ∙ sym c.get_index_mut.ensures.value ∙ ap option_copied_mut c.in-Some.is)
    (Some c.add.new.self) (found-set_there laws key es c.args.place c.add.new.self there) (inserted g.T.Ordered.before c.args.one) added)

pub returns-clause-err : goal.returns-clause-err
returns-clause-err g c = on-err c.add.result c.add.ensures.err (λ same key there.
    let laws = g.met.K.Eq.laws in
    let es = c.args.self.now.lists.entries in
    list_kept laws es (set_value_at es c.args.place c.add.new.self) key c.in-Some.list.now
    (found-there laws key es c.args.place there ∙ sym c.get_index_mut.ensures.value ∙ ap option_copied_mut c.in-Some.is)
    (Some c.add.new.self) (found-set_there laws key es c.args.place c.add.new.self there) same)
