use Rattle.std.proofs.Common.{subst, sym, ◌∙◌}
use Rattle.vt_spec.proofs.Common.{keys_of}
use Rattle.vt_store.specs.Named.{NameEach, NameEntries}
use Rattle.vt_store.proofs.NamedEach.{name_each, name_entries}
use Rattle.vt_store.proofs.overlays.Overlays.ids.Goals as goal

pub returns-clause-overlays : goal.returns-clause-overlays
returns-clause-overlays c =
    let es = c.self.inside.by_number.entries in
    subst (λ ids. NameEach ids c.args.self.now) (sym (c.as_slice.ensures ∙ c.keys.ensures.rest))
    (subst (NameEach (keys_of es)) c.self.view_is (name_each es c.keys.ensures.unique))

pub returns-clause-entries : goal.returns-clause-entries
returns-clause-entries c =
    let es = c.self.inside.by_number.entries in
    subst (λ ids. NameEntries ids c.args.self.now) (sym (c.as_slice.ensures ∙ c.keys.ensures.rest))
    (subst (NameEntries (keys_of es)) c.self.view_is (name_entries es c.keys.ensures.unique))
