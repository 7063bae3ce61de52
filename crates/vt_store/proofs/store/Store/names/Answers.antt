use Rattle.std.proofs.Common.{IfOk, ap, map, option_copied, subst, sym, ◌≡◌, ◌∙◌}
use Rattle.vt_spec.proofs.Common.{entries_in, names_in}
use Rattle.vt_location.specs.Locations.{number_of}
use Rattle.vt_store.specs.StoreValue.{StoreValue}
use Rattle.vt_store.proofs.Looked.{over_node, over_stands, plain_node}
use Rattle.vt_store.proofs.store.Store.names.Goals as goal

pub names-requires-clause-standing : goal.names-requires-clause-standing
names-requires-clause-standing c =
    over_stands c.args.self.now c.self.inside.plain (ap (λ (store : StoreValue). store.plain) c.self.view_is)
    c.args.directory.filesystem.count c.in-Some.overlay.now
    (sym c.overlay.ensures.value ∙ ap option_copied c.in-Some.is) c.requires

pub returns-in-Some-clause-ok : goal.returns-in-Some-clause-ok
returns-in-Some-clause-ok c =
    subst (λ node. IfOk c.names.result (λ names. map (λ name. name.items) names.items ≡ names_in node))
    (over_node c.args.self.now c.self.inside.plain (ap (λ (store : StoreValue). store.plain) c.self.view_is)
    c.args.directory.filesystem.count c.in-Some.overlay.now
    (sym c.overlay.ensures.value ∙ ap option_copied c.in-Some.is) (number_of c.args.directory)) c.names.ensures.ok

pub returns-in-Some-clause-empty : goal.returns-in-Some-clause-empty
returns-in-Some-clause-empty c = λ none. c.names.ensures.empty (ap entries_in
    (over_node c.args.self.now c.self.inside.plain (ap (λ (store : StoreValue). store.plain) c.self.view_is)
    c.args.directory.filesystem.count c.in-Some.overlay.now
    (sym c.overlay.ensures.value ∙ ap option_copied c.in-Some.is) (number_of c.args.directory)) ∙ none)

pub returns-in-None-clause-ok : goal.returns-in-None-clause-ok
returns-in-None-clause-ok c =
    subst (λ node. IfOk c.list.result (λ names. map (λ name. name.items) names.items ≡ names_in node))
    (plain_node c.args.self.now c.self.inside.plain (ap (λ (store : StoreValue). store.plain) c.self.view_is)
    c.args.directory.filesystem.count
    (sym c.overlay.ensures.value ∙ ap option_copied c.in-None.is) (number_of c.args.directory)) c.list.ensures.ok

pub returns-in-None-clause-empty : goal.returns-in-None-clause-empty
returns-in-None-clause-empty c = λ none. c.list.ensures.empty (ap entries_in
    (plain_node c.args.self.now c.self.inside.plain (ap (λ (store : StoreValue). store.plain) c.self.view_is)
    c.args.directory.filesystem.count
    (sym c.overlay.ensures.value ∙ ap option_copied c.in-None.is) (number_of c.args.directory)) ∙ none)
