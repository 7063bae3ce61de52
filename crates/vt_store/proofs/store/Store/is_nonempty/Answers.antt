use Rattle.std.proofs.Common.{ap, option_copied, sym, ◌∙◌, not}
use Rattle.vt_spec.proofs.Common.{entries_in, is_empty_list}
use Rattle.vt_location.specs.Locations.{number_of}
use Rattle.vt_store.specs.StoreValue.{StoreValue}
use Rattle.vt_store.proofs.Lending.{empty-seen}
use Rattle.vt_store.proofs.Looked.{over_node, over_stands, plain_node}
use Rattle.vt_store.proofs.store.Store.is_nonempty.Goals as goal

pub is_nonempty-requires-clause-standing : goal.is_nonempty-requires-clause-standing
is_nonempty-requires-clause-standing c =
    over_stands c.args.self.now c.self.inside.plain (ap (λ (store : StoreValue). store.plain) c.self.view_is)
    c.args.directory.filesystem.count c.in-Some.overlay.now
    (sym c.overlay.ensures.value ∙ ap option_copied c.in-Some.is) c.requires

pub returns-in-Some : goal.returns-in-Some
returns-in-Some c = c.is_nonempty.ensures ∙ ap (λ node. not (is_empty_list (entries_in node)))
    (over_node c.args.self.now c.self.inside.plain (ap (λ (store : StoreValue). store.plain) c.self.view_is)
    c.args.directory.filesystem.count c.in-Some.overlay.now
    (sym c.overlay.ensures.value ∙ ap option_copied c.in-Some.is) (number_of c.args.directory))

pub returns-in-None : goal.returns-in-None
returns-in-None c = c.has_entries.ensures
    ∙ ap not (sym (empty-seen c.args.directory.filesystem.count (option_copied c.node.result)))
    ∙ ap (λ node. not (is_empty_list (entries_in node))) (c.node.ensures
    ∙ plain_node c.args.self.now c.self.inside.plain (ap (λ (store : StoreValue). store.plain) c.self.view_is)
    c.args.directory.filesystem.count
    (sym c.overlay.ensures.value ∙ ap option_copied c.in-None.is) (number_of c.args.directory))
