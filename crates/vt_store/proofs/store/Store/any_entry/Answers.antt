use Rattle.std.proofs.Common.{ap, is_some, option_copied, sym, ◌∙◌, arith}
use Rattle.vt_spec.proofs.Common.{entries_in, entry_named, common_steps}
use Rattle.vt_location.specs.Locations.{number_of}
use Rattle.vt_store.specs.StoreValue.{StoreValue, lent_in}
use Rattle.vt_store.proofs.Lending.{lent_with}
use Rattle.vt_store.proofs.Looked.{over_lent, over_node, over_stands, plain_node}
use Rattle.vt_store.proofs.store.Store.any_entry.Goals as goal

pub entry-requires-clause-standing : goal.entry-requires-clause-standing
entry-requires-clause-standing c =
    over_stands c.args.self.now c.self.inside.plain (ap (λ (store : StoreValue). store.plain) c.self.view_is)
    c.args.directory.filesystem.count c.in-Some.overlay.now
    (sym c.overlay.ensures.value ∙ ap option_copied c.in-Some.is) c.requires.standing

pub entry-requires-clause-there : goal.entry-requires-clause-there
entry-requires-clause-there c = ap is_some
    (over_lent c.args.self.now c.self.inside.plain (ap (λ (store : StoreValue). store.plain) c.self.view_is)
    c.args.directory.filesystem.count c.in-Some.overlay.now
    (sym c.overlay.ensures.value ∙ ap option_copied c.in-Some.is) (number_of c.args.directory) ∙ c.requires.object)

pub returns-in-Some-clause-node : goal.returns-in-Some-clause-node
returns-in-Some-clause-node c = c.entry.ensures.node ∙ ap (λ node. entry_named c.args.name.now (entries_in node))
    (over_node c.args.self.now c.self.inside.plain (ap (λ (store : StoreValue). store.plain) c.self.view_is)
    c.args.directory.filesystem.count c.in-Some.overlay.now
    (sym c.overlay.ensures.value ∙ ap option_copied c.in-Some.is) (number_of c.args.directory))

pub returns-in-Some-clause-object : goal.returns-in-Some-clause-object
returns-in-Some-clause-object c = lent_with c.entry.result _ (lent_in c.args.self.now c.args.directory.filesystem.count)
    (over_lent c.args.self.now c.self.inside.plain (ap (λ (store : StoreValue). store.plain) c.self.view_is)
    c.args.directory.filesystem.count c.in-Some.overlay.now
    (sym c.overlay.ensures.value ∙ ap option_copied c.in-Some.is)) c.entry.ensures.object

pub plain_entry-requires : goal.plain_entry-requires
plain_entry-requires c = grind (arith, common_steps)

pub returns-in-None-clause-node : goal.returns-in-None-clause-node
returns-in-None-clause-node c = c.plain_entry.ensures.node ∙ ap (λ node. entry_named c.args.name.now (entries_in node))
    (plain_node c.args.self.now c.self.inside.plain (ap (λ (store : StoreValue). store.plain) c.self.view_is)
    c.args.directory.filesystem.count (sym c.overlay.ensures.value ∙ ap option_copied c.in-None.is)
    (number_of c.args.directory))

pub returns-in-None-clause-object : goal.returns-in-None-clause-object
returns-in-None-clause-object c = grind (arith, common_steps)
