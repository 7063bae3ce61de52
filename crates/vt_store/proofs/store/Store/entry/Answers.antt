use Rattle.std.proofs.Common.{ap, ◌∙◌}
use Rattle.vt_spec.proofs.Common.{entries_in, entry_named}
use Rattle.vt_location.specs.Locations.{number_of}
use Rattle.vt_store.specs.OverlaysValue.{layered_of}
use Rattle.vt_store.specs.StoreValue.{StoreValue, lent_in}
use Rattle.vt_store.proofs.Lending.{lent_with}
use Rattle.vt_store.proofs.Looked.{plain_lent, plain_node}
use Rattle.vt_store.proofs.store.Store.entry.Goals as goal

pub plain_entry-requires : goal.plain_entry-requires
plain_entry-requires c =
    let f = c.args.directory.filesystem.count in
    plain_lent c.args.self.now c.self.inside.plain (ap (λ (store : StoreValue). store.plain) c.self.view_is) f
    (ap (λ overlays. layered_of overlays f) (c.has_overlays.ensures.0 c.if-has_overlays.false))
    (number_of c.args.directory) ∙ c.requires.object

pub returns-else-has_overlays-clause-node : goal.returns-else-has_overlays-clause-node
returns-else-has_overlays-clause-node c =
    let f = c.args.directory.filesystem.count in
    c.plain_entry.ensures.node ∙ ap (λ node. entry_named c.args.name.now (entries_in node))
    (plain_node c.args.self.now c.self.inside.plain (ap (λ (store : StoreValue). store.plain) c.self.view_is) f
    (ap (λ overlays. layered_of overlays f) (c.has_overlays.ensures.0 c.if-has_overlays.false))
    (number_of c.args.directory))

pub returns-else-has_overlays-clause-object : goal.returns-else-has_overlays-clause-object
returns-else-has_overlays-clause-object c =
    let f = c.args.directory.filesystem.count in
    lent_with c.plain_entry.result _ (lent_in c.args.self.now f)
    (plain_lent c.args.self.now c.self.inside.plain (ap (λ (store : StoreValue). store.plain) c.self.view_is) f
    (ap (λ overlays. layered_of overlays f) (c.has_overlays.ensures.0 c.if-has_overlays.false)))
    c.plain_entry.ensures.object
