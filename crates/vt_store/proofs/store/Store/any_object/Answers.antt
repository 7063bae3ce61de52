use Rattle.std.proofs.Common.{ap, option_copied, option_map, sym, ◌∙◌}
use Rattle.vt_location.specs.Locations.{number_of}
use Rattle.vt_fs.specs.FilesystemsValue.{node_seen}
use Rattle.vt_overlay.proofs.ObjectsAlike.{seen_twice}
use Rattle.vt_store.specs.StoreValue.{StoreValue}
use Rattle.vt_store.proofs.Looked.{over_lent, over_stands, plain_lent}
use Rattle.vt_store.proofs.store.Store.any_object.Goals as goal

pub object-requires-clause-standing : goal.object-requires-clause-standing
object-requires-clause-standing c =
    over_stands c.args.self.now c.self.inside.plain (ap (λ (store : StoreValue). store.plain) c.self.view_is)
    c.args.node.filesystem.count c.in-Some.overlay.now (sym c.overlay.ensures.value ∙ ap option_copied c.in-Some.is)
    c.requires

pub returns-in-Some : goal.returns-in-Some
returns-in-Some c = c.object.ensures
    ∙ over_lent c.args.self.now c.self.inside.plain (ap (λ (store : StoreValue). store.plain) c.self.view_is)
    c.args.node.filesystem.count c.in-Some.overlay.now
    (sym c.overlay.ensures.value ∙ ap option_copied c.in-Some.is) (number_of c.args.node)

pub returns-in-None : goal.returns-in-None
returns-in-None c =
    let node = c.args.node in
    sym (seen_twice node.filesystem.count (option_copied c.node.result))
    ∙ ap (option_map (node_seen node.filesystem.count)) c.node.ensures
    ∙ plain_lent c.args.self.now c.self.inside.plain (ap (λ (store : StoreValue). store.plain) c.self.view_is)
    c.args.node.filesystem.count (sym c.overlay.ensures.value ∙ ap option_copied c.in-None.is) (number_of node)
