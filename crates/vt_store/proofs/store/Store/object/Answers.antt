use Rattle.std.proofs.Common.{ap, option_copied, option_map, sym, ◌∙◌}
use Rattle.vt_location.specs.Locations.{number_of}
use Rattle.vt_fs.specs.FilesystemsValue.{node_seen}
use Rattle.vt_overlay.proofs.ObjectsAlike.{seen_twice}
use Rattle.vt_store.specs.OverlaysValue.{layered_of}
use Rattle.vt_store.specs.StoreValue.{StoreValue}
use Rattle.vt_store.proofs.Looked.{plain_lent}
use Rattle.vt_store.proofs.store.Store.object.Goals as goal

pub returns-then-has_overlays : goal.returns-then-has_overlays
returns-then-has_overlays c = cc (c.any_object.ensures, c.copied.ensures)

pub returns-else-has_overlays : goal.returns-else-has_overlays
returns-else-has_overlays c =
    let node = c.args.node in
    sym (seen_twice node.filesystem.count (option_copied c.node.result))
    ∙ ap (option_map (node_seen node.filesystem.count)) c.node.ensures
    ∙ plain_lent c.args.self.now c.self.inside.plain (ap (λ (store : StoreValue). store.plain) c.self.view_is)
    node.filesystem.count
    (ap (λ overlays. layered_of overlays node.filesystem.count) (c.has_overlays.ensures.0 c.if-has_overlays.false))
    (number_of node)
