use Rattle.std.proofs.Common.{ap}
use Rattle.vt_location.specs.declared.locations.NodeRef.{NodeRef}
use Rattle.vt_store.proofs.LayersCounted.{IsAt, layer_more, may_mount, may_pin, unlimited}
use Rattle.vt_store.proofs.layers.hold_layer.Goals as goal

pub returns : goal.returns
returns c =
    let is : IsAt c.args.layer c.node_ref.result = record {
      filesystem = ap (λ (node : NodeRef). node.filesystem) c.node_ref.ensures.value;
      number = c.node_ref.ensures.number;
    } in
    let pinned = unlimited c.pin.result c.pin.ensures.ok c.pin.ensures.limit
    (may_pin c.args.layer c.node_ref.result is c.args.plain.now c.pin.new.self c.requires) in
    layer_more c.args.layer c.node_ref.result is c.args.plain.now c.pin.new.self c.hold_mount.new.self pinned
    (unlimited c.hold_mount.result c.hold_mount.ensures.ok c.hold_mount.ensures.limit
    (may_mount c.args.layer c.node_ref.result is c.args.plain.now c.pin.new.self c.requires pinned))
