use Rattle.vt_fs.specs.FilesystemsValue.{shown}
use Rattle.vt_store.specs.LayersHeld.{with_layer}
use Rattle.vt_store.proofs.LayersCounted.{folded-take, room_at}
use Rattle.vt_store.proofs.layers.hold_layers.Goals as goal

pub hold_layer-requires : goal.hold_layer-requires
hold_layer-requires c =
    room_at c.args.layers.now (shown c.args.plain.now) (shown c.loop-layer.plain) c.loop-layer.layer-index _
    c.loop-layer-test.true c.requires c.loop-layer.invariant

pub loop-layer-preserved : goal.loop-layer-preserved
loop-layer-preserved c =
    folded-take with_layer (shown c.args.plain.now) (shown c.loop-layer.plain) (shown c.hold_layer.new.plain)
    c.args.layers.now c.loop-layer.layer-index _ c.loop-layer-test.true c.hold_layer.ensures c.loop-layer.invariant
