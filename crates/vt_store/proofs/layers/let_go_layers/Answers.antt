use Rattle.vt_fs.specs.FilesystemsValue.{shown}
use Rattle.vt_store.specs.LayersHeld.{without_layer}
use Rattle.vt_store.proofs.LayersCounted.{folded-take}
use Rattle.vt_store.proofs.layers.let_go_layers.Goals as goal

pub loop-layer-preserved : goal.loop-layer-preserved
loop-layer-preserved c =
    folded-take without_layer (shown c.args.plain.now) (shown c.loop-layer.plain) (shown c.let_go_layer.new.plain)
    c.args.layers.now c.loop-layer.layer-index _ c.loop-layer-test.true c.let_go_layer.ensures c.loop-layer.invariant
