use Rattle.std.proofs.Common.{arith, drop, subst, ◌+◌, ◌++◌}
use Rattle.vt_spec.proofs.Common.{drop_all, drop_more}
use Rattle.vt_store.specs.LayersAt.{AreCounted}
use Rattle.vt_store.specs.LayerTests.{layer_at}
use Rattle.vt_store.proofs.layer_counts.LayerCounts.take.Goals as goal

pub loop-layer-preserved : goal.loop-layer-preserved
loop-layer-preserved c = λ left is.
    let layers = c.args.layers.now in
    let index = c.loop-layer.layer-index in
    c.take_one.ensures (drop (index + 1) layers ++ left) (subst (λ rest. AreCounted (rest ++ left) c.loop-layer.self)
    (drop_more layers index (layer_at (record { count = 0 }) 0) (omega arith)) (c.loop-layer.invariant left is))

pub returns : goal.returns
returns c = λ left is. subst (λ rest. AreCounted (rest ++ left) c.loop-layer.self)
    (drop_all c.loop-layer.layer-index c.args.layers.now (omega arith)) (c.loop-layer.invariant left is)
