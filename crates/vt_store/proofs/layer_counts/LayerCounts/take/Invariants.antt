use Rattle.std.proofs.Common.{List, drop, ◌++◌}
use Rattle.vt_overlay.specs.declared.merge.layers.LayerRef.{LayerRef}
use Rattle.vt_store.specs.LayersAt.{AreCounted}
use Rattle.vt_store.proofs.layer_counts.LayerCounts.take.Given as goal

-- the layers that were not come to are counted still
abbrev pub invariant-loop-layer : goal.invariant-loop-layer
invariant-loop-layer l =
    (left : List LayerRef) → AreCounted (l.layers ++ left) l.fn.self
    → AreCounted (drop l.layer-index l.layers ++ left) l.self
