use Rattle.std.proofs.Common.{List, length, take, ◌++◌, ◌-◌}
use Rattle.vt_overlay.specs.declared.merge.layers.LayerRef.{LayerRef}
use Rattle.vt_store.specs.LayersAt.{AreCounted, HasRoomForLayers}
use Rattle.vt_store.proofs.layer_counts.LayerCounts.add.Given as goal

-- the layers so far are counted, and there is room for the others
abbrev pub invariant-loop-layer : goal.invariant-loop-layer
invariant-loop-layer l = record {
  counted : (before : List LayerRef) → AreCounted before l.fn.self
      → AreCounted (before ++ take l.layer-index l.layers) l.self;
  room : HasRoomForLayers (length l.layers - l.layer-index) l.self;
}
