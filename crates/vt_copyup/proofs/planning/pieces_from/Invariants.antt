use Rattle.std.proofs.Common.{◌-◌}
use Rattle.std.specs.Prelude.{reverse}
use Rattle.vt_copyup.proofs.Pieces.{SoFar}
use Rattle.vt_copyup.proofs.planning.pieces_from.Given as goal

abbrev pub invariant-loop-index : goal.invariant-loop-index
invariant-loop-index g l =
    SoFar l.source.with_bytes l.source.trees.now l.source.layers.now l.source.overlay (g.W.Way.names l.path) l.start l.index
    (reverse l.pieces.items)

abbrev pub decreases-loop-index : goal.decreases-loop-index
decreases-loop-index g l = l.index - l.start
