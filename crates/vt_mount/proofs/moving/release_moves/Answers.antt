use Rattle.vt_mount.proofs.MoveLemmas.{indexed-same}
use Rattle.vt_mount.proofs.moving.release_moves.Goals as goal

pub loop-point-preserved : goal.loop-point-preserved
loop-point-preserved c kept indexed =
    indexed-same kept c.loop-point.indexes c.release.new.self c.release.ensures.namespace
    c.release.ensures.parent c.release.ensures.place (c.loop-point.invariant kept indexed)
