use Rattle.vt_mount.proofs.MoveLemmas.{indexed-same}
use Rattle.vt_mount.proofs.attaching.release_all.Goals as goal

pub loop-mount-preserved : goal.loop-mount-preserved
loop-mount-preserved c kept indexed =
    indexed-same kept c.loop-mount.indexes c.release.new.self c.release.ensures.namespace
    c.release.ensures.parent c.release.ensures.place (c.loop-mount.invariant kept indexed)
