use Rattle.vt_fs.proofs.tree.InodeLemmas.{inodes-released}
use Rattle.vt_fs.proofs.tree.changes.release.Goals as goal

pub returns-clause-released : goal.returns-clause-released
returns-clause-released c = λ root. inodes-released root c.args.slots.now c.release.new.self c.args.object
    c.release.ensures.released c.release.ensures.len
