use Rattle.vt_mount.proofs.KeptLemmas.{on-err, on-ok}
use Rattle.vt_mount.proofs.lists.ListsBy.add_again.Goals as goal

pub returns-then-is_recent-clause-ok : goal.returns-then-is_recent-clause-ok
returns-then-is_recent-clause-ok g c = on-ok c.add_at.result c.add_at.ensures.ok (λ added.
    added c.args.key (c.is_recent.ensures c.if-is_recent.true))

pub returns-then-is_recent-clause-err : goal.returns-then-is_recent-clause-err
returns-then-is_recent-clause-err g c = on-err c.add_at.result c.add_at.ensures.err (λ same.
    same c.args.key (c.is_recent.ensures c.if-is_recent.true))
