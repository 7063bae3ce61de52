use Rattle.std.proofs.Common.{ap, is_some, sym, ◌∙◌}
use Rattle.indexmap.proofs.MapLemmas.{some_index}
use Rattle.vt_mount.proofs.lists.ListsBy.place_of.Goals as goal

pub returns-then-is_recent-clause-place : goal.returns-then-is_recent-clause-place
returns-then-is_recent-clause-place g c = sym (c.is_recent.ensures c.if-is_recent.true)

pub returns-then-is_recent-clause-found : goal.returns-then-is_recent-clause-found
returns-then-is_recent-clause-found g c = ap is_some (sym (c.is_recent.ensures c.if-is_recent.true))
    ∙ some_index (g.K.PartialEq.eq c.args.key.now) c.args.self.now.lists.entries
