use Rattle.std.proofs.Common.{sym, ◌∙◌}
use Rattle.vt_mount.proofs.lists.ListsBy.remove.Goals as goal

pub returns-in-Some : goal.returns-in-Some
returns-in-Some g c = c.remove_at.ensures c.args.key.now (sym c.get_index_of.ensures.index ∙ c.in-Some.is)
