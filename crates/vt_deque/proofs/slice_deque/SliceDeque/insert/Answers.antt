use Rattle.std.proofs.Common.{arith, length-drop}
use Rattle.vt_deque.specs.SliceDeque.{items}
use Rattle.vt_deque.proofs.DequeLemmas.{drop-insert}
use Rattle.vt_deque.proofs.slice_deque.SliceDeque.insert.Goals as goal

pub returns-clause-items : goal.returns-clause-items
unfolding items
returns-clause-items g c = grind (arith, drop-insert, length-drop, c.insert.ensures.items)
