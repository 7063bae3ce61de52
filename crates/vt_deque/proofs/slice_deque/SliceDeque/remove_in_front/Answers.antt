use Rattle.std.proofs.Common.{arith, length-drop}
use Rattle.vt_deque.specs.SliceDeque.{items}
use Rattle.vt_deque.proofs.DequeLemmas.{drop-copied}
use Rattle.vt_deque.proofs.slice_deque.SliceDeque.remove_in_front.Goals as goal

pub returns-clause-items : goal.returns-clause-items
unfolding items
returns-clause-items g c =
    let self = c.args.self.now in
    let inside = c.requires in
    let counted = length-drop self.start self.list.items in
    let moved = drop-copied self.list.items self.start c.args.place (omega (arith, inside, counted)) in
    cc (c.drop_dead-self.ensures.items, c.copy_within.ensures.items, moved)
