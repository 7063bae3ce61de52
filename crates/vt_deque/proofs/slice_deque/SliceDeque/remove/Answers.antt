use Rattle.std.proofs.Common.{ap, arith, drop, length-drop, ◌∙◌}
use Rattle.vt_deque.specs.SliceDeque.{items}
use Rattle.vt_deque.proofs.DequeLemmas.{drop-remove}
use Rattle.vt_deque.proofs.slice_deque.SliceDeque.remove.Goals as goal

pub returns-else-place-len-clause-items : goal.returns-else-place-len-clause-items
unfolding items
returns-else-place-len-clause-items g c =
    let self = c.args.self.now in
    let inside = c.requires in
    let counted = length-drop self.start self.list.items in
    ap (drop self.start) c.remove.ensures.items
    ∙ drop-remove self.list.items self.start c.args.place (omega (arith, inside, counted))
