use Rattle.std.proofs.Common.{Some, arith, subst, sym, true, ◌≡◌, ◌≤◌}
use Rattle.vt_deque.specs.SliceDeque.{items}
use Rattle.vt_mount.specs.Rising.{held, rises, room_for}
use Rattle.vt_mount.proofs.RisingLemmas.{rises-inserted}
use Rattle.vt_mount.proofs.ascending.Ascending.insert.Goals as goal

pub invariant_of-self-2 : goal.invariant_of-self-2
unfolding held
invariant_of-self-2 g c =
    let self = c.args.self.now in
    let list = c.in-Some.list in
    let many : self.many ≡ Some list = cc in
    let room = subst (λ many. self.reserved ≤ room_for self.one many) many self.room in
    let some = c.requires in
    let less = c.insert_into.ensures.room in
    record {
      rising = subst (λ list. rises g.T.Ordered.before list ≡ true) (sym c.insert_into.ensures.items)
          (rises-inserted g.met.T.Ordered.order c.args.element (items list)
          (subst (λ many. rises g.T.Ordered.before (held self.one many) ≡ true) many self.rising));
      room = omega (arith, room, some, less);
    }
