use Rattle.std.proofs.Common.{ap, length, subst, sym, true, ◌-◌, ◌∙◌, ◌≡◌}
use Rattle.vt_deque.specs.SliceDeque.{items}
use Rattle.vt_mount.specs.Rising.{rises}
use Rattle.vt_mount.proofs.RisingLemmas.{others_by, others-popped, rises-take}
use Rattle.vt_mount.proofs.ascending.pop_if_last.Goals as goal

pub returns-then-ends_with-clause-others : goal.returns-then-ends_with-clause-others
returns-then-ends_with-clause-others g c =
    let one = c.args.element in
    let is_last = c.if-ends_with.true in
    ap (others_by g.T.PartialEq.eq one) c.pop.ensures.rest
    ∙ others-popped g.met.T.Ordered.order one (items c.args.list.now) (c.ends_with.ensures.inside is_last)
    (c.ends_with.ensures.last is_last)

pub returns-then-ends_with-clause-rising : goal.returns-then-ends_with-clause-rising
returns-then-ends_with-clause-rising g c =
    let list = items c.args.list.now in
    subst (λ list. rises g.T.Ordered.before list ≡ true) (sym c.pop.ensures.rest)
    (rises-take g.met.T.Ordered.order list (length list - 1) c.requires)
