use Rattle.std.proofs.Common.{ap, length, sym, ◌-◌, ◌∙◌}
use Rattle.vt_spec.proofs.Common.{get_or_from_slice_get}
use Rattle.vt_deque.specs.SliceDeque.{items}
use Rattle.vt_mount.proofs.ascending.ends_with.Goals as goal

pub returns-in-Some-clause-last : goal.returns-in-Some-clause-last
returns-in-Some-clause-last g c is d =
    let list = items c.args.list.now in
    ap (λ other. g.T.PartialEq.eq other c.args.element)
    (get_or_from_slice_get list (length list - 1) c.in-Some.last.now d (sym c.in-Some.ensures)) ∙ sym c.eq.ensures ∙ is
