use Rattle.std.proofs.Common.{◌≡◌, ◌<◌, ◌∙◌, get_or, length, subst, true}
use Rattle.vt_deque.specs.SliceDeque.{items}
use Rattle.vt_group.proofs.FewLemmas.{any-left, remove_parts}
use Rattle.vt_group.proofs.set.take_out.Goals as goal

pub returns : goal.returns
returns g c other apart there =
    let eq = g.T.PartialEq.eq in
    let place = c.place_of-place.result in
    let one = c.remove.result in
    any-left g.met.T.Eq.laws c.args.one.now other one (items c.args.list.now) (items c.remove.new.self) place
    (subst (λ items. place < length items) c.as_slice-2.ensures (c.is_at.ensures.within c.if-not-is_at.false))
    (subst (λ items. eq (get_or items place one) c.args.one.now ≡ true) c.as_slice-2.ensures
    (c.is_at.ensures.there c.if-not-is_at.false one)) (c.remove.ensures.items
    ∙ remove_parts (items c.args.list.now) place (subst (λ items. place < length items) c.as_slice-2.ensures
    (c.is_at.ensures.within c.if-not-is_at.false))) apart there
