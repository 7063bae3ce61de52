use Rattle.std.proofs.Common.{ap, subst, ◌∙◌, ◌≡◌, true}
use Rattle.vt_spec.proofs.Common.{list_any, list_any_at}
use Rattle.vt_deque.specs.SliceDeque.{items}
use Rattle.vt_group.proofs.FewLemmas.{any-beside, any-put}
use Rattle.vt_group.proofs.set.add.Goals as goal

pub returns-then-is_at-clause-there : goal.returns-then-is_at-clause-there
returns-then-is_at-clause-there g c =
    let eq = g.T.PartialEq.eq in
    let laws = g.met.T.Eq.laws in
    subst (λ items. list_any (eq c.args.one) items ≡ true) c.as_slice-2.ensures
    (list_any_at (eq c.args.one) c.as_slice-2.result.now c.place_of-place.result c.args.one
    (c.is_at.ensures.within c.if-is_at.true)
    (laws.symm c.args.one _ ∙ c.is_at.ensures.there c.if-is_at.true c.args.one))

pub returns-clause-there : goal.returns-clause-there
returns-clause-there g c = ap (list_any (g.T.PartialEq.eq c.args.one)) c.in_ok-insert.ensures.items
    ∙ any-put g.met.T.Eq.laws c.args.one (items c.args.list.now) c.place_of-place.result

pub returns-clause-kept : goal.returns-clause-kept
returns-clause-kept g c other there = ap (list_any (g.T.PartialEq.eq other)) c.in_ok-insert.ensures.items
    ∙ any-beside g.met.T.Eq.laws c.args.one other (items c.args.list.now) c.place_of-place.result there
