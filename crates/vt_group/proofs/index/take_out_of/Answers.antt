use Rattle.std.proofs.Common.{ap, sym, ◌∙◌, ◌&&◌}
use Rattle.vt_group.specs.Sets.{same_group}
use Rattle.vt_group.proofs.IndexLemmas.{apart_from_each}
use Rattle.vt_group.proofs.index.take_out_of.Goals as goal
use Rattle.vt_spec.proofs.Truths.{and_false_right}

pub returns-clause-others : goal.returns-clause-others
returns-clause-others g c at other apart there =
    c.remove.ensures at other (and_false_right (same_group c.args.name at) _ apart) there

pub returns-clause-own : goal.returns-clause-own
returns-clause-own g c at other stays there = c.remove.ensures at other
    (ap (λ b. b && g.T.PartialEq.eq c.args.one other)
    (apart_from_each c.args.name at c.args.stays.now (sym c.contains.ensures.value ∙ c.if-contains.false) stays)) there

pub returns-in_err-was_last-clause-others : goal.returns-in_err-was_last-clause-others
returns-in_err-was_last-clause-others g c at other apart there =
    c.remove.ensures at other (and_false_right (same_group c.args.name at) _ apart) there

pub returns-in_err-was_last-clause-own : goal.returns-in_err-was_last-clause-own
returns-in_err-was_last-clause-own g c at other stays there = c.remove.ensures at other
    (ap (λ b. b && g.T.PartialEq.eq c.args.one other)
    (apart_from_each c.args.name at c.args.stays.now (sym c.contains.ensures.value ∙ c.if-contains.false) stays)) there
