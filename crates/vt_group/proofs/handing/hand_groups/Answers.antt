use Rattle.std.proofs.Common.{ap, nat_eq, sym, ◌∙◌, if◌then◌else◌}
use Rattle.vt_spec.proofs.Common.{list_any, then_some}
use Rattle.vt_group.specs.ByNumber.{value_at}
use Rattle.vt_group.specs.Handing.{group_handed}
use Rattle.vt_group.proofs.Handed.{handed_next, group_handed-twice}
use Rattle.vt_group.proofs.handing.hand_groups.Goals as goal

pub loop-group-preserved : goal.loop-group-preserved
loop-group-preserved c = (
  λ ordered. c.hand_group.ensures.ordered (c.loop-group.invariant.0 ordered),
  λ number.
      handed_next (group_handed c.args.lost c.args.heir) (group_handed-twice c.args.lost c.args.heir) (λ id. id.count) number
      (value_at c.loop-group.above) (value_at c.hand_group.new.above) c.in-Some.group c.next.new.self
      (c.hand_group.ensures.each number) ∙ ap (λ ids. if list_any (λ id. nat_eq number id.count) ids
      then then_some (value_at c.loop-group.above number) (group_handed c.args.lost c.args.heir)
      else value_at c.loop-group.above number) (sym c.in-Some.ensures.steps) ∙ c.loop-group.invariant.1 number,
)

pub returns-clause-each : goal.returns-clause-each
returns-clause-each c number = ap (λ ids. if list_any (λ id. nat_eq number id.count) ids
    then then_some (value_at c.loop-group.above number) (group_handed c.args.lost c.args.heir)
    else value_at c.loop-group.above number) (sym c.in-None.ensures.steps.0) ∙ c.loop-group.invariant.1 number
    ∙ ap (λ ids. if list_any (λ id. nat_eq number id.count) ids
    then then_some (value_at c.args.above.now number) (group_handed c.args.lost c.args.heir)
    else value_at c.args.above.now number) c.into_iter-group-iterator.ensures.into_iter_gives
