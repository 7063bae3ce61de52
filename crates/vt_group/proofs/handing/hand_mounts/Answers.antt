use Rattle.std.proofs.Common.{ap, nat_eq, sym, ◌∙◌, if◌then◌else◌}
use Rattle.vt_spec.proofs.Common.{list_any, then_some}
use Rattle.vt_group.specs.ByNumber.{value_at}
use Rattle.vt_group.specs.Handing.{kind_handed}
use Rattle.vt_group.proofs.Handed.{handed_next, kind_handed-twice}
use Rattle.vt_group.proofs.handing.hand_mounts.Goals as goal

pub loop-mount-preserved : goal.loop-mount-preserved
loop-mount-preserved c = (
  λ ordered. c.hand_mount.ensures.ordered (c.loop-mount.invariant.0 ordered),
  λ number.
      handed_next (kind_handed c.args.lost c.args.heir) (kind_handed-twice c.args.lost c.args.heir) (λ id. id.count) number
      (value_at c.loop-mount.types.kinds) (value_at c.hand_mount.new.types.kinds) c.in-Some.mount c.next.new.self
      (c.hand_mount.ensures.each number) ∙ ap (λ ids. if list_any (λ id. nat_eq number id.count) ids
      then then_some (value_at c.loop-mount.types.kinds number) (kind_handed c.args.lost c.args.heir)
      else value_at c.loop-mount.types.kinds number) (sym c.in-Some.ensures.steps) ∙ c.loop-mount.invariant.1 number,
)

pub returns-clause-each : goal.returns-clause-each
returns-clause-each c number = ap (λ ids. if list_any (λ id. nat_eq number id.count) ids
    then then_some (value_at c.loop-mount.types.kinds number) (kind_handed c.args.lost c.args.heir)
    else value_at c.loop-mount.types.kinds number) (sym c.in-None.ensures.steps.0) ∙ c.loop-mount.invariant.1 number
    ∙ ap (λ ids. if list_any (λ id. nat_eq number id.count) ids
    then then_some (value_at c.args.types.now.kinds number) (kind_handed c.args.lost c.args.heir)
    else value_at c.args.types.now.kinds number) c.into_iter-mount-iterator.ensures.into_iter_gives
