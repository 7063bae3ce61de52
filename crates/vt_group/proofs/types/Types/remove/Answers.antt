use Rattle.std.proofs.Common.{ap, arith}
use Rattle.vt_group.specs.Types.{count_members, one_in}
use Rattle.vt_group.proofs.Counted.{counted_removed, member_counted}
use Rattle.vt_group.proofs.types.Types.remove.Goals as goal

pub take_from-requires : goal.take_from-requires
take_from-requires c =
    member_counted c.self.inside.members c.self.inside.kinds.entries c.self.invariant.0 c.args.mount.count c.remove-was.result
    c.remove-was.ensures.value

pub invariant_of-self : goal.invariant_of-self
invariant_of-self c = (
  λ group. omega (
    arith,
    c.take_from.ensures.counts group,
    c.self.invariant.0 group,
    counted_removed group c.args.mount.count c.self.inside.kinds.entries,
    ap (one_in group) c.remove-was.ensures.value,
    ap (count_members group) c.remove-was.ensures.entries,
  ),
  c.remove-was.ensures.ordered,
)
