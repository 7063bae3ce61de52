use Rattle.std.proofs.Common.{ap, arith, length, subst, sym}
use Rattle.vt_group.specs.Types.{Fits, count_members, one_in}
use Rattle.vt_group.proofs.Counted.{counted_inserted, if_some_so, member_counted, member_fits}
use Rattle.vt_group.proofs.types.Types.set.Goals as goal

pub set-was-requires : goal.set-was-requires
set-was-requires c = (subst (λ kept. Fits kept c.args.mount.count c.args.kind) (sym c.self.view_is) c.requires).0

pub take_from-requires : goal.take_from-requires
take_from-requires c =
    member_counted c.self.inside.members c.self.inside.kinds.entries c.self.invariant.0 c.args.mount.count c.set-was.result
    c.set-was.ensures.value

pub add_to-requires-clause-room : goal.add_to-requires-clause-room
add_to-requires-clause-room c = if_some_so _ c.take_from.ensures.kept
    (subst (λ kept. Fits kept c.args.mount.count c.args.kind) (sym c.self.view_is) c.requires).1

pub add_to-requires-clause-most : goal.add_to-requires-clause-most
add_to-requires-clause-most c =
    member_fits c.self.inside.members c.self.inside.kinds.entries c.self.invariant.0 c.args.mount.count c.args.kind
    c.set-was.result c.set-was.ensures.value c.self.invariant.1 c.take_from.new.members c.take_from.ensures.counts
    c.len.result (omega (arith, c.len.ensures, ap length c.set-was.ensures.entries))

pub invariant_of-self : goal.invariant_of-self
invariant_of-self c = (
  λ group. omega (
    arith,
    c.add_to.ensures.counts group,
    c.take_from.ensures.counts group,
    c.self.invariant.0 group,
    counted_inserted group c.args.mount.count c.args.kind c.self.inside.kinds.entries c.self.invariant.1,
    ap (one_in group) c.set-was.ensures.value,
    ap (count_members group) c.set-was.ensures.entries,
  ),
  c.set-was.ensures.ordered,
)

pub returns-clause-kept : goal.returns-clause-kept
returns-clause-kept c mount kind fits =
    let was = subst (λ kept. Fits kept mount kind) (sym c.self.view_is) fits in
    (c.set-was.ensures.kept mount was.0, if_some_so _ (λ group there. c.add_to.ensures.kept group (c.take_from.ensures.kept group there)) was.1)
