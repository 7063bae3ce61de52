use Rattle.std.proofs.Common.{ap, subst, sym, ◌∙◌, nat_cmp}
use Rattle.vt_spec.proofs.Common.{keys_of}
use Rattle.std.specs.List.Sorted.{IsStrictlySortedBy}
use Rattle.vt_group.specs.Types.{count_members}
use Rattle.vt_group.proofs.types.Types.reserve.Goals as goal

pub invariant_of-self : goal.invariant_of-self
invariant_of-self c = (λ group. c.reserve_count.ensures.same group ∙ c.self.invariant.0 group, c.self.invariant.1)

pub invariant_of-self-2 : goal.invariant_of-self-2
invariant_of-self-2 c = (
  λ group. c.reserve_count.ensures.same group ∙ c.self.invariant.0 group
      ∙ ap (count_members group) (sym c.reserve.ensures.entries),
  subst (λ es. IsStrictlySortedBy nat_cmp (keys_of es)) (sym c.reserve.ensures.entries) c.self.invariant.1,
)
