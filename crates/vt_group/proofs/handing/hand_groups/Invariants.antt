use Rattle.std.proofs.Common.{◌≡◌, ℕ, nat_eq, if◌then◌else◌}
use Rattle.vt_spec.proofs.Common.{list_any, then_some}
use Rattle.vt_group.specs.ByNumber.{IsAscending, value_at}
use Rattle.vt_group.specs.Handing.{group_handed}
use Rattle.vt_group.proofs.handing.hand_groups.Given as goal

-- what is left to be handed leads to what is wanted
abbrev pub invariant-loop-group : goal.invariant-loop-group
invariant-loop-group l = (IsAscending l.fn.above → IsAscending l.above) ×
    ((number : ℕ) → (if list_any (λ id. nat_eq number id.count) l.group-iterator
    then then_some (value_at l.above number) (group_handed l.lost l.heir) else value_at l.above number)
    ≡ (if list_any (λ id. nat_eq number id.count) l.initial.group-iterator
    then then_some (value_at l.fn.above number) (group_handed l.lost l.heir) else value_at l.fn.above number))
