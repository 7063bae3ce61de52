use Rattle.std.proofs.Common.{◌≡◌, ℕ, nat_eq, if◌then◌else◌}
use Rattle.vt_spec.proofs.Common.{list_any, then_some}
use Rattle.vt_group.specs.ByNumber.{IsAscending, value_at}
use Rattle.vt_group.specs.Handing.{kind_handed}
use Rattle.vt_group.proofs.handing.hand_mounts.Given as goal

-- what is left to be handed leads to what is wanted
abbrev pub invariant-loop-mount : goal.invariant-loop-mount
invariant-loop-mount l = (IsAscending l.fn.types.kinds → IsAscending l.types.kinds) ×
    ((number : ℕ) → (if list_any (λ id. nat_eq number id.count) l.mount-iterator
    then then_some (value_at l.types.kinds number) (kind_handed l.lost l.heir) else value_at l.types.kinds number)
    ≡ (if list_any (λ id. nat_eq number id.count) l.initial.mount-iterator
    then then_some (value_at l.fn.types.kinds number) (kind_handed l.lost l.heir) else value_at l.fn.types.kinds number))
