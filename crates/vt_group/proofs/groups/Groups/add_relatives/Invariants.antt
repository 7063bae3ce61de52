use Rattle.std.proofs.Common.{◌≡◌, ◌⊎◌, ◌||◌, ℕ, map, nat_eq, true}
use Rattle.vt_spec.proofs.Common.{is_among}
use Rattle.vt_location.specs.Numbers.{counted}
use Rattle.vt_group.specs.Receiving.{is_noted, receives_from}
use Rattle.vt_group.proofs.groups.Groups.add_relatives.Given as goal

abbrev pub invariant-loop-mount : goal.invariant-loop-mount
invariant-loop-mount l = (mount : ℕ) → (is_noted l.mounts.items mount
    ≡ (receives_from l.self (nat_eq (counted l.group.count)) (counted mount) || is_noted l.fn.mounts.items mount))
    ⊎ ((is_noted l.mounts.items mount ≡ is_noted l.fn.mounts.items mount)
    × (is_among nat_eq (counted mount) (map (λ id. counted id.count) l.mount-iterator) ≡ true))
