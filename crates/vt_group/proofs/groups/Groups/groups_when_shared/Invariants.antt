use Rattle.std.proofs.Common.{◌≡◌, map, take}
use Rattle.vt_group.specs.Together.{new_group, pair_of, shared_group}
use Rattle.vt_group.proofs.groups.Groups.groups_when_shared.Given as goal

abbrev pub invariant-loop-pair : goal.invariant-loop-pair
invariant-loop-pair l =
    map new_group l.groups.items ≡ map (λ pair. shared_group l.self (pair_of pair)) (take l.pair-index l.named)
