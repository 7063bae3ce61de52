use Rattle.std.proofs.Common.{◌≡◌, map, take}
use Rattle.vt_group.specs.Additions.{typed_pair}
use Rattle.vt_group.specs.Together.{pair_of, shared_type}
use Rattle.vt_group.proofs.groups.Groups.types_when_shared.Given as goal

abbrev pub invariant-loop-pair : goal.invariant-loop-pair
invariant-loop-pair l =
    map typed_pair l.types.items ≡ map (λ pair. shared_type l.self (pair_of pair)) (take l.pair-index l.named)
