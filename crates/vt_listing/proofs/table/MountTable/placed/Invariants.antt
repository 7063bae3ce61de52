use Rattle.std.proofs.Common.{◌≡◌, map, take}
use Rattle.vt_location.specs.Numbers.{counted}
use Rattle.vt_listing.specs.Shown.{world_shown}
use Rattle.vt_listing.specs.GroupsListed.{all_seen, placed_from}
use Rattle.vt_listing.proofs.table.MountTable.placed.Given as goal

abbrev pub invariant-loop-namespace : goal.invariant-loop-namespace
invariant-loop-namespace l = (l.number ≡ l.namespace-index)
    × (all_seen l.placed.items ≡ placed_from (world_shown l.self) 1
    (map (λ id. counted id.count) (take l.namespace-index l.namespaces)))
