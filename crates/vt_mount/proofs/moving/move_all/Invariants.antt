use Rattle.std.proofs.Common.{List, length, map, true, ◌+◌, ◌++◌, ◌≡◌, ◌≤◌, vec_capacity, vec_len}
use Rattle.vt_spec.proofs.Common.{list_all}
use Rattle.indexmap.specs.IndexMap.{spare}
use Rattle.vt_location.specs.declared.locations.Location.{Location}
use Rattle.vt_location.specs.declared.numbers.NamespaceId.{NamespaceId}
use Rattle.vt_mount.specs.declared.moving.NewPoint.{NewPoint}
use Rattle.vt_mount.specs.Reserved.{Reserves, moved_places}
use Rattle.vt_mount.specs.Indexed.{IsIndexed}
use Rattle.vt_mount.specs.Moving.{all_moves, is_small, move_of, with_points}
use Rattle.vt_mount.specs.MountsValue.{entries_of, in_order}
use Rattle.vt_mount.proofs.moving.move_all.Given as goal

-- those at the end of the list have moved, and there is room for the others
abbrev pub invariant-loop-point : goal.invariant-loop-point
invariant-loop-point l = (back : List NewPoint) × (l.points ≡ l.point-iterator.iter.rest.now ++ back)
    × (entries_of l.by_number.entries ≡ with_points back (entries_of l.fn.by_number.entries))
    × IsIndexed l.indexes (in_order l.by_number.entries)
    × (map move_of l.moved.items ≡ map move_of l.fn.moved.items ++ all_moves back (entries_of l.fn.by_number.entries))
    × (list_all is_small l.fn.moved.items ≡ true → list_all is_small l.moved.items ≡ true)
    × ((namespaces : List NamespaceId) (places : List Location)
    → Reserves l.fn.indexes namespaces (moved_places l.points ++ places)
    → Reserves l.indexes namespaces (moved_places l.point-iterator.iter.rest.now ++ places))
    × (vec_len l.moved + length l.point-iterator.iter.rest.now ≤ vec_capacity l.moved)
    × (spare l.by_number ≡ spare l.fn.by_number)
