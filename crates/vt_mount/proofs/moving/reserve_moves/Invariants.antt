use Rattle.std.proofs.Common.{List, take, ◌++◌}
use Rattle.vt_location.specs.declared.locations.Location.{Location}
use Rattle.vt_location.specs.declared.numbers.MountId.{MountId}
use Rattle.vt_location.specs.declared.numbers.NamespaceId.{NamespaceId}
use Rattle.vt_mount.specs.declared.mounted.Mounted.{Mounted}
use Rattle.vt_mount.specs.Reserved.{Reserves, moved_places}
use Rattle.vt_mount.specs.Indexed.{IsIndexed}
use Rattle.vt_mount.proofs.moving.reserve_moves.Given as goal

-- there is room for the first of them
abbrev pub invariant-loop-point : goal.invariant-loop-point
invariant-loop-point l = ((kept : List (MountId × Mounted)) → IsIndexed l.fn.indexes kept → IsIndexed l.indexes kept)
    × ((namespaces : List NamespaceId) (places : List Location) → Reserves l.fn.indexes namespaces places
    → Reserves l.indexes namespaces (moved_places (take l.point-index l.points) ++ places))
