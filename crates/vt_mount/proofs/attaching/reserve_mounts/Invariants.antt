use Rattle.std.proofs.Common.{List, ◌++◌, ◌≡◌}
use Rattle.vt_location.specs.declared.locations.Location.{Location}
use Rattle.vt_location.specs.declared.mounts.Mount.{Mount}
use Rattle.vt_location.specs.declared.numbers.MountId.{MountId}
use Rattle.vt_location.specs.declared.numbers.NamespaceId.{NamespaceId}
use Rattle.vt_mount.specs.declared.mounted.Mounted.{Mounted}
use Rattle.vt_mount.specs.Reserved.{Reserves, mount_points_of, namespaces_of}
use Rattle.vt_mount.specs.Indexed.{IsIndexed}
use Rattle.vt_mount.proofs.attaching.reserve_mounts.Given as goal

-- there is room for those at the end of the list
abbrev pub invariant-loop-mount : goal.invariant-loop-mount
invariant-loop-mount l = (back : List Mount) × (l.new ≡ l.mount-iterator.iter.rest.now ++ back)
    × ((kept : List (MountId × Mounted)) → IsIndexed l.fn.indexes kept → IsIndexed l.indexes kept)
    × ((namespaces : List NamespaceId) (places : List Location) → Reserves l.fn.indexes namespaces places
    → Reserves l.indexes (namespaces_of back ++ namespaces) (mount_points_of back ++ places))
