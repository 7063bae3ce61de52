use Rattle.std.proofs.Common.{drop, length, map, take, ◌+◌, ◌++◌, ◌≡◌, ◌≤◌}
use Rattle.indexmap.specs.IndexMap.{spare}
use Rattle.vt_mount.specs.Reserved.{Reserves, mount_points_of, namespaces_of}
use Rattle.vt_mount.specs.Indexed.{IsIndexed}
use Rattle.vt_mount.specs.MountsValue.{entries_of, in_order, unused_entry}
use Rattle.vt_mount.proofs.attaching.enter_all.Given as goal

-- there is room for those that are still to come
abbrev pub invariant-loop-mount : goal.invariant-loop-mount
invariant-loop-mount l = IsIndexed l.indexes (in_order l.by_number.entries) × (entries_of l.by_number.entries
    ≡ entries_of l.fn.by_number.entries ++ map unused_entry (take l.mount-index l.new))
    × (length l.new ≤ spare l.by_number + l.mount-index)
    × Reserves l.indexes (namespaces_of (drop l.mount-index l.new)) (mount_points_of (drop l.mount-index l.new))
