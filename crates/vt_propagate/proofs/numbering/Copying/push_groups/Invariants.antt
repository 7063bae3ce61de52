use Rattle.std.proofs.Common.{◌≡◌, ◌++◌, drop, map, filter_map}
use Rattle.vt_location.specs.MountValue.{mount_of}
use Rattle.vt_propagate.specs.Copying.{as_kept, made, new_group, tree_seen}
use Rattle.vt_propagate.proofs.numbering.Copying.push_groups.Given as goal

abbrev pub invariant-loop-origin : goal.invariant-loop-origin
invariant-loop-origin l =
    map new_group l.new.items ++ filter_map (made (as_kept l.mounts l.groups) l.self (mount_of l.part))
    (map mount_of (drop l.origin-index l.origin-items)) ≡ map new_group l.fn.new.items
    ++ filter_map (made (as_kept l.mounts l.groups) l.self (mount_of l.part)) (tree_seen l.self)
