use Rattle.std.proofs.Common.{◌≡◌, ◌++◌, drop, map}
use Rattle.vt_location.specs.MountValue.{mount_of}
use Rattle.vt_propagate.specs.Copying.{as_kept, copied, tree_seen}
use Rattle.vt_propagate.proofs.numbering.Copying.push_copies.Given as goal

abbrev pub invariant-loop-origin : goal.invariant-loop-origin
invariant-loop-origin l =
    map mount_of l.copies.items ++ map (copied (as_kept l.mounts l.groups) l.self (mount_of l.part))
    (map mount_of (drop l.origin-index l.origin-items)) ≡ map mount_of l.fn.copies.items
    ++ map (copied (as_kept l.mounts l.groups) l.self (mount_of l.part)) (tree_seen l.self)
