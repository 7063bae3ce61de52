use Rattle.std.proofs.Common.{length, ◌++◌, ◌≡◌}
use Rattle.vt_location.specs.Numbers.{counted}
use Rattle.vt_mount.specs.MountsValue.{mounts_in}
use Rattle.vt_mount.proofs.PlaceLemmas.{counts}
use Rattle.vt_mount.specs.Waiting.{to_come, tree_numbers}
use Rattle.vt_mount.proofs.mounts.Mounts.tree.Given as goal

-- what is told, and then what is still to come, is the tree
abbrev pub invariant-loop-next : goal.invariant-loop-next
invariant-loop-next l = counts l.tree.items ++ to_come (mounts_in l.self) l.waiting.items
    ≡ tree_numbers (mounts_in l.self) (length (mounts_in l.self)) (counted l.fn.id.count)

abbrev pub decreases-loop-next : goal.decreases-loop-next
decreases-loop-next l = length (to_come (mounts_in l.self) l.waiting.items)
