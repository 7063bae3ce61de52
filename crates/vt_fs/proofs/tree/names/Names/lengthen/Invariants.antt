use Rattle.std.proofs.Common.{length, ◌+◌, ◌-◌, ◌≡◌, ◌≤◌}
use Rattle.vt_fs.proofs.tree.names.Names.lengthen.Given as goal
use Rattle.vt_fs.specs.Trees.Names.{listings}

abbrev pub invariant-loop-self : goal.invariant-loop-self
invariant-loop-self l =
    (listings l.self-inside.lists.items ≡ listings l.fn.self) × (length l.fn.self ≤ length l.self-inside.lists.items)

abbrev pub decreases-loop-self : goal.decreases-loop-self
decreases-loop-self l = l.last + 1 - length l.self-inside.lists.items
