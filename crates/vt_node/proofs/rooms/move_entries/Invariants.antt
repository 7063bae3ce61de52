use Rattle.std.proofs.Common.{◌≡◌, ◌+◌, ◌≤◌, length}
use Rattle.indexmap.specs.IndexMap.{spare}
use Rattle.vt_node.specs.Listed.{listed}
use Rattle.vt_node.proofs.Moved.{listed_before}
use Rattle.vt_node.proofs.rooms.move_entries.Given as goal

-- what is left and what was moved, and room for what is left
abbrev pub invariant-loop-entry : goal.invariant-loop-entry
invariant-loop-entry l =
    (listed_before l.from.entries (listed l.to.entries) ≡ listed l.fn.from.entries)
    × (spare l.fn.to + length l.from.entries ≤ spare l.to + length l.fn.from.entries)

abbrev pub decreases-loop-entry : goal.decreases-loop-entry
decreases-loop-entry l = length l.from.entries
