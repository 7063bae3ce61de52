use Rattle.std.proofs.Common.{◌≡◌, ◌+◌, ◌++◌, ◌-◌, ℕ, length}
use Rattle.vt_spec.proofs.Common.{lines_of}
use Rattle.vt_script.specs.Progress.{whole_lines}
use Rattle.vt_lines.proofs.lines.lines_before.Given as goal

abbrev pub invariant-loop-left : goal.invariant-loop-left
invariant-loop-left l = record {
  whole : whole_lines l.front.items ≡ l.front.items;
  split : lines_of l.fn.text ≡ lines_of l.front.items ++ lines_of l.rest;
  count : length (lines_of l.front.items) + l.left ≡ l.fn.number - 1;
}

abbrev pub decreases-loop-left : goal.decreases-loop-left
decreases-loop-left l = l.left
