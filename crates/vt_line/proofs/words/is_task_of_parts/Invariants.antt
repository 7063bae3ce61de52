use Rattle.std.proofs.Common.{◌≡◌, length, drop, is_some}
use Rattle.vt_spec.proofs.Common.{child_number, each_of, parts}
use Rattle.vt_line.proofs.words.is_task_of_parts.Given as goal

abbrev pub invariant-loop-part : goal.invariant-loop-part
invariant-loop-part l = record {
  can_next : (goal.iterator-loop-part).can_next l.part-iterator;
  is_finite : (goal.iterator-loop-part).is_finite l.part-iterator;
  read : is_some (each_of child_number (drop (length l.yielded) (drop 1 (parts 46 l.text))))
      ≡ is_some (each_of child_number (drop 1 (parts 46 l.text)));
}
