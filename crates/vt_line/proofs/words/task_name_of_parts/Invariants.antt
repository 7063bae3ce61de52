use Rattle.std.proofs.Common.{◌≡◌, length, drop}
use Rattle.vt_spec.proofs.Common.{child_number, each_of, parts}
use Rattle.vt_line.proofs.TokenLemmas.{read_before}
use Rattle.vt_line.proofs.words.task_name_of_parts.Given as goal

abbrev pub invariant-loop-part : goal.invariant-loop-part
invariant-loop-part l = record {
  can_next : (goal.iterator-loop-part).can_next l.part-iterator;
  is_finite : (goal.iterator-loop-part).is_finite l.part-iterator;
  count : length l.name ≡ length l.yielded;
  read : read_before l.name (each_of child_number (drop (length l.yielded) (drop 1 (parts 46 l.text))))
      ≡ each_of child_number (drop 1 (parts 46 l.text));
}
