use Rattle.std.proofs.Common.{◌≡◌, ◌≤◌, length, drop}
use Rattle.vt_spec.proofs.Common.{each_of, identity_word, parts}
use Rattle.vt_line.proofs.TokenLemmas.{read_before}
use Rattle.vt_line.proofs.words.groups_word.Given as goal

abbrev pub invariant-loop-part : goal.invariant-loop-part
invariant-loop-part l = record {
  can_next : (goal.iterator-loop-part).can_next l.part-iterator;
  is_finite : (goal.iterator-loop-part).is_finite l.part-iterator;
  count : length l.groups.items ≡ length l.yielded;
  few : length l.groups.items ≤ 32;
  read : read_before l.groups.items (each_of identity_word (drop (length l.yielded) (parts 44 l.fn.text)))
      ≡ each_of identity_word (parts 44 l.fn.text);
}
