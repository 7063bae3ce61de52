use Rattle.std.proofs.Common.{◌≡◌, drop, length}
use Rattle.vt_wanted.specs.Headers.{named_by, named_next, words_of}
use Rattle.vt_wanted.proofs.header.word_in.Given as goal

abbrev pub invariant-loop-text : goal.invariant-loop-text
invariant-loop-text l = record {
  can_next : (goal.iterator-loop-text).can_next l.text-iterator;
  is_finite : (goal.iterator-loop-text).is_finite l.text-iterator;
  left : named_next l.is_next (drop (length l.yielded) (words_of l.fn.line)) ≡ named_by (words_of l.fn.line);
}
