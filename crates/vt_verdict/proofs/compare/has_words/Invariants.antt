use Rattle.std.proofs.Common.{◌≡◌, drop, length}
use Rattle.std.specs.List.{list_all}
use Rattle.vt_verdict.specs.Compared.{has_word, words_of}
use Rattle.vt_verdict.proofs.compare.has_words.Given as goal

abbrev pub invariant-loop-word : goal.invariant-loop-word
invariant-loop-word l = record {
  can_next : (goal.iterator-loop-word).can_next l.word-iterator;
  is_finite : (goal.iterator-loop-word).is_finite l.word-iterator;
  left : list_all (has_word l.fn.text) (drop (length l.yielded) (words_of l.fn.words))
      ≡ list_all (has_word l.fn.text) (words_of l.fn.words);
}
