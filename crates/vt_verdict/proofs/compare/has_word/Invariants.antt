use Rattle.std.proofs.Common.{◌≡◌, drop, length}
use Rattle.std.specs.List.{list_any}
use Rattle.std.specs.Str.{bytes_eq}
use Rattle.vt_verdict.specs.Compared.{words_of}
use Rattle.vt_verdict.proofs.compare.has_word.Given as goal

abbrev pub invariant-loop-other : goal.invariant-loop-other
invariant-loop-other l = record {
  can_next : (goal.iterator-loop-other).can_next l.other-iterator;
  is_finite : (goal.iterator-loop-other).is_finite l.other-iterator;
  left : list_any (λ other. bytes_eq other l.fn.word) (drop (length l.yielded) (words_of l.fn.text))
      ≡ list_any (λ other. bytes_eq other l.fn.word) (words_of l.fn.text);
}
