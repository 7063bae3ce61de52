use Rattle.std.proofs.Common.{◌≡◌, is_some, length, true}
use Rattle.vt_spec.proofs.Common.{each_of, task_word}
use Rattle.vt_line.proofs.TokenLemmas.{read_before}
use Rattle.vt_line.proofs.directives.named_tasks.Given as goal

abbrev pub invariant-loop-word : goal.invariant-loop-word
invariant-loop-word l = record {
  some : is_some (each_of task_word l.words) ≡ true;
  read : read_before l.tasks.items (each_of task_word l.words) ≡ each_of task_word l.initial.words;
}

abbrev pub decreases-loop-word : goal.decreases-loop-word
decreases-loop-word l = length l.words
