use Rattle.std.proofs.Common.{◌≡◌, ◌+◌, ◌≤◌, is_some, length}
use Rattle.vt_spec.proofs.Common.{each_of, task_word}
use Rattle.vt_line.proofs.directives.are_some_tasks.Given as goal

abbrev pub invariant-loop-word : goal.invariant-loop-word
invariant-loop-word l = record {
  few : l.count ≤ 64;
  counted : l.count + length l.rest ≡ length l.words;
  read : is_some (each_of task_word l.rest) ≡ is_some (each_of task_word l.words);
}

abbrev pub decreases-loop-word : goal.decreases-loop-word
decreases-loop-word l = length l.rest
