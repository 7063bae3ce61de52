use Rattle.std.proofs.Common.{◌≡◌, ◌∷◌, ◌++◌, Some, IfSome, length}
use Rattle.vt_spec.proofs.Common.{task_word}
use Rattle.vt_line.proofs.words.name_of_few.Given as goal

abbrev pub invariant-loop-rest : goal.invariant-loop-rest
invariant-loop-rest l = IfSome (task_word (116 ∷ l.rest)) (λ others. task_word l.text ≡ Some (l.name ++ others))

abbrev pub decreases-loop-rest : goal.decreases-loop-rest
decreases-loop-rest l = length l.rest
