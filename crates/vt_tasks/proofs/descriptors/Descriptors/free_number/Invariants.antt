use Rattle.std.proofs.Common.{◌≡◌, ◌+◌, length}
use Rattle.vt_tasks.proofs.OpenLemmas.{free_in}
use Rattle.vt_tasks.proofs.descriptors.Descriptors.free_number.Given as goal

abbrev pub invariant-loop-number : goal.invariant-loop-number
invariant-loop-number l = (free_in l.free l.number-iterator ≡ free_in 0 l.initial.number-iterator)
    × (l.free + length l.number-iterator ≡ length l.initial.number-iterator)
