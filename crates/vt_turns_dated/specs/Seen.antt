-- The world that the definitions see of a kernel whose tasks make calls in turns.
use Rattle.std.specs.Prelude.{ℕ}
use Rattle.vt_spec.specs.Machine.World.{World}
use Rattle.vt_answers.specs.Counters.{Counters}
use Rattle.vt_calls.specs.Counting.{kernel_counters}
use Rattle.vt_changes.specs.DatedValue.{dated_world}
use Rattle.vt_turns_dated.specs.declared.kernel.TurnKernel.{TurnKernel}

abbrev pub turn_world : TurnKernel → World ℕ
turn_world kernel = dated_world kernel.dated

-- how many numbers it gave out, and how many tasks were born
abbrev pub turn_counters : TurnKernel → Counters
turn_counters kernel = kernel_counters kernel.dated.kernel
