-- How far calls of the code's world count.
use Rattle.std.specs.Prelude.{length, ◌*◌, ◌+◌, ◌≤◌}
use Rattle.vt_answers.specs.Counters.{Counters}
use Rattle.vt_world.specs.WorldValue.{WorldValue}
use Rattle.vt_calls.specs.KernelValue.{KernelValue}

abbrev pub counters_of : WorldValue → Counters
counters_of value = record { numbers = value.next; births = value.births }

abbrev pub kernel_counters : KernelValue → Counters
kernel_counters kernel = counters_of kernel.world

-- at most 16,384 numbers are given out for each task that there is, and at most one task is born
pub record CountsForTasks (old new : WorldValue) : Type 0 where
  pub numbers : new.next ≤ old.next + 16384 * length old.tasks
  pub births : new.births ≤ old.births + 1
