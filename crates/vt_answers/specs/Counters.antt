-- What only counts up: numbers that are given out, and tasks that are born. Where a count is at its end, a call is S5.
use Rattle.std.specs.Prelude.{suc, zero, ℕ, ◌*◌, ◌+◌, ◌-◌, ◌<◌, ◌^◌, ◌≡◌, ◌≤◌}

-- how many numbers mounts, groups, filesystems and namespaces were given, and how many tasks there ever were
pub record Counters : Type 0 where
  pub numbers : ℕ
  pub births : ℕ

-- of the opening world: a mount, its namespace and its filesystem, and the first task
abbrev pub opening_counters : Counters
opening_counters = record { numbers = 3; births = 1 }

-- at most 16,384 numbers are given out for each task that there ever was, and at most one task is born
pub record CountsFew (old new : Counters) : Type 0 where
  pub numbers : new.numbers ≤ old.numbers + 16384 * old.births
  pub births : new.births ≤ old.births + 1

-- so many calls, one after the other, may lead from these counters to those
abbrev pub CallsCount : ℕ → Counters → Counters → Type 0
CallsCount zero old new = new ≡ old
CallsCount (suc calls) old new = (between : Counters) × CallsCount calls old between × CountsFew between new

-- Calls count no more than by the square of their number,
abbrev pub CallsCountBySquares : Type 0
CallsCountBySquares =
    (calls : ℕ) (new : Counters) → CallsCount calls opening_counters new
    → (new.numbers ≤ 8192 * ((calls + 1) * (calls + 1))) × (new.births ≤ calls + 1)

-- so within 47 million calls no count comes to its end, 2^64 - 1, and neither does it with the next call.
abbrev pub CountsAreFarFromTheirEnds : Type 0
CountsAreFarFromTheirEnds =
    (calls : ℕ) (new : Counters) → calls < 47000000 → CallsCount calls opening_counters new
    → new.numbers + 16384 * new.births < 2 ^ 64 - 1
