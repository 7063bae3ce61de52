-- An exit whose descriptors are closed one after the other first, with a sweep after each: _exit(2), close(2).
use Rattle.std.specs.Prelude.{List, None, Option, Some, nat_eq, ℕ, ◌≡◌}
use Rattle.vt_laws_mounts.specs.LettingGo.Leaving.{with_sweeps}
use Rattle.vt_spec.specs.Language.Calls.{TaskName}
use Rattle.vt_spec.specs.Lists.{Fresh}
use Rattle.vt_spec.specs.Machine.Apply.{apply}
use Rattle.vt_spec.specs.Machine.Invariants.{IsWorld}
use Rattle.vt_spec.specs.Machine.Permits.Permit.{ToClose, ToExit}
use Rattle.vt_spec.specs.Machine.Settled.{settled}
use Rattle.vt_spec.specs.Machine.World.{Task, World, task_called}

-- the world in which this task, if there is one, has closed the descriptor of this number, before a sweep
abbrev pub closed_by : Fresh ℕ → World ℕ → ℕ → Option (Task ℕ) → World ℕ
closed_by fresh world number None = world
closed_by fresh world number (Some task) = (apply nat_eq fresh world task (ToClose number)).world

-- the same of the task of this name, as it is in the world; what has no such descriptor stays as it is
abbrev pub closed_in : Fresh ℕ → TaskName → World ℕ → ℕ → World ℕ
closed_in fresh name world number = closed_by fresh world number (task_called world name)

-- Descriptors of a task are closed one after the other, any of them and in whichever order, with a sweep after each,
-- and then the task ends: what is left is what it leaves where it ends at once, with one sweep.
abbrev pub ExitLeavesOneByOne : Type 0
ExitLeavesOneByOne =
    (fresh : Fresh ℕ) (world : World ℕ) (task : Task ℕ) (numbers : List ℕ) → IsWorld nat_eq world
    → settled nat_eq (apply nat_eq fresh (with_sweeps (closed_in fresh task.name) world numbers) task ToExit).world
    ≡ settled nat_eq (apply nat_eq fresh world task ToExit).world
