-- The world that a permit leaves, once what is not in use is gone.
use Rattle.std.specs.Prelude.{Ok, Some, false, nat_eq, true, ℕ, ◌≡◌}
use Rattle.vt_spec.specs.Language.Calls.{Call}
use Rattle.vt_spec.specs.Lists.{Fresh}
use Rattle.vt_spec.specs.Machine.Apply.{apply}
use Rattle.vt_spec.specs.Machine.Judge.{judge_in}
use Rattle.vt_spec.specs.Machine.Permits.{Permit}
use Rattle.vt_spec.specs.Machine.Run.{Serves}
use Rattle.vt_spec.specs.Machine.SameWorlds.{SameWorlds}
use Rattle.vt_spec.specs.Machine.Settled.{settled}
use Rattle.vt_spec.specs.Machine.World.{Task, World, task_called}
use Rattle.vt_spec.specs.Machine.Invariants.{IsWorld}
use Rattle.vt_laws_trees.specs.Trees.Calls.{mounts_overlay}
use Rattle.vt_laws_trees.specs.Trees.Limits.{names_few_groups}
use Rattle.vt_laws_worlds.specs.Worlds.Kept.{IsPlain, IsWorldButForUse}

-- the world that the policy leaves when a permit is applied, but for its change numbers
abbrev pub left_by : Fresh ℕ → World ℕ → Task ℕ → Permit ℕ → World ℕ
left_by fresh world task permit = settled nat_eq (apply nat_eq fresh world task permit).world

-- a call of a task for which the permit is given: the task exists, and the numbers handed in are not in use
pub record IsGiven (fresh : Fresh ℕ) (world : World ℕ) (task : Task ℕ) (permit : Permit ℕ) : Type 0 where
  pub serves : Serves nat_eq world fresh
  pub called : task_called world task.name ≡ Some task
  pub call : Call
  pub no_overlay : mounts_overlay call ≡ false
  pub few_groups : names_few_groups call ≡ true
  pub judged : judge_in nat_eq fresh world task call ≡ Ok permit

-- The permit that a call is given, applied in a world, leaves a world,
abbrev pub GivenPermitsLeaveWorlds : Type 0
GivenPermitsLeaveWorlds =
    (world : World ℕ) (fresh : Fresh ℕ) (task : Task ℕ) (permit : Permit ℕ) → IsWorld nat_eq world → IsPlain world
    → IsGiven fresh world task permit
    → IsWorld nat_eq (left_by fresh world task permit) × IsPlain (left_by fresh world task permit)

-- before what nothing uses is gone one in which something may be left that nothing uses,
abbrev pub GivenPermitsAreUnderWay : Type 0
GivenPermitsAreUnderWay =
    (world : World ℕ) (fresh : Fresh ℕ) (task : Task ℕ) (permit : Permit ℕ) → IsWorld nat_eq world → IsPlain world
    → IsGiven fresh world task permit → IsWorldButForUse (apply nat_eq fresh world task permit).world

-- and each world that is the same but for change numbers and the order of numbers beside trees is a world too.
abbrev pub SameIsAWorldToo : Type 0
SameIsAWorldToo =
    (world : World ℕ) (fresh : Fresh ℕ) (task : Task ℕ) (permit : Permit ℕ) (other : World ℕ)
    → IsWorld nat_eq world → IsPlain world → IsGiven fresh world task permit
    → SameWorlds (left_by fresh world task permit) other → IsWorld nat_eq other × IsPlain other
