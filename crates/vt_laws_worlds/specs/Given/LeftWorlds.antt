-- The world that a permit leaves, once what is not in use is gone, with overlays too.
use Rattle.std.specs.Prelude.{Ok, Some, nat_eq, true, ℕ, ◌≡◌}
use Rattle.vt_spec.specs.Language.Calls.{Call}
use Rattle.vt_spec.specs.Lists.{Fresh}
use Rattle.vt_spec.specs.Machine.Apply.{apply}
use Rattle.vt_spec.specs.Machine.Invariants.{IsWorld, OverlayInvariants}
use Rattle.vt_spec.specs.Machine.Judge.{judge_in}
use Rattle.vt_spec.specs.Machine.Permits.{Permit}
use Rattle.vt_spec.specs.Machine.Run.{Serves}
use Rattle.vt_spec.specs.Machine.World.{Task, World, task_called}
use Rattle.vt_laws_trees.specs.Trees.Limits.{names_few_groups}
use Rattle.vt_laws_worlds.specs.Worlds.Kept.{IsUnderWay}
use Rattle.vt_laws_worlds.specs.Permits.Left.{left_by}

-- A call of a task for which the permit is given, the mount of an overlay among them: the task exists, the numbers
-- handed in are not in use, and a fork names no more groups than its line may.
pub record IsGivenToTask (fresh : Fresh ℕ) (world : World ℕ) (task : Task ℕ) (permit : Permit ℕ) : Type 0 where
  pub serves : Serves nat_eq world fresh
  pub called : task_called world task.name ≡ Some task
  pub call : Call
  pub few_groups : names_few_groups call ≡ true
  pub judged : judge_in nat_eq fresh world task call ≡ Ok permit

-- The permit that a call is given, applied in a world, leaves a world,
abbrev pub GivenPermitsLeaveEveryWorld : Type 0
GivenPermitsLeaveEveryWorld =
    (world : World ℕ) (fresh : Fresh ℕ) (task : Task ℕ) (permit : Permit ℕ) → IsWorld nat_eq world
    → IsGivenToTask fresh world task permit → IsWorld nat_eq (left_by fresh world task permit)

-- and before what nothing uses is gone one in which something may be left that nothing uses.
abbrev pub GivenPermitsAreUnderWayAnywhere : Type 0
GivenPermitsAreUnderWayAnywhere =
    (world : World ℕ) (fresh : Fresh ℕ) (task : Task ℕ) (permit : Permit ℕ) → IsWorld nat_eq world
    → IsGivenToTask fresh world task permit
    → IsUnderWay (apply nat_eq fresh world task permit).world
    × OverlayInvariants nat_eq (apply nat_eq fresh world task permit).world
