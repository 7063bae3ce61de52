-- Change numbers that are kept beside a world, and how calls raise them (profile).
use Rattle.std.specs.Prelude.{All, List, None, Ok, Some, false, find, if◌then◌else◌, map, nat_eq, ℕ, ◌≡◌}
use Rattle.std.specs.List.{list_any}
use Rattle.vt_spec.specs.Language.Calls.{Call, TaskName, same_name}
use Rattle.vt_spec.specs.Lists.{Fresh}
use Rattle.vt_spec.specs.Machine.Apply.{filesystems_changed}
use Rattle.vt_spec.specs.Machine.Filesystems.{raised}
use Rattle.vt_spec.specs.Machine.Invariants.{IsWorld}
use Rattle.vt_spec.specs.Machine.Judge.{judge_in}
use Rattle.vt_spec.specs.Machine.Permits.{Permit}
use Rattle.vt_spec.specs.Machine.Policy.{only_looks, policy, same_mounts_in}
use Rattle.vt_spec.specs.Machine.Run.{Serves}
use Rattle.vt_spec.specs.Machine.SameWorlds.{SameWorlds}
use Rattle.vt_spec.specs.Machine.World.{Filesystem, Namespace, Task, World, task_called}

-- Worlds that are the same, with all their change numbers
pub record SameDated (one other : World ℕ) : Type 0 where
  pub same : SameWorlds one other
  pub tasks : one.tasks ≡ other.tasks
  pub namespaces : one.namespaces ≡ other.namespaces
  pub filesystems : map (λ (filesystem : Filesystem ℕ). filesystem.change) one.filesystems
      ≡ map (λ (filesystem : Filesystem ℕ). filesystem.change) other.filesystems
  pub change : one.change ≡ other.change

-- change numbers, by what has them
pub record Dates : Type 0 where
  pub tasks : TaskName → ℕ
  pub namespaces : ℕ → ℕ
  pub filesystems : ℕ → ℕ

-- all of them 0
abbrev pub no_dates : Dates
no_dates = record { tasks = λ name. 0; namespaces = λ number. 0; filesystems = λ number. 0 }

-- the world with these change numbers of tasks, namespaces and filesystems, and with its own
abbrev pub dated : Dates → World ℕ → World ℕ
dated dates world = record world {
  filesystems = map (λ (filesystem : Filesystem ℕ).
      record filesystem { change = dates.filesystems filesystem.number }) world.filesystems;
  namespaces = map (λ (namespace : Namespace ℕ).
      record namespace { change = dates.namespaces namespace.number }) world.namespaces;
  tasks = map (λ (task : Task ℕ). record task { change = dates.tasks task.name }) world.tasks;
}

-- a world has these change numbers
pub record HasDates (dates : Dates) (world : World ℕ) : Type 0 where
  pub tasks : All (λ (task : Task ℕ). task.change ≡ dates.tasks task.name) world.tasks
  pub namespaces : All (λ (namespace : Namespace ℕ). namespace.change ≡ dates.namespaces namespace.number)
      world.namespaces
  pub filesystems : All (λ (filesystem : Filesystem ℕ). filesystem.change ≡ dates.filesystems filesystem.number)
      world.filesystems

-- what does not exist has the change number 0
pub record AreOfTheLiving (dates : Dates) (world : World ℕ) : Type 0 where
  pub tasks : (name : TaskName) → task_called world name ≡ None → dates.tasks name ≡ 0
  pub namespaces : (number : ℕ) → find (λ (namespace : Namespace ℕ). nat_eq number namespace.number) world.namespaces ≡ None
      → dates.namespaces number ≡ 0
  pub filesystems : (number : ℕ)
      → find (λ (filesystem : Filesystem ℕ). nat_eq number filesystem.number) world.filesystems ≡ None
      → dates.filesystems number ≡ 0

-- The change numbers after a call of the task of this name that changed these filesystems, and led from the one world to
-- the other: the caller's is raised, that of each of these filesystems, and that of each namespace unless it has the
-- mounts that it had
abbrev pub dates_after : Dates → World ℕ → TaskName → List ℕ → World ℕ → Dates
dates_after dates before name changed later = record {
  tasks = λ other. if same_name name other then raised (dates.tasks other) else dates.tasks other;
  namespaces = λ number. if same_mounts_in nat_eq before later number then dates.namespaces number
      else raised (dates.namespaces number);
  filesystems = λ number. if list_any (λ one. nat_eq one number) changed then raised (dates.filesystems number)
      else dates.filesystems number;
}

-- a call of a task that does not only look is given this permit
pub record IsPermittedChange (world : World ℕ) (fresh : Fresh ℕ) (name : TaskName) (call : Call) (task : Task ℕ)
    (permit : Permit ℕ) : Type 0 where
  pub called : task_called world name ≡ Some task
  pub judged : judge_in nat_eq fresh world task call ≡ Ok permit
  pub changes : only_looks call ≡ false

-- Such a call leaves these change numbers: what is new begins with 0.
abbrev pub DatesFollowCalls : Type 0
DatesFollowCalls =
    (world : World ℕ) (fresh : Fresh ℕ) (name : TaskName) (call : Call) (task : Task ℕ) (permit : Permit ℕ)
    (dates : Dates) → IsWorld nat_eq world → Serves nat_eq world fresh
    → IsPermittedChange world fresh name call task permit → HasDates dates world → AreOfTheLiving dates world
    → HasDates (dates_after dates world name (filesystems_changed nat_eq world permit)
    (policy nat_eq fresh world name call).world) (policy nat_eq fresh world name call).world
