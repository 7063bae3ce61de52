-- How calls under way restart, and what holds of each state of a scheduler (profile).
use Rattle.std.specs.Prelude.{Bool, Contains, List, None, Option, Some, [], cond, false, filter, find, is_some, length, nat_eq, true, ℕ, ◌&&◌, ◌+◌, ◌<◌, ◌∷◌, ◌≡◌, ◌≤◌, ◌⊎◌}
use Rattle.vt_spec.specs.Language.Calls.{Call, TaskName, same_name}
use Rattle.vt_spec.specs.Language.Limits.{most_restarts}
use Rattle.vt_spec.specs.Language.Script.{Version, whole}
use Rattle.vt_spec.specs.Language.Script.Who.{Someone}
use Rattle.vt_spec.specs.Lists.{Fresh, first_of_list, holds_of}
use Rattle.vt_spec.specs.Machine.Turns.{Item, Progress, Queue, Queued, Sched, Turned, first_sched, is_overtaken, queue_of, same_who, turn}
use Rattle.vt_spec.specs.Machine.Turns.Item.{Asks, Calls, Refused}
use Rattle.vt_spec.specs.Machine.World.{Task, World, task_called}
use Rattle.vt_laws_turns.specs.Commits.{Turn, commits, items_of}

-- what is under way of a task
abbrev pub under_way_of : List (Progress ℕ) → TaskName → Option (Progress ℕ)
under_way_of under_way name = find (λ progress. same_name name progress.task) under_way

-- the first of a task's queue is this call
pub record IsNextOf (sched : Sched ℕ) (task : Task ℕ) (line : ℕ) (call : Call) : Type 0 where
  pub called : task_called sched.world task.name ≡ Some task
  pub first : first_of_list (queue_of sched.queues (Someone task.name))
      ≡ Some (record { line = line; item = Calls call })

-- such a call is under way, and a number that it holds is overtaken, or not
pub record IsUnderWay (sched : Sched ℕ) (task : Task ℕ) (progress : Progress ℕ) (overtaken : Bool) : Type 0 where
  pub under_way : under_way_of sched.under_way task.name ≡ Some progress
  pub numbers : is_overtaken nat_eq sched.world task progress ≡ overtaken

-- After a turn the call of the task is answered, or it is under way with so many restarts and words walked.
abbrev pub IsAnsweredOrAt : Turned ℕ → TaskName → (restarts walked : ℕ) → Type 0
IsAnsweredOrAt turned name restarts walked =
    (is_some turned.reply ≡ true)
    ⊎ ((progress : Progress ℕ) × (under_way_of turned.sched.under_way name ≡ Some progress)
    × (progress.restarts ≡ restarts) × (progress.walked ≡ walked))

-- The first turn of a call walks its first word,
abbrev pub CallsBegin : Type 0
CallsBegin =
    (sched : Sched ℕ) (task : Task ℕ) (line : ℕ) (call : Call) (fresh : Fresh ℕ) → IsNextOf sched task line call
    → under_way_of sched.under_way task.name ≡ None
    → IsAnsweredOrAt (turn nat_eq sched (Someone task.name) (Some fresh)) task.name 0 1

-- each later turn one word more, while no number held is overtaken.
abbrev pub CallsGoOn : Type 0
CallsGoOn =
    (sched : Sched ℕ) (task : Task ℕ) (line : ℕ) (call : Call) (fresh : Fresh ℕ) (progress : Progress ℕ)
    → IsNextOf sched task line call → IsUnderWay sched task progress false
    → IsAnsweredOrAt (turn nat_eq sched (Someone task.name) (Some fresh)) task.name
    progress.restarts (progress.walked + 1)

-- Where one is overtaken the call restarts, if it restarted fewer than three times,
abbrev pub CallsRestart : Type 0
CallsRestart =
    (sched : Sched ℕ) (task : Task ℕ) (line : ℕ) (call : Call) (fresh : Fresh ℕ) (progress : Progress ℕ)
    → IsNextOf sched task line call → IsUnderWay sched task progress true → progress.restarts < most_restarts
    → IsAnsweredOrAt (turn nat_eq sched (Someone task.name) (Some fresh)) task.name (progress.restarts + 1) 1

-- and else this turn answers it.
abbrev pub ThenCallsAreRunWhole : Type 0
ThenCallsAreRunWhole =
    (sched : Sched ℕ) (task : Task ℕ) (line : ℕ) (call : Call) (fresh : Fresh ℕ) (progress : Progress ℕ)
    → IsNextOf sched task line call → IsUnderWay sched task progress true → most_restarts ≤ progress.restarts
    → is_some (turn nat_eq sched (Someone task.name) (Some fresh)).reply ≡ true

-- States of a scheduler

-- an item is a call
abbrev pub is_call : Item → Bool
is_call (Calls call) = true
is_call (Asks directive) = false
is_call (Refused deny) = false

-- a call is first in the queue of a task
abbrev pub has_call_first : List Queue → TaskName → Bool
has_call_first queues name =
    holds_of (λ (queued : Queued). is_call queued.item) (first_of_list (queue_of queues (Someone name)))

-- all that is under way of a task
abbrev pub all_under_way_of : List (Progress ℕ) → TaskName → List (Progress ℕ)
all_under_way_of under_way name = filter (λ progress. same_name name progress.task) under_way

-- The conditions of a scheduler's state: of each task one call at most is under way, which is the first of its queue
-- and has restarted three times at most.
pub record IsSched (sched : Sched ℕ) : Type 0 where
  pub one : (name : TaskName) → length (all_under_way_of sched.under_way name) ≤ 1
  pub first : (progress : Progress ℕ) → Contains sched.under_way progress
      → has_call_first sched.queues progress.task ≡ true
  pub restarts : (progress : Progress ℕ) → Contains sched.under_way progress → progress.restarts ≤ most_restarts

-- A scheduler begins with these conditions, from whatever world and queues; so does that of each script.
abbrev pub SchedulersBegin : Type 0
SchedulersBegin =
    (world : World ℕ) (queues : List Queue) → IsSched (record { world = world; queues = queues; under_way = [] })

abbrev pub ScriptsBegin : Type 0
ScriptsBegin = (version : Version) (script : List ℕ) → IsSched (first_sched (whole version) script)

-- Each turn keeps them.
abbrev pub TurnsKeepSchedulers : Type 0
TurnsKeepSchedulers =
    (sched : Sched ℕ) (given : Turn) → IsSched sched → IsSched (turn nat_eq sched given.0 given.1).sched

-- a turn of the task begins where a number that its call holds is overtaken
abbrev pub finds_overtaken : TaskName → Sched ℕ → Turn → Bool
finds_overtaken name sched given =
    same_who (Someone name) given.0
    && holds_of (λ task. holds_of (λ progress. is_overtaken nat_eq sched.world task progress)
    (under_way_of sched.under_way name)) (task_called sched.world name)

-- how many turns of a schedule do
abbrev pub restarts_in : TaskName → Sched ℕ → List Turn → ℕ
restarts_in name sched [] = 0
restarts_in name sched (given ∷ rest) =
    cond (finds_overtaken name sched given) 1 0
    + restarts_in name (turn nat_eq sched given.0 given.1).sched rest

-- So while a call has no answer at most three of its turns are restarts.
abbrev pub AtMostThreeRestarts : Type 0
AtMostThreeRestarts =
    (sched : Sched ℕ) (schedule : List Turn) (name : TaskName) → IsSched sched
    → items_of (Someone name) (commits sched schedule) ≡ [] → restarts_in name sched schedule ≤ most_restarts
