-- The filesystems that calls under way hold are seen by their tasks (profile).
use Rattle.std.specs.Prelude.{Contains, List, Some, [], false, is_some, nat_eq, true, Bool, ℕ, ⊤, ◌||◌, ◌∷◌, ◌≡◌, ◌≤◌, ◌⊎◌}
use Rattle.std.specs.List.{list_any}
use Rattle.vt_spec.specs.Language.Calls.{Call}
use Rattle.vt_spec.specs.Language.Script.{Version, lines_of, whole}
use Rattle.vt_spec.specs.Lists.{Fresh, first_of_list}
use Rattle.vt_spec.specs.Machine.Invariants.{IsWorld}
use Rattle.vt_spec.specs.Machine.Run.{Serves}
use Rattle.vt_spec.specs.Machine.Turns.{Progress, Queue, Sched, first_sched, is_stale, last_number, namespace_change_of, queue_of, turn}
use Rattle.vt_spec.specs.Machine.Turns.Item.{Calls}
use Rattle.vt_spec.specs.Machine.World.{Task, World, mount_at, mounts_of, task_called}
use Rattle.vt_laws_trees.specs.Trees.Limits.{names_few_groups}
use Rattle.vt_laws_turns.specs.Commits.{Turn, left_by, turns_given}
use Rattle.vt_laws_turns.specs.Walks.ByWords.{Aim}
use Rattle.vt_laws_turns.specs.Walks.HalfWalks.{met_in, words_walked_in}

-- a filesystem is seen by a task: a mount of its namespace shows it, or the mount under its root or working directory
abbrev pub is_seen_by : World ℕ → Task ℕ → ℕ → Bool
is_seen_by world task filesystem =
    list_any (λ mount. nat_eq filesystem mount.filesystem) (mounts_of nat_eq world task.namespace)
    || nat_eq filesystem (mount_at nat_eq world task.root).filesystem
    || nat_eq filesystem (mount_at nat_eq world task.directory).filesystem

-- Each filesystem that the first words of a path meet is seen by the task that walks them.
abbrev pub WordsMeetWhatIsSeen : Type 0
WordsMeetWhatIsSeen =
    (world : World ℕ) (task : Task ℕ) (aim : Aim) (path : List ℕ) (count : ℕ) → IsWorld nat_eq world
    → task_called world task.name ≡ Some task → (filesystem : ℕ)
    → Contains (met_in (words_walked_in count world task aim path)) filesystem
    → is_seen_by world task filesystem ≡ true

-- a call of a task is under way
pub record IsUnderWayOf (sched : Sched ℕ) (task : Task ℕ) (progress : Progress ℕ) : Type 0 where
  pub under_way : Contains sched.under_way progress
  pub called : task_called sched.world progress.task ≡ Some task

-- the numbers that it holds of its task and of its namespace are current, and may rise further
pub record HoldsItsTask (world : World ℕ) (task : Task ℕ) (progress : Progress ℕ) : Type 0 where
  pub task_change : is_stale progress.task_change task.change ≡ false
  pub namespace_change : is_stale progress.namespace_change (namespace_change_of nat_eq world task.namespace) ≡ false

-- While they are, each filesystem that it holds is seen by its task.
abbrev pub FilesystemsHeldAreSeen : Sched ℕ → Type 0
FilesystemsHeldAreSeen sched =
    (task : Task ℕ) (progress : Progress ℕ) → IsUnderWayOf sched task progress
    → HoldsItsTask sched.world task progress → (held : ℕ × ℕ) → Contains progress.filesystems held
    → is_seen_by sched.world task held.0 ≡ true

-- a number that is held is no more than the current one, unless that can rise no more
abbrev pub IsNoMore : ℕ → ℕ → Type 0
IsNoMore held now = (held ≤ now) ⊎ (now ≡ last_number)

-- So it is in states in which the task of each call under way exists, and the numbers that the call holds of its task
-- and of its namespace are no more than the current ones.
pub record HoldsWhatIsSeen (sched : Sched ℕ) : Type 0 where
  pub there : (progress : Progress ℕ) → Contains sched.under_way progress
      → is_some (task_called sched.world progress.task) ≡ true
  pub no_more : (task : Task ℕ) (progress : Progress ℕ) → IsUnderWayOf sched task progress
      → IsNoMore progress.task_change task.change
      × IsNoMore progress.namespace_change (namespace_change_of nat_eq sched.world task.namespace)
  pub seen : FilesystemsHeldAreSeen sched

-- Each scheduler begins so, from whatever world and queues.
abbrev pub SchedulersBeginSo : Type 0
SchedulersBeginSo =
    (world : World ℕ) (queues : List Queue)
    → HoldsWhatIsSeen (record { world = world; queues = queues; under_way = [] })

-- a turn by numbers that are not in use; a fork that is the first of its queue names few groups
pub record IsFitTurn (sched : Sched ℕ) (given : Turn) : Type 0 where
  pub serves : (fresh : Fresh ℕ) → given.1 ≡ Some fresh → Serves nat_eq sched.world fresh
  pub few_groups : (line : ℕ) (call : Call)
      → first_of_list (queue_of sched.queues given.0) ≡ Some (record { line = line; item = Calls call })
      → names_few_groups call ≡ true

-- Each turn keeps it, and the invariants of the world.
abbrev pub TurnsHoldWhatIsSeen : Type 0
TurnsHoldWhatIsSeen =
    (sched : Sched ℕ) (given : Turn) → IsWorld nat_eq sched.world → HoldsWhatIsSeen sched → IsFitTurn sched given
    → IsWorld nat_eq (turn nat_eq sched given.0 given.1).sched.world
    × HoldsWhatIsSeen (turn nat_eq sched given.0 given.1).sched

-- turns of a schedule, each in the state that those before it leave
abbrev pub AreFitTurns : Sched ℕ → List Turn → Type 0
AreFitTurns sched [] = ⊤
AreFitTurns sched (given ∷ rest) =
    IsFitTurn sched given × AreFitTurns (turn nat_eq sched given.0 given.1).sched rest

-- So does each schedule.
abbrev pub SchedulesHoldWhatIsSeen : Type 0
SchedulesHoldWhatIsSeen =
    (sched : Sched ℕ) (schedule : List Turn) → IsWorld nat_eq sched.world → HoldsWhatIsSeen sched
    → AreFitTurns sched schedule
    → IsWorld nat_eq (left_by sched schedule).world × HoldsWhatIsSeen (left_by sched schedule)

-- So in each state that a schedule of a script's queues leads to, the calls under way hold what their tasks see.
abbrev pub SchedulesOfScriptsHoldWhatIsSeen : Type 0
SchedulesOfScriptsHoldWhatIsSeen =
    (version : Version) (refused : List Bool) (script schedule : List ℕ)
    → HoldsWhatIsSeen (left_by (first_sched (whole version) script) (turns_given 1 (lines_of schedule) refused))
