-- What a turn leaves of a call, in terms of the change numbers of its task and namespace (profile).
use Rattle.std.specs.Prelude.{Bool, List, None, Ok, Option, Some, [], find, if◌then◌else◌, is_ok, nat_eq, nat_le, option_map, option_to_list, slice_get, ℕ, ◌++◌, ◌+◌, ◌||◌, ◌≡◌}
use Rattle.std.specs.List.{list_any}
use Rattle.vt_spec.specs.Errors.{unless}
use Rattle.vt_spec.specs.Language.Calls.{Call, TaskName, same_name}
use Rattle.vt_spec.specs.Language.Limits.{most_restarts}
use Rattle.vt_spec.specs.Lists.{holds_of, then_some}
use Rattle.vt_spec.specs.Machine.Looks.{looks_of}
use Rattle.vt_spec.specs.Machine.Turns.{Progress, Route, entry_rules, filesystem_change_of, hold_one, is_failing, is_stale, namespace_change_of, one_further, routes, without_progress, words_of}
use Rattle.vt_spec.specs.Machine.World.{Task, World, task_called}
use Rattle.vt_turns.specs.declared.progress.Numbers.{Numbers}

-- the change numbers of a task and of its namespace
abbrev pub numbers_of : World ℕ → Task ℕ → Numbers
numbers_of world task =
    record { task = task.change; namespace = namespace_change_of nat_eq world task.namespace }

abbrev pub numbers_in : World ℕ → TaskName → Option Numbers
numbers_in world name = option_map (numbers_of world) (task_called world name)

-- the S and K rules that a first turn checks let the call pass
abbrev pub begins_by : World ℕ → Call → Task ℕ → Bool
begins_by world call task = is_ok (unless (entry_rules nat_eq (looks_of nat_eq world) task call) (Ok call))

abbrev pub call_begins : World ℕ → TaskName → Call → Bool
call_begins world name call = holds_of (begins_by world call) (task_called world name)

-- What the next word on these routes meets, after so many; nothing where the turn is the call's last: no word is left,
-- or its step fails.
abbrev pub met_on : List (Route ℕ) → ℕ → Option (List ℕ)
met_on ways walked = if is_failing ways walked then None else slice_get (words_of ways) walked

abbrev pub next_met : World ℕ → TaskName → Call → ℕ → Option (List ℕ)
next_met world name call walked =
    then_some (task_called world name) (λ task. met_on (routes nat_eq (looks_of nat_eq world) task call) walked)

-- What the words of a call meet, as turns walk them, the first one first: but for one whose step fails.
abbrev pub AreWords : World ℕ → TaskName → Call → List (List ℕ) → Type 0
AreWords world name call words = (walked : ℕ) → slice_get words walked ≡ next_met world name call walked

-- a call before its first word
abbrev pub begun : TaskName → Numbers → ℕ → Progress ℕ
begun name numbers restarts = record {
  task = name;
  walked = 0;
  restarts = restarts;
  task_change = numbers.task;
  namespace_change = numbers.namespace;
  filesystems = [];
}

-- the number of one of these filesystems is another now, or can rise no more
abbrev pub is_any_stale : World ℕ → List (ℕ × ℕ) → Bool
is_any_stale world held = list_any (λ one. is_stale one.1 (filesystem_change_of nat_eq world one.0)) held

-- so is one of the numbers held
abbrev pub overtaken_in : World ℕ → Numbers → Progress ℕ → Bool
overtaken_in world numbers progress =
    is_stale progress.task_change numbers.task
    || is_stale progress.namespace_change numbers.namespace
    || is_any_stale world progress.filesystems

-- the number of a filesystem is held too
abbrev pub also_holding : World ℕ → Progress ℕ → ℕ → Progress ℕ
also_holding world progress number =
    record progress { filesystems = hold_one nat_eq world progress.filesystems number }

-- What a turn leaves of a call that goes on, or nothing, where it is run whole: the next word is walked,
abbrev pub further_in : World ℕ → Call → Progress ℕ → Option (Progress ℕ)
further_in world call progress =
    option_map (λ met. one_further nat_eq world met progress) (next_met world progress.task call progress.walked)

-- or the first one,
abbrev pub first_in : World ℕ → Call → TaskName → Numbers → ℕ → Option (Progress ℕ)
first_in world call name numbers restarts =
    if call_begins world name call then further_in world call (begun name numbers restarts) else None

-- again, unless it restarted as often as it may,
abbrev pub again_in : World ℕ → Call → TaskName → Numbers → Progress ℕ → Option (Progress ℕ)
again_in world call name numbers progress =
    if nat_le most_restarts progress.restarts then None
    else first_in world call name numbers (progress.restarts + 1)

-- by what was walked of it.
abbrev pub gone_on_in : World ℕ → Call → TaskName → Numbers → Option (Progress ℕ) → Option (Progress ℕ)
gone_on_in world call name numbers None = first_in world call name numbers 0
gone_on_in world call name numbers (Some progress) =
    if overtaken_in world numbers progress then again_in world call name numbers progress
    else further_in world call progress

-- the call of a task that is under way
abbrev pub found_under_way : List (Progress ℕ) → TaskName → Option (Progress ℕ)
found_under_way under_way name = find (λ progress. same_name name progress.task) under_way

-- What a turn of a task leaves of its call, by what was walked of it; nothing, where there is no such task,
abbrev pub walked_by : World ℕ → TaskName → Call → Option (Progress ℕ) → Option (Progress ℕ)
walked_by world name call held = then_some (numbers_in world name) (λ numbers. gone_on_in world call name numbers held)

-- and so where these calls are under way.
abbrev pub walked_in : World ℕ → TaskName → Call → List (Progress ℕ) → Option (Progress ℕ)
walked_in world name call under_way = walked_by world name call (found_under_way under_way name)

-- the calls under way after it
abbrev pub left_under_way : TaskName → Option (Progress ℕ) → List (Progress ℕ) → List (Progress ℕ)
left_under_way name next under_way = option_to_list next ++ without_progress name under_way
