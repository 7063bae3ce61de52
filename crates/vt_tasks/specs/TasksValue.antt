-- What contracts see of tasks: a list, as the worlds of the definitions have it.
use Rattle.std.specs.Prelude.{Bool, IsSomeAnd, List, None, Option, Some, [], false, filter, find, if◌then◌else◌, length, map, nat_eq, nat_le, nat_lt, not, true, ℕ, ◌<◌, ◌+◌, ◌++◌, ◌==◌, ◌∷◌, ◌≡◌}
use Rattle.std.specs.List.{AllByRecursion, IsDistinct, list_all}
use Rattle.std.specs.declared.vec.Vec.{Vec}
use Rattle.vt_spec.specs.Language.Calls.{TaskName, same_name}
use Rattle.vt_spec.specs.Language.Limits.{deepest_name, most_descriptors, most_forks}
use Rattle.vt_spec.specs.Lists.{any_pair}
use Rattle.vt_spec.specs.Machine.Mounts.{Location}
use Rattle.vt_spec.specs.Machine.Namespaces.{entered_at}
use Rattle.vt_spec.specs.Machine.Descriptors.{with_descriptor}
use Rattle.vt_spec.specs.Machine.Tasks.{child_of}
use Rattle.vt_spec.specs.Machine.World.{Task, first_task, replaced_if_called}
use Rattle.vt_spec.specs.Machine.Invariants.{are_ascending_from}
use Rattle.vt_spec.specs.Rights.{Credentials}
use Rattle.vt_location.specs.InOrder.{in_order_by}
use Rattle.vt_location.specs.Locations.{location_of}
use Rattle.vt_location.specs.Numbers.{counted}
use Rattle.vt_request.specs.Requests.{access_of}
use Rattle.vt_tasks.specs.declared.descriptors.OpenFile.{OpenFile}
use Rattle.vt_tasks.specs.declared.task.Left.{Left}
use Rattle.vt_tasks.specs.declared.task.Task.{Task as Held}
use Rattle.vt_tasks.specs.TaskValue.{task_of}

abbrev pub Tasks : Type 0
Tasks = List (Task ℕ)

-- the tasks, and how many there ever were
pub record TasksValue : Type 0 where
  pub tasks : Tasks
  pub births : ℕ

-- the first task, with its root and its working directory here
abbrev pub first_task_at : ℕ → Location ℕ → Task ℕ
first_task_at namespace root = entered_at (first_task nat_eq (λ number. namespace)) namespace root

-- the task of a name
abbrev pub called : TaskName → Tasks → Option (Task ℕ)
called name tasks = find (λ task. same_name name task.name) tasks

-- the tasks with this one in the place of the one of its name
abbrev pub replaced : Task ℕ → Tasks → Tasks
replaced task tasks = map (replaced_if_called task) tasks

-- the tasks with that of this name changed, if it is there
abbrev pub changed_by : (Task ℕ → Task ℕ) → Tasks → Option (Task ℕ) → Tasks
changed_by change tasks None = tasks
changed_by change tasks (Some task) = replaced (change task) tasks

abbrev pub changed_called : TaskName → (Task ℕ → Task ℕ) → Tasks → Tasks
changed_called name change tasks = changed_by change tasks (called name tasks)

-- the tasks without that of this name
abbrev pub without_called : TaskName → Tasks → Tasks
without_called name tasks = filter (λ task. not (same_name name task.name)) tasks

-- a task with one more open file, under the least free number: open(2)
abbrev pub with_open : OpenFile → Task ℕ → Task ℕ
with_open opened task = with_descriptor task (location_of opened.location) (access_of opened.access)

-- a task that has forked once more
abbrev pub forked_once : Task ℕ → Task ℕ
forked_once task = record task { forks = task.forks + 1 }

-- the tasks after a fork of this one, with the child after them: fork(2)
abbrev pub with_child_behind : Task ℕ → Task ℕ → Tasks → Tasks
with_child_behind task child tasks = replaced (forked_once task) tasks ++ (child ∷ [])

-- the same where the task is the one of a name, if it is there
abbrev pub forked_by : Credentials → Tasks → Option (Task ℕ) → Tasks
forked_by credentials tasks None = tasks
forked_by credentials tasks (Some task) = with_child_behind task (child_of task credentials) tasks

abbrev pub forked : TaskName → Credentials → Tasks → Tasks
forked name credentials tasks = forked_by credentials tasks (called name tasks)

-- a task's namespace, root and working directory
abbrev pub left_of : Left → ℕ × Location ℕ × Location ℕ
left_of left = (counted left.namespace.count, location_of left.root, location_of left.directory)

abbrev pub left_by : Task ℕ → ℕ × Location ℕ × Location ℕ
left_by task = (task.namespace, task.root, task.directory)

-- the task is there, and may open one file more: RLIMIT_NOFILE of setrlimit(2)
abbrev pub MayOpenMore : Option (Task ℕ) → Type 0
MayOpenMore task = IsSomeAnd task (λ task. length task.descriptors < most_descriptors)

-- the task is there, and may have one child more (profile)
abbrev pub MayFork : Option (Task ℕ) → Type 0
MayFork task = IsSomeAnd task (λ task. (task.forks < most_forks) × (length task.name < deepest_name))

-- no two tasks have the same name
abbrev pub AreNamedApart : Tasks → Type 0
AreNamedApart tasks = any_pair (λ a b. same_name a.name b.name) tasks ≡ false

-- each has its open files in the order of their numbers
abbrev pub has_files_in_order : Task ℕ → Bool
has_files_in_order task = are_ascending_from 0 task.descriptors

-- where a name continues another, the next number is no more than this count of forks
abbrev pub is_of_forks : ℕ → TaskName → TaskName → Bool
is_of_forks forks [] [] = true
is_of_forks forks [] (number ∷ rest) = nat_le number forks
is_of_forks forks (first ∷ name) [] = true
is_of_forks forks (first ∷ name) (number ∷ rest) = if first == number then is_of_forks forks name rest else true

-- no task has the name of a child that another is still to fork
abbrev pub has_given : List TaskName → Task ℕ → Bool
has_given names task = list_all (is_of_forks task.forks task.name) names

abbrev pub names_of : Tasks → List TaskName
names_of tasks = map (λ task. task.name) tasks

abbrev pub are_given_once : Tasks → Bool
are_given_once tasks = list_all (has_given (names_of tasks)) tasks

-- What the map of tasks holds: each task under its name
module _ {A : Type 0} where
  abbrev pub tasks_of : List (Vec ℕ A × Held) → Tasks
  tasks_of entries = map (λ entry. task_of entry.1) entries

  -- each under the number of its birth
  abbrev pub by_birth : List (Vec ℕ A × Held) → List (ℕ × (Vec ℕ A × Held))
  by_birth entries = map (λ entry. (entry.1.birth, entry)) entries

  -- in the order in which the tasks were forked, whatever the order of the map
  abbrev pub in_order : List (Vec ℕ A × Held) → List (Vec ℕ A × Held)
  in_order entries = map (λ one. one.1) (in_order_by (λ birth. birth) (by_birth entries))

  abbrev pub births_of : List (Vec ℕ A × Held) → List ℕ
  births_of entries = map (λ entry. entry.1.birth) entries

  abbrev pub AreKeyed : List (Vec ℕ A × Held) → Type 0
  AreKeyed entries = AllByRecursion (λ entry. entry.0.items ≡ entry.1.name) entries

  abbrev pub AreFit : List (Vec ℕ A × Held) → Type 0
  AreFit entries =
      AreKeyed entries × (are_given_once (tasks_of entries) ≡ true) × AreNamedApart (tasks_of entries)
      × (list_all has_files_in_order (tasks_of entries) ≡ true)

  -- whatever the order of the map, no two tasks have one birth, and all were born before the next one
  pub record AreKept (next : ℕ) (entries : List (Vec ℕ A × Held)) : Type 0 where
    pub fit : AreFit (in_order entries)
    pub apart : IsDistinct nat_eq (births_of entries)
    pub before : list_all (λ birth. nat_lt birth next) (births_of entries) ≡ true

-- kept tasks as the list that they are: in the order of their births
abbrev pub born_in_order : List Held → Tasks
born_in_order kept =
    map (λ one. one.1) (in_order_by (λ birth. birth) (map (λ task. (task.birth, task_of task)) kept))
