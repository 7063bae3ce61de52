-- How often tasks use locations and namespaces, before and after one of them changes.
use Rattle.std.specs.Prelude.{Bool, List, Some, [], flat_map, if◌then◌else◌, map, nat_eq, nat_lt, true, ℕ, ◌+◌, ◌∷◌, ◌≡◌}
use Rattle.vt_spec.specs.Language.Calls.{Access, TaskName}
use Rattle.vt_spec.specs.Machine.Mounts.{Location, Mount, root_of, same_location}
use Rattle.vt_spec.specs.Machine.Namespaces.{entered_at, has_tasks, pivoted_task}
use Rattle.vt_spec.specs.Machine.Descriptors.{with_descriptor, without_descriptor}
use Rattle.vt_spec.specs.Machine.Tasks.{child_of}
use Rattle.vt_spec.specs.Machine.Rules.Descriptors.{descriptor_numbered}
use Rattle.vt_spec.specs.Machine.World.{Descriptor, Namespace, Task, World, locations_of}
use Rattle.vt_spec.specs.Machine.Invariants.{are_ascending_from}
use Rattle.vt_spec.specs.Rights.{Credentials}
use Rattle.vt_tasks.specs.TasksValue.{AreNamedApart, Tasks, called, replaced, with_child_behind, without_called}

abbrev pub one_if : Bool → ℕ
one_if b = if b then 1 else 0

-- how many of a list pass
abbrev pub times : {A : Type 0} → (A → Bool) → List A → ℕ
times test [] = 0
times test (a ∷ rest) = one_if (test a) + times test rest

-- the roots, the working directories and the open files of tasks
abbrev pub locations_in : Tasks → List (Location ℕ)
locations_in tasks = flat_map locations_of tasks

-- how many of them pass
abbrev pub uses : (Location ℕ → Bool) → Tasks → ℕ
uses test tasks = times test (locations_in tasks)

-- how many tasks are in a namespace
abbrev pub tasks_in : ℕ → Tasks → ℕ
tasks_in namespace tasks = times (λ task. nat_eq namespace task.namespace) tasks

-- how many of the root and the working directory of a task are at a location, if the task is in the namespace; and of
-- all tasks
abbrev pub places_at : ℕ → Location ℕ → Task ℕ → ℕ
places_at namespace place task =
    if nat_eq namespace task.namespace then
    one_if (same_location nat_eq task.root place) + one_if (same_location nat_eq task.directory place)
    else 0

abbrev pub all_places_at : ℕ → Location ℕ → Tasks → ℕ
all_places_at namespace place [] = 0
all_places_at namespace place (task ∷ tasks) = places_at namespace place task + all_places_at namespace place tasks

-- Locations: `task` is the task of a name

-- whatever replaces a task, under its name
abbrev pub ReplacedUses : Type 0
ReplacedUses =
    (test : Location ℕ → Bool) (name : TaskName) (tasks : Tasks) (task new : Task ℕ) → AreNamedApart tasks
    → called name tasks ≡ Some task → new.name ≡ task.name
    → uses test (replaced new tasks) + times test (locations_of task) ≡ uses test tasks + times test (locations_of new)

abbrev pub DirectoryUses : Type 0
DirectoryUses =
    (test : Location ℕ → Bool) (name : TaskName) (tasks : Tasks) (task : Task ℕ) (directory : Location ℕ)
    → AreNamedApart tasks
    → called name tasks ≡ Some task
    → uses test (replaced (record task { directory = directory }) tasks) + one_if (test task.directory)
    ≡ uses test tasks + one_if (test directory)

abbrev pub RootUses : Type 0
RootUses =
    (test : Location ℕ → Bool) (name : TaskName) (tasks : Tasks) (task : Task ℕ) (root : Location ℕ)
    → AreNamedApart tasks
    → called name tasks ≡ Some task
    → uses test (replaced (record task { root = root }) tasks) + one_if (test task.root)
    ≡ uses test tasks + one_if (test root)

abbrev pub EnteredUses : Type 0
EnteredUses =
    (test : Location ℕ → Bool) (name : TaskName) (tasks : Tasks) (task : Task ℕ) (namespace : ℕ) (root : Location ℕ)
    → AreNamedApart tasks → called name tasks ≡ Some task
    → uses test (replaced (entered_at task namespace root) tasks) +
    (one_if (test task.root) + one_if (test task.directory))
    ≡ uses test tasks + (one_if (test root) + one_if (test root))

abbrev pub MovedUses : Type 0
MovedUses =
    (test : Location ℕ → Bool) (name : TaskName) (tasks : Tasks) (task : Task ℕ) (namespace : ℕ)
    (root directory : Location ℕ)
    → AreNamedApart tasks → called name tasks ≡ Some task
    → uses test (replaced (record task { namespace = namespace; root = root; directory = directory }) tasks)
    + (one_if (test task.root) + one_if (test task.directory))
    ≡ uses test tasks + (one_if (test root) + one_if (test directory))

abbrev pub OpenedUses : Type 0
OpenedUses =
    (test : Location ℕ → Bool) (name : TaskName) (tasks : Tasks) (task : Task ℕ) (file : Location ℕ) (access : Access)
    → AreNamedApart tasks → called name tasks ≡ Some task
    → uses test (replaced (with_descriptor task file access) tasks) ≡ uses test tasks + one_if (test file)

-- a task has its open files in the order of their numbers
abbrev pub ClosedUses : Type 0
ClosedUses =
    (test : Location ℕ → Bool) (name : TaskName) (tasks : Tasks) (task : Task ℕ) (number : ℕ)
    (descriptor : Descriptor ℕ)
    → AreNamedApart tasks → called name tasks ≡ Some task → are_ascending_from 0 task.descriptors ≡ true
    → descriptor_numbered task number ≡ Some descriptor
    → uses test (replaced (without_descriptor task number) tasks) + one_if (test descriptor.location) ≡ uses test tasks

abbrev pub ForkedUses : Type 0
ForkedUses =
    (test : Location ℕ → Bool) (name : TaskName) (tasks : Tasks) (task : Task ℕ) (credentials : Credentials)
    → AreNamedApart tasks → called name tasks ≡ Some task
    → uses test (with_child_behind task (child_of task credentials) tasks)
    ≡ uses test tasks + (one_if (test task.root) + one_if (test task.directory))

abbrev pub ExitedUses : Type 0
ExitedUses =
    (test : Location ℕ → Bool) (name : TaskName) (tasks : Tasks) (task : Task ℕ) → AreNamedApart tasks
    → called name tasks ≡ Some task
    → uses test (without_called name tasks) + times test (locations_of task) ≡ uses test tasks

-- what pivot_root(2) moves was at the root of the first mount, and is at that of the second
abbrev pub PivotedUses : Type 0
PivotedUses =
    (test : Location ℕ → Bool) (tasks : Tasks) (namespace : ℕ) (root new : Mount ℕ)
    → uses test (map (pivoted_task nat_eq namespace root new) tasks)
    + (if test (root_of root) then all_places_at namespace (root_of root) tasks else 0)
    ≡ uses test tasks + (if test (root_of new) then all_places_at namespace (root_of root) tasks else 0)

-- Namespaces

abbrev pub HasTasksWhileCounted : Type 0
HasTasksWhileCounted =
    (world : World ℕ) (namespace : Namespace ℕ)
    → has_tasks nat_eq world namespace ≡ nat_lt 0 (tasks_in namespace.number world.tasks)

abbrev pub ReplacedTasks : Type 0
ReplacedTasks =
    (namespace : ℕ) (name : TaskName) (tasks : Tasks) (task new : Task ℕ) → AreNamedApart tasks
    → called name tasks ≡ Some task → new.name ≡ task.name
    → tasks_in namespace (replaced new tasks) + one_if (nat_eq namespace task.namespace)
    ≡ tasks_in namespace tasks + one_if (nat_eq namespace new.namespace)

abbrev pub PivotedTasks : Type 0
PivotedTasks =
    (number : ℕ) (tasks : Tasks) (namespace : ℕ) (root new : Mount ℕ)
    → tasks_in number (map (pivoted_task nat_eq namespace root new) tasks) ≡ tasks_in number tasks

abbrev pub ForkedTasks : Type 0
ForkedTasks =
    (namespace : ℕ) (name : TaskName) (tasks : Tasks) (task : Task ℕ) (credentials : Credentials) → AreNamedApart tasks
    → called name tasks ≡ Some task
    → tasks_in namespace (with_child_behind task (child_of task credentials) tasks)
    ≡ tasks_in namespace tasks + one_if (nat_eq namespace task.namespace)

abbrev pub ExitedTasks : Type 0
ExitedTasks =
    (namespace : ℕ) (name : TaskName) (tasks : Tasks) (task : Task ℕ) → AreNamedApart tasks
    → called name tasks ≡ Some task
    → tasks_in namespace (without_called name tasks) + one_if (nat_eq namespace task.namespace)
    ≡ tasks_in namespace tasks
