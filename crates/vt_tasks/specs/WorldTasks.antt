-- A list of tasks changes as the tasks of a world do.
use Rattle.std.specs.Prelude.{Some, [], map, ℕ, ◌∷◌, ◌≡◌, nat_eq}
use Rattle.vt_spec.specs.Language.Calls.{TaskName}
use Rattle.vt_spec.specs.Lists.{Fresh}
use Rattle.vt_spec.specs.Machine.Mounts.{Location, Mount}
use Rattle.vt_spec.specs.Machine.Namespaces.{pivoted, pivoted_task}
use Rattle.vt_spec.specs.Machine.Tasks.{with_child}
use Rattle.vt_spec.specs.Machine.World.{Task, World, all_locations, first_location, opening, task_called, with_task, without_task}
use Rattle.vt_tasks.specs.Counts.{locations_in}
use Rattle.vt_tasks.specs.TasksValue.{Tasks, called, changed_called, first_task_at, replaced, with_child_behind, without_called}

abbrev pub OpensWithTheFirst : Type 0
OpensWithTheFirst =
    (fresh : Fresh ℕ) → (opening nat_eq fresh).tasks ≡ first_task_at (fresh 1) (first_location nat_eq fresh) ∷ []

abbrev pub OneIsCalled : Type 0
OneIsCalled = (world : World ℕ) (name : TaskName) → task_called world name ≡ called name world.tasks

abbrev pub OneIsReplaced : Type 0
OneIsReplaced = (world : World ℕ) (task : Task ℕ) → (with_task world task).tasks ≡ replaced task world.tasks

abbrev pub OneGoes : Type 0
OneGoes = (world : World ℕ) (name : TaskName) → (without_task world name).tasks ≡ without_called name world.tasks

abbrev pub OneIsForked : Type 0
OneIsForked =
    (world : World ℕ) (task child : Task ℕ)
    → (with_child world task child).tasks ≡ with_child_behind task child world.tasks

abbrev pub TasksArePivoted : Type 0
TasksArePivoted =
    (world : World ℕ) (namespace : ℕ) (root new : Mount ℕ) (put : Location ℕ)
    → (pivoted nat_eq world namespace root new put).tasks ≡ map (pivoted_task nat_eq namespace root new) world.tasks

abbrev pub LocationsAreOfTasks : Type 0
LocationsAreOfTasks = (world : World ℕ) → all_locations world ≡ locations_in world.tasks

-- the task of a name that is changed is replaced
abbrev pub TheCalledIsReplaced : Type 0
TheCalledIsReplaced =
    (name : TaskName) (change : Task ℕ → Task ℕ) (tasks : Tasks) (task : Task ℕ) → called name tasks ≡ Some task
    → changed_called name change tasks ≡ replaced (change task) tasks

-- and it has that name
abbrev pub TheCalledHasTheName : Type 0
TheCalledHasTheName =
    (name : TaskName) (tasks : Tasks) (task : Task ℕ) → called name tasks ≡ Some task → task.name ≡ name
