-- The tasks that a permit leaves have the change numbers that they had; a child has 0.
use Rattle.std.proofs.Common.{arith, ◌≡◌, refl, sym, ⊎_elim, ℕ, ◌≤◌, ◌+◌, nat_eq, Bool, true, false, cond, not, List, [], ◌∷◌, ◌++◌, map, Option, Some, None}
use Rattle.vt_spec.proofs.Common.{Among, Fresh, IsWorld, Mount, Permit, Task, TaskName, ToClose, ToEnterNamespace, ToExit, ToFork, ToOpen, ToOpenNew, ToPivot, ToSetCredentials, ToSetDirectory, ToSetRoot, ToSetUmask, ToUnshare, World, among-append, among-from_filter, among-from_map, child_name, child_of, common_steps, contains_from_among, evens, found_among, mount_at, mount_numbered, pivoted_task, replaced_if_called, same_name, task_called, with_descriptor, without_descriptor}
use Rattle.vt_laws_trees.proofs.calls.tasks.TasksFound.{found_name, pivoted_keeps_name}
use Rattle.vt_laws_trees.proofs.calls.tasks.TasksLeft.{alone, entered, left_tasks}

-- tasks have these change numbers, by their names
abbrev pub TasksHave : (TaskName → ℕ) → List (Task ℕ) → Type 0
TasksHave numbers tasks = (task : Task ℕ) → Among task tasks → task.change ≡ numbers task.name

change-pivoted : (namespace : ℕ) (root new : Mount ℕ) (task : Task ℕ)
    → (pivoted_task nat_eq namespace root new task).change ≡ task.change
change-pivoted namespace root new task = grind (arith, common_steps)

module _ (numbers : TaskName → ℕ) where
  -- one in the place of another
  replaced_have : (new : Task ℕ) → new.change ≡ numbers new.name → (tasks : List (Task ℕ)) → TasksHave numbers tasks
      → TasksHave numbers (map (replaced_if_called new) tasks)
  replaced_have new own tasks have task m =
      let from = among-from_map (replaced_if_called new) tasks task m in
      by from.0 (have from.0 from.1) (same_name new.name from.0.name) from.2
    where
      by : (old : Task ℕ) → old.change ≡ numbers old.name → (b : Bool) → task ≡ cond b new old
          → task.change ≡ numbers task.name
      by old has true e = cc
      by old has false e = cc

  added_have : (new : Task ℕ) → new.change ≡ numbers new.name → (tasks : List (Task ℕ)) → TasksHave numbers tasks
      → TasksHave numbers (tasks ++ (new ∷ []))
  added_have new own tasks have task m = ⊎_elim (have task) (λ last. ⊎_elim (λ e. cc) (λ none. absurd none) last)
      (among-append tasks (new ∷ []) task m)

  module _ (world : World ℕ) (fresh : Fresh ℕ) (task : Task ℕ) (own : task.change ≡ numbers task.name)
      (unborn : 0 ≡ numbers (child_name task)) (have : TasksHave numbers world.tasks) where
    placed : (new : Task ℕ) → new.change ≡ numbers new.name
        → TasksHave numbers (map (replaced_if_called new) world.tasks)
    placed new is = replaced_have new is world.tasks have

    pivoted_have : (mount : ℕ) → TasksHave numbers (left_tasks fresh world task (ToPivot mount task.root))
    pivoted_have mount one m =
        let root = mount_at nat_eq world task.root in
        let there = mount_numbered nat_eq world mount in
        let from = among-from_map (pivoted_task nat_eq task.namespace root there) world.tasks one m in
        let name : one.name ≡ from.0.name = cc (from.2, pivoted_keeps_name task.namespace root there from.0) in
        let change : one.change ≡ from.0.change = cc (from.2, change-pivoted task.namespace root there from.0) in
        cc (name, change, have from.0 from.1)

    pub left_have : (permit : Permit ℕ) → TasksHave numbers (left_tasks fresh world task permit)
    left_have (ToOpen file access) = placed (with_descriptor task file access) own
    left_have (ToOpenNew directory name node access) =
        placed (with_descriptor task (record { mount = directory.mount; node = evens fresh 0 }) access) own
    left_have (ToClose descriptor) = placed (without_descriptor task descriptor) own
    left_have (ToSetDirectory directory) = placed (record task { directory = directory }) own
    left_have (ToSetRoot root) = placed (record task { root = root }) own
    left_have (ToSetUmask umask) = placed (record task { umask = umask }) own
    left_have (ToSetCredentials credentials) = placed (record task { credentials = credentials }) own
    left_have (ToFork credentials) =
        added_have (child_of task credentials) unborn (map (replaced_if_called (record task { forks = task.forks + 1 }))
        world.tasks) (placed (record task { forks = task.forks + 1 }) own)
    left_have ToExit = λ one m.
        have one (among-from_filter (λ (other : Task ℕ). not (same_name task.name other.name)) world.tasks one m).0
    left_have ToUnshare = placed (alone fresh world task) own
    left_have (ToEnterNamespace namespace) = placed (entered fresh world task namespace) own
    left_have (ToPivot mount put) = pivoted_have mount
    left_have permit = have

-- the next child of a task has a name that no task has
pub child_is_unborn : (world : World ℕ) → IsWorld nat_eq world → (name : TaskName) (task : Task ℕ)
    → task_called world name ≡ Some task → task_called world (child_name task) ≡ None
child_is_unborn world is name task called = by (task_called world (child_name task)) refl
  where
    by : (found : Option (Task ℕ)) → task_called world (child_name task) ≡ found
        → task_called world (child_name task) ≡ None
    by None e = e
    by (Some other) e =
        let more : task.forks + 1 ≤ task.forks = is.tasks.forks_counted task other (task.forks + 1) []
        (contains_from_among world.tasks task (found_among _ world.tasks task called))
        (contains_from_among world.tasks other (found_among _ world.tasks other e))
        (sym (found_name (child_name task) world.tasks other e)) in
        absurd (omega (arith, more))
