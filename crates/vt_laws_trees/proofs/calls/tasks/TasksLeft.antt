-- The tasks that each permit leaves, and that settling and raising leave of them.
use Rattle.std.proofs.Common.{arith, ◌≡◌, refl, sym, subst, ℕ, ◌+◌, nat_eq, Bool, true, false, not, ◌||◌, List, [], ◌∷◌, ◌++◌, map, filter, Option, Some, None, unwrap_or, Ok, Err, ok_or}
use Rattle.vt_spec.proofs.Common.{Call, Fresh, Judgement, Permit, Task, TaskName, ToChange, ToClose, ToEnterNamespace, ToExit, ToFork, ToMake, ToOpen, ToOpenNew, ToPivot, ToRemoveDirectory, ToRename, ToSetCredentials, ToSetDirectory, ToSetRoot, ToSetType, ToSetUmask, ToUnmount, ToUnmountLazily, ToUnshare, ToWritePart, World, after, apply, child_of, common_steps, denial, denied, entered_at, evens, filesystems_changed_by, finished, finished_unless, judge_in, mount_at, mount_numbered, mounts_of, namespace_entered, namespace_root, numbers_by, odds, only_looks, pivoted_task, policy, raised_task, replaced_if_called, same_name, task_called, tasks-taken_away, tasks-with_change, tasks-without_replaced, unshared, unshared_task, with_descriptor, without_descriptor, without_task}
use Rattle.vt_laws_rules.proofs.judged.CallsJudged.{policy_judges_then_applies}
use Rattle.vt_spec.specs.declared.errors.Rule.TheVariants.{S2}
use Rattle.vt_laws_trees.proofs.trees.TreesLimits.{lazily_tasks, typed_tasks}
use Rattle.vt_laws_trees.proofs.trees.TreesTasks.{tasks-with_copy, tasks-pwritten}

abbrev Tasks : Type 0
Tasks = List (Task ℕ)

-- the caller in its place
abbrev pub with_new : World ℕ → Task ℕ → Tasks
with_new world new = map (replaced_if_called new) world.tasks

module _ (fresh : Fresh ℕ) (world : World ℕ) (task : Task ℕ) where
  -- the caller as unshare(2) and setns(2) leave it
  abbrev pub alone : Task ℕ
  alone = unshared_task nat_eq (mounts_of nat_eq world task.namespace)
      (numbers_by nat_eq (odds fresh) (mounts_of nat_eq world task.namespace)) (evens fresh 0) task

  abbrev pub entered : ℕ → Task ℕ
  entered namespace = entered_at task namespace (unwrap_or (namespace_root nat_eq world namespace) task.root)

  -- the tasks that a permit leaves
  abbrev pub left_tasks : Permit ℕ → Tasks
  left_tasks (ToOpen file access) = with_new world (with_descriptor task file access)
  left_tasks (ToOpenNew directory name node access) =
      with_new world (with_descriptor task (record { mount = directory.mount; node = evens fresh 0 }) access)
  left_tasks (ToClose descriptor) = with_new world (without_descriptor task descriptor)
  left_tasks (ToSetDirectory directory) = with_new world (record task { directory = directory })
  left_tasks (ToSetRoot root) = with_new world (record task { root = root })
  left_tasks (ToSetUmask umask) = with_new world (record task { umask = umask })
  left_tasks (ToSetCredentials credentials) = with_new world (record task { credentials = credentials })
  left_tasks (ToFork credentials) =
      with_new world (record task { forks = task.forks + 1 }) ++ (child_of task credentials ∷ [])
  left_tasks ToExit = filter (λ other. not (same_name task.name other.name)) world.tasks
  left_tasks ToUnshare = with_new world alone
  left_tasks (ToEnterNamespace namespace) = with_new world (entered namespace)
  left_tasks (ToPivot new put) =
      map (pivoted_task nat_eq task.namespace (mount_at nat_eq world task.root) (mount_numbered nat_eq world new))
      world.tasks
  left_tasks permit = world.tasks

  pub tasks_left : (permit : Permit ℕ) → (apply nat_eq fresh world task permit).world.tasks ≡ left_tasks permit
  tasks_left (ToChange location change) = tasks-with_change fresh world location change
  tasks_left (ToMake directory name node) = tasks-with_change (odds fresh) world directory _
  tasks_left (ToRemoveDirectory parent name directory) =
      grind (arith, common_steps, tasks-with_change, tasks-taken_away)
  tasks_left (ToRename from old to new object replaced) =
      grind (arith, common_steps, tasks-with_change, tasks-without_replaced)
  tasks_left (ToOpen file access) = grind (arith, common_steps, tasks-with_copy)
  tasks_left (ToOpenNew directory name node access) = grind (arith, common_steps, tasks-with_change)
  tasks_left (ToWritePart file offset bytes) = tasks-pwritten fresh world file offset bytes
  tasks_left ToExit = tasks-taken_away (without_task world task.name) _
  tasks_left ToUnshare = tasks-taken_away (unshared nat_eq world fresh task) _
  tasks_left (ToEnterNamespace namespace) = tasks-taken_away (namespace_entered nat_eq world task namespace) _
  tasks_left (ToUnmount mount) = tasks-taken_away world _
  tasks_left (ToUnmountLazily mount) = grind (arith, common_steps, lazily_tasks)
  tasks_left (ToSetType mount word recursive) = typed_tasks fresh world mount word recursive
  tasks_left permit = refl

-- What holds of the tasks where nothing happens, and of those that each granted permit leaves, with the caller's change
-- number raised or not, holds of those after the call.
pub tasks_after_call : (P : Tasks → Type 0) (fresh : Fresh ℕ) (world : World ℕ) (name : TaskName) (call : Call)
    → P world.tasks → ((task : Task ℕ) (permit : Permit ℕ) → task_called world name ≡ Some task
    → judge_in nat_eq fresh world task call ≡ Ok permit
    → P (left_tasks fresh world task permit) × P (map (raised_task name) (left_tasks fresh world task permit)))
    → P (policy nat_eq fresh world name call).world.tasks
tasks_after_call P fresh world name call same done =
    subst (λ outcome. P outcome.world.tasks) (sym (policy_judges_then_applies fresh world name call))
    (by_task (task_called world name) refl)
  where
    by_permit : (changed : List ℕ) (task : Task ℕ) → task_called world name ≡ Some task → (judgement : Judgement ℕ)
        → judge_in nat_eq fresh world task call ≡ judgement → P (finished nat_eq world name call changed
        (after world judgement (apply nat_eq fresh world task))).world.tasks
    by_permit changed task is (Ok permit) judged = by_looks _
      where
        left : (apply nat_eq fresh world task permit).world.tasks ≡ left_tasks fresh world task permit
        left = tasks_left fresh world task permit

        by_looks : (b : Bool)
            → P (finished_unless nat_eq b world name changed (apply nat_eq fresh world task permit)).world.tasks
        by_looks true = subst P (sym left) (done task permit is judged).0
        by_looks false = subst (λ tasks. P (map (raised_task name) tasks)) (sym left) (done task permit is judged).1
    by_permit changed task is (Err deny) judged = by_looks (only_looks call)
      where
        by_looks : (b : Bool) → P (finished_unless nat_eq (b || true) world name changed (denied world deny)).world.tasks
        by_looks true = same
        by_looks false = same

    by_task : (o : Option (Task ℕ)) → task_called world name ≡ o → P (after world (ok_or o (denial S2)) (λ task.
        finished nat_eq world name call (filesystems_changed_by nat_eq world (judge_in nat_eq fresh world task call))
        (after world (judge_in nat_eq fresh world task call) (apply nat_eq fresh world task)))).world.tasks
    by_task None is = same
    by_task (Some task) is = by_permit _ task is (judge_in nat_eq fresh world task call) refl
