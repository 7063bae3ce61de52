-- A task forks: fork(2).
use Rattle.std.proofs.Common.{◌≡◌, refl, sym, ap, subst, ◌∙◌, inl, inr, ℕ, ◌+◌, nat_eq, Bool, true, false, cond, ◌&&◌, List, [], ◌∷◌, ◌++◌, Some, arith, leb-false, append-nil}
use Rattle.vt_spec.proofs.Common.{Credentials, Task, TaskName, ToFork, all_locations, child_of, flat_map-append, is_located_well, locations_of, map_alike, map_twice, mount_at, same_Some, task_called, without_dead_mounts, common_steps}
use Rattle.vt_ns.proofs.Common.{Among, CountsWhatIsInIt, Filesystems, IsDone, IsHeld, Kept, Merged, MountEntry, Moves, NamespaceEntry, Permits, Tasks, WorldValue, after, all_in_use, among-append_right, among-from_map, among_from_all, among_from_list_all, called, counted, counted_test, given_permits_are_seen_to, is_small_node, kept_of, kept_with, location_of, mounts_of_worlds_stand, namespace_of, number_of, replaced, replaced_split, seen_where_located, standing, supply_of, task_of, times, with_location, with_use, world_of, writes_of, writes_of_task}
use Rattle.vt_laws_mounts.proofs.letting_go.Lists.{among-append_left}
use Rattle.vt_laws_mounts.proofs.letting_go.sweeps.OneByOne.{mounts_go_one_by_one}
use Rattle.vt_laws_mounts.proofs.letting_go.leaving.PlacesLeft.{mounts_but}
use Rattle.vt_location.specs.declared.locations.Location.{Location}
use Rattle.vt_laws_worlds.specs.Permits.Left.{IsGiven}
use Rattle.vt_tasks.specs.Counts.{locations_in, one_if}
use Rattle.vt_tasks.specs.declared.task.Task.{Task as Own}
use Rattle.vt_tasks.specs.TasksValue.{MayFork, forked, forked_once, with_child_behind, forked_by}
use Rattle.vt_laws_mounts.proofs.letting_go.sweeps.UpperUses.{times_append}
use Rattle.vt_mounting.specs.Detach.Forking.{more_tasks, with_task_more}
use Rattle.vt_mounting.proofs.detach.Moving.{nat_eq_turned, only_left}
use Rattle.vt_ns.proofs.world.RemainingTasks.{CountsTasks, remade_in, remains_done_in}
use Rattle.vt_mounting.proofs.detach.Splits.{IsSplit, locations_around, locations_stay, times_replaced, writes_replaced}
use Rattle.vt_spec.specs.Machine.Mounts as meant

writes_append : (mount : ℕ) (xs ys : Tasks) → writes_of mount (xs ++ ys) ≡ writes_of mount xs + writes_of mount ys
writes_append mount [] ys = omega arith
writes_append mount (x ∷ xs) ys = let rest = writes_append mount xs ys in omega (arith, rest)

-- the namespaces with one task more in one of them

module _ (value : WorldValue) (whole : IsHeld value) (count : ℕ) (tasks : Tasks)
    (more : (namespace : ℕ) → times (λ task. nat_eq namespace task.namespace) tasks
    ≡ times (λ task. nat_eq namespace task.namespace) value.tasks + one_if (nat_eq namespace (counted count))) where
  -- a task more is counted in its namespace
  pub task_is_counted : CountsTasks value (with_task_more count value.namespaces) tasks
  task_is_counted = record {
    same = map_twice namespace_of (λ entry. cond (nat_eq count entry.count) (more_tasks entry) entry) value.namespaces
        ∙ map_alike (λ entry. namespace_of
        (cond (nat_eq count entry.count) (more_tasks entry) entry)) namespace_of value.namespaces
        (λ entry m. same_namespace entry (nat_eq count entry.count));
    counts = λ entry m.
        let from = among-from_map (λ one.
        cond (nat_eq count one.count) (more_tasks one) one) value.namespaces entry m in
        let was = among_from_all (CountsWhatIsInIt (world_of value)) value.namespaces whole.namespaces from.0 from.1 in
        subst (λ (one : NamespaceEntry). one.tasks ≡ times (λ task. nat_eq (counted one.count) task.namespace) tasks)
        (sym from.2) (counts_so from.0 was.tasks (nat_eq count from.0.count)
        (counted_test from.0.count count ∙ nat_eq_turned from.0.count count));
  }
    where
      same_namespace : (entry : NamespaceEntry) (b : Bool)
          → namespace_of (cond b (more_tasks entry) entry) ≡ namespace_of entry
      same_namespace entry b = grind (arith, common_steps)

      counts_so : (entry : NamespaceEntry)
          → entry.tasks ≡ times (λ task. nat_eq (counted entry.count) task.namespace) value.tasks
          → (b : Bool) → nat_eq (counted entry.count) (counted count) ≡ b → (cond b (more_tasks entry) entry).tasks
          ≡ times (λ task. nat_eq (counted (cond b (more_tasks entry) entry).count) task.namespace) tasks
      counts_so entry was b e = grind (arith, common_steps)

-- The child is where its parent is.

module _ (value : WorldValue) (whole : IsHeld value) (name : TaskName) (task : Task ℕ)
    (found : task_called (world_of value) name ≡ Some task) (credentials : Credentials) where
  -- the tasks with a child behind its parent
  abbrev pub tasks_forked : Tasks
  tasks_forked = with_child_behind task (child_of task credentials) value.tasks

  abbrev once : Tasks
  once = replaced (forked_once task) value.tasks

  abbrev split : IsSplit task (forked_once task) value.tasks once
  split = replaced_split name value.tasks task (forked_once task) whole.in_world.tasks.one_task found refl

  -- the root and the working directory are there
  place_there : (place : meant.Location ℕ) → Among place (locations_of task)
      → is_located_well nat_eq (world_of value) place ≡ true
  place_there place m = among_from_list_all (is_located_well nat_eq (world_of value))
      (all_locations (world_of value)) whole.in_world.tasks.locations_live place
      (subst (λ all. Among place all) (sym (ap locations_in split.was ∙ locations_around split.front task split.back))
      (among-append_right (locations_in split.front) (locations_of task ++ locations_in split.back) place
      (among-append_left (locations_of task) (locations_in split.back) place m)))

  -- the root of the parent is a location of the world
  pub root_there : is_located_well nat_eq (world_of value) task.root ≡ true
  root_there = place_there task.root (inl refl)

  -- and so is its working directory
  pub directory_there : is_located_well nat_eq (world_of value) task.directory ≡ true
  directory_there = place_there task.directory (inr (inl refl))

  forked_moves : Moves value tasks_forked (standing task.root ∷ standing task.directory ∷ []) []
  forked_moves = record {
    front = locations_in value.tasks;
    back = [];
    was = sym (append-nil (locations_in value.tasks));
    is = flat_map-append locations_of once (child_of task credentials ∷ [])
        ∙ ap (λ all. all ++ (task.root ∷ task.directory ∷ []))
        (locations_stay task (forked_once task) value.tasks once split refl);
    there = (λ i. root_there i && (directory_there i && true));
    writes = λ mount.
        let moved = writes_replaced name value.tasks task
        (forked_once task) whole.in_world.tasks.one_task found refl mount in
        let own : writes_of_task mount (forked_once task) ≡ writes_of_task mount task = refl in
        let all = writes_append mount once (child_of task credentials ∷ []) in
        let is : writes_of mount tasks_forked ≡ writes_of mount value.tasks = omega (arith, moved, own, all) in
        ap (λ k. k + 0) (sym is);
  }

  forked_stays : without_dead_mounts nat_eq (world_of (after value tasks_forked)) ≡ world_of (after value tasks_forked)
  forked_stays = mounts_go_one_by_one (world_of (after value tasks_forked)) []
      (mounts_but (world_of value) tasks_forked [] (all_in_use (world_of value) whole.in_world)
      (mounts_of_worlds_stand (world_of value) whole.in_world)
      (only_left value whole tasks_forked (standing task.root ∷ standing task.directory ∷ []) [] forked_moves))

  forked_inside : (namespace : ℕ) → times (λ one. nat_eq namespace one.namespace) tasks_forked
      ≡ times (λ one. nat_eq namespace one.namespace) value.tasks + one_if (nat_eq namespace task.namespace)
  forked_inside namespace =
      let moved = times_replaced name value.tasks task (forked_once task) whole.in_world.tasks.one_task found refl
      (λ one. nat_eq namespace one.namespace) in
      let all = times_append (λ (one : Task ℕ). nat_eq namespace one.namespace) once (child_of task credentials ∷ []) in
      omega (arith, moved, all)

  -- a fork is done
  pub forked_done : (permit_given : Permits value name (ToFork credentials)) → permit_given.task ≡ task
      → (count : ℕ) → counted count ≡ task.namespace
      → (root directory : Location) → location_of root ≡ task.root → location_of directory ≡ task.directory
      → is_small_node root.node ≡ true → is_small_node directory.node ≡ true
      → (mounts : List MountEntry) (filesystems : Filesystems) (overlays : List Merged)
      → kept_with mounts filesystems overlays ≡ with_location directory false (with_location root false (kept_of value))
      → IsDone value name (ToFork credentials)
      (remade_in value mounts filesystems (with_task_more count value.namespaces) tasks_forked)
  forked_done permits is_task count in_namespace root directory root_is directory_is root_few directory_few mounts
      filesystems overlays is_kept =
      remains_done_in value whole tasks_forked (standing task.root ∷ standing task.directory ∷ []) [] forked_moves
      mounts filesystems overlays (with_task_more count value.namespaces) (is_kept ∙ seen)
      (task_is_counted value whole count tasks_forked (λ namespace. forked_inside namespace
      ∙ ap (λ number. times (λ one. nat_eq namespace one.namespace) value.tasks + one_if (nat_eq namespace number))
      (sym in_namespace))) forked_stays name (ToFork credentials) task (record {
        called = found;
        given = subst (λ one. IsGiven (supply_of value (ToFork credentials)) (world_of value) one
            (ToFork credentials)) is_task permits.given;
        named = refl;
        applied = λ fresh. refl;
      })
    where
      use_at : (place : meant.Location ℕ) (at : Location) → location_of at ≡ place → is_small_node at.node ≡ true
          → is_located_well nat_eq (world_of value) place ≡ true → (k : Kept)
          → with_location at false k ≡ with_use place.mount
          ((mount_at nat_eq (world_of value) place).filesystem, place.node) false k
      use_at place at is few well k = (λ i. with_use (counted at.mount.count) (
        sym (seen_where_located value whole at few
            (subst (λ one. is_located_well nat_eq (world_of value) one ≡ true) (sym is) well)) i,
        number_of at.node,
      ) false k) ∙ ap (λ (one : meant.Location ℕ). with_use one.mount
          ((mount_at nat_eq (world_of value) one).filesystem, one.node) false k) is

      seen : with_location directory false (with_location root false (kept_of value)) ≡ with_use task.directory.mount
          ((mount_at nat_eq (world_of value) task.directory).filesystem, task.directory.node) false
          (with_use task.root.mount ((mount_at nat_eq (world_of value) task.root).filesystem, task.root.node) false
          (kept_of value))
      seen = use_at task.directory directory directory_is directory_few directory_there
          (with_location root false (kept_of value)) ∙ ap (with_use task.directory.mount
          ((mount_at nat_eq (world_of value) task.directory).filesystem, task.directory.node) false)
          (use_at task.root root root_is root_few root_there (kept_of value))

-- the task may fork
pub may_fork : (value : WorldValue) → IsHeld value → (name : TaskName) (credentials : Credentials)
    → Permits value name (ToFork credentials) → MayFork (called name value.tasks)
may_fork value whole name credentials permits =
    let sees = given_permits_are_seen_to (world_of value) (supply_of value (ToFork credentials)) permits.task
    (ToFork credentials) whole.in_world permits.given in
    subst MayFork (sym permits.called) (leb-false _ _ sees.0, leb-false _ _ sees.1)

-- the tasks after a fork, with its child counted in its namespace and where it is
pub task_is_forked : (value : WorldValue) → IsHeld value → (name : TaskName) (credentials : Credentials)
    → Permits value name (ToFork credentials) → (own : Own) → Some (task_of own) ≡ called name value.tasks
    → is_small_node own.root.node ≡ true → is_small_node own.directory.node ≡ true
    → (mounts : List MountEntry) (filesystems : Filesystems) (overlays : List Merged)
    (namespaces : List NamespaceEntry) (tasks : Tasks)
    → namespaces ≡ with_task_more own.namespace.count value.namespaces → tasks ≡ forked name credentials value.tasks
    → kept_with mounts filesystems overlays ≡ with_location own.directory false
    (with_location own.root false (kept_of value))
    → IsDone value name (ToFork credentials) (remade_in value mounts filesystems namespaces tasks)
task_is_forked value whole name credentials permits own is root_few directory_few mounts filesystems overlays namespaces
    tasks counted_so forked_so is_kept =
    let same : task_of own ≡ permits.task = same_Some (task_of own) permits.task (is ∙ permits.called) in
    subst (λ all. IsDone value name (ToFork credentials) (remade_in value mounts filesystems all tasks))
    (sym counted_so) (subst (λ all. IsDone value name (ToFork credentials)
    (remade_in value mounts filesystems (with_task_more own.namespace.count value.namespaces) all))
    (sym (forked_so ∙ ap (forked_by credentials value.tasks) permits.called))
    (forked_done value whole name permits.task permits.called credentials permits refl own.namespace.count
    (ap (λ one. one.namespace) same) own.root own.directory (ap (λ one. one.root) same)
    (ap (λ one. one.directory) same) root_few directory_few mounts filesystems overlays is_kept))
