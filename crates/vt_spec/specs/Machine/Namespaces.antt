-- Mount namespaces: mount_namespaces(7), unshare(2) with CLONE_NEWNS, setns(2), pivot_root(2).
use Rattle.std.specs.Prelude.{Bool, List, Option, Some, [], filter, if◌then◌else◌, map, not, option_map, unwrap_or, ◌&&◌, ◌++◌, ◌∷◌}
use Rattle.std.specs.List.{list_any}
use Rattle.vt_spec.specs.Machine.Detach.{taken_away}
use Rattle.vt_spec.specs.Lists.{Fresh, evens, holds_of, odds}
use Rattle.vt_spec.specs.Machine.Mounts.{Location, Mount, numbers_by, root_of, same_location, topmost}
use Rattle.vt_spec.specs.Machine.World.{Namespace, Task, World, mounts_of, root_mount, with_task}

module _ {N : Type 0} where
  -- a task in a namespace, with its root and working directory there
  abbrev pub entered_at : Task N → N → Location N → Task N
  entered_at task namespace root = record task { namespace = namespace; root = root; directory = root }

  -- Copies of a namespace's mounts; `copy` gives the number of a mount's copy. The copy of a shared mount is a peer of
  -- it, that of a slave has the same master (mount_namespaces(7)).

  -- a location on a mount, on the copy of that mount
  abbrev pub location_on_copy : (N → N) → Location N → Location N
  location_on_copy copy location = record location { mount = copy location.mount }

  -- the copy of a mount in another namespace
  abbrev pub copied_mount : (N → N) → N → Mount N → Mount N
  copied_mount copy namespace mount = record mount {
    number = copy mount.number;
    namespace = Some namespace;
    mount_point = option_map (location_on_copy copy) mount.mount_point;
  }

module _ {N : Type 0} (eq : N → N → Bool) where
  -- the location is on one of these mounts
  abbrev pub is_copied : List (Mount N) → Location N → Bool
  is_copied mounts location = list_any (λ mount. eq location.mount mount.number) mounts

  -- a root or working directory on a copied mount moves to the copy
  abbrev pub moved_location : List (Mount N) → (N → N) → Location N → Location N
  moved_location mounts copy location = if is_copied mounts location then location_on_copy copy location else location

  -- a task in its new namespace, with its root and working directory on copies
  abbrev pub unshared_task : List (Mount N) → (N → N) → N → Task N → Task N
  unshared_task mounts copy namespace task = record task {
    namespace = namespace;
    root = moved_location mounts copy task.root;
    directory = moved_location mounts copy task.directory;
  }

  -- the copies are attached last, in the order of the mounts that are copied
  abbrev pub unshared_by : World N → (N → N) → N → Task N → World N
  unshared_by world copy namespace task = with_task (record world {
    mounts = world.mounts ++ map (copied_mount copy namespace) (mounts_of eq world task.namespace);
    namespaces = world.namespaces ++ (record { number = namespace; change = 0 } ∷ []);
  })
      (unshared_task (mounts_of eq world task.namespace) copy namespace task)

  -- unshare(2) with CLONE_NEWNS: a new namespace for the task, with a copy of each mount of its old one
  abbrev pub unshared : World N → Fresh N → Task N → World N
  unshared world fresh task =
      unshared_by world (numbers_by eq (odds fresh) (mounts_of eq world task.namespace)) (evens fresh 0) task

  -- some task is in the namespace
  abbrev pub has_tasks : World N → Namespace N → Bool
  has_tasks world namespace = list_any (λ task. eq namespace.number task.namespace) world.tasks

  -- the mount is in a namespace that has no task
  abbrev pub is_in_ended : World N → Mount N → Bool
  is_in_ended world mount =
      holds_of (λ number. not (list_any
      (λ namespace. eq number namespace.number && has_tasks world namespace) world.namespaces)) mount.namespace

  -- a namespace ends with its last task: its mounts are detached, without propagation: mount_namespaces(7)
  abbrev pub namespaces_ended : World N → World N
  namespaces_ended world =
      record (taken_away eq world (map (λ mount. mount.number) (filter (is_in_ended world) world.mounts))) {
        namespaces = filter (has_tasks world) world.namespaces;
      }

  -- the root of the topmost mount over the root of a namespace's root mount
  abbrev pub namespace_root : World N → N → Option (Location N)
  namespace_root world namespace =
      option_map (λ mount. topmost eq world.mounts (root_of mount)) (root_mount eq world namespace)

  -- setns(2): the task has its root and working directory at the root of the namespace
  abbrev pub namespace_entered : World N → Task N → N → World N
  namespace_entered world task namespace =
      with_task world (entered_at task namespace (unwrap_or (namespace_root world namespace) task.root))

  -- pivot_root(2): the new mount takes the mount point of the root mount, if any, and the root mount gets a mount point
  -- under the new one
  abbrev pub pivoted_mount : Mount N → Mount N → Location N → Mount N → Mount N
  pivoted_mount root new put mount =
      if eq mount.number new.number then record mount { mount_point = root.mount_point }
      else if eq mount.number root.number then record mount { mount_point = Some put }
      else mount

  -- a location at the root of the old root mount, at the root of the new one
  abbrev pub pivoted_location : Mount N → Mount N → Location N → Location N
  pivoted_location root new location = if same_location eq location (root_of root) then root_of new else location

  -- a root or working directory of the namespace's tasks at the root of the old root mount moves to that of the new one
  abbrev pub pivoted_task : N → Mount N → Mount N → Task N → Task N
  pivoted_task namespace root new task =
      if eq namespace task.namespace then
      record task { root = pivoted_location root new task.root; directory = pivoted_location root new task.directory }
      else task

  -- the world after pivot_root(2). Nothing propagates.
  abbrev pub pivoted : World N → N → Mount N → Mount N → Location N → World N
  pivoted world namespace root new put = record world {
    mounts = map (pivoted_mount root new put) world.mounts;
    tasks = map (pivoted_task namespace root new) world.tasks;
  }
