-- Calls on namespaces and tasks in two worlds that are alike.
use Rattle.std.proofs.Common.{arith, ◌≡◌, refl, ap, ℕ, nat_eq, not, ◌&&◌, [], ◌∷◌, ◌++◌, ◌+◌, map, filter}
use Rattle.vt_spec.proofs.Common.{Fresh, Location, Mount, Namespace, Task, TaskName, World, common_steps, copied_mount, evens, has_tasks, holds_of, list_any, mounts_of, namespace_entered, namespaces_ended, numbers_by, odds, pivoted, same_name, unshared, unshared_task, without_task}
use Rattle.vt_laws_trees.proofs.runs.answered.AlikeChanges.{replaced_alike, with_task_alike, with_tasks_alike}
use Rattle.vt_laws_trees.proofs.runs.answered.AlikeMounts.{of_one, taken_alike}
use Rattle.vt_laws_trees.proofs.runs.answered.AlikeWorlds.{Alike, SameNamespace, SameTask, mounts_of_one, with_mounts_of}
use Rattle.vt_laws_trees.proofs.runs.Each.{chosen, each_any, each_append, each_filter, each_map}
use Rattle.vt_spec.specs.Machine.Tasks.{with_child}

-- Tasks
pub without_task_alike : (name : TaskName) (one other : World ℕ) → Alike one other
    → Alike (without_task one name) (without_task other name)
without_task_alike name one other same = with_tasks_alike one other same _ _ (each_filter SameTask _ _
    (λ a b alike. ap (λ task. not (same_name name task.name)) alike) one.tasks other.tasks same.tasks)

pub with_child_alike : (one other : World ℕ) → Alike one other → (task again child : Task ℕ) (newborn : Task ℕ)
    → SameTask task again → SameTask child newborn → Alike (with_child one task child) (with_child other again newborn)
with_child_alike one other same task again child newborn alike born = with_tasks_alike one other same _ _ (each_append _
    _ _ _ _ (replaced_alike _ _ same.tasks _ _ (λ i. record (alike i) { forks = (alike i).forks + 1 })) (born, tt))

-- Namespaces
module _ (one other : World ℕ) (same : Alike one other) where
  has_tasks_same : (a b : Namespace ℕ) → SameNamespace a b → has_tasks nat_eq one a ≡ has_tasks nat_eq other b
  has_tasks_same a b alike = each_any SameTask (λ task. nat_eq a.number task.namespace) _
      (λ task again known. λ i. nat_eq (alike i).number (known i).namespace) one.tasks other.tasks same.tasks

  lives_same : (number : ℕ)
      → list_any (λ (namespace : Namespace ℕ). nat_eq number namespace.number && has_tasks nat_eq one namespace)
      one.namespaces
      ≡ list_any (λ (namespace : Namespace ℕ). nat_eq number namespace.number && has_tasks nat_eq other namespace)
      other.namespaces
  lives_same number = grind (arith, common_steps, each_any, has_tasks_same)

pub ended_alike : (one other : World ℕ) → Alike one other
    → Alike (namespaces_ended nat_eq one) (namespaces_ended nat_eq other)
ended_alike = of_one (namespaces_ended nat_eq) (λ one other same.
    let taken = taken_alike one _ same _ _ (λ i. map (λ (mount : Mount ℕ). mount.number) (filter
    (λ (mount : Mount ℕ). holds_of (λ number. not (lives_same one _ same number i)) mount.namespace) one.mounts)) in
    record {
      mounts = taken.mounts;
      master = taken.master;
      filesystems = taken.filesystems;
      namespaces = each_filter SameNamespace _ _ (has_tasks_same one _ same) one.namespaces _ same.namespaces;
      tasks = taken.tasks;
    })

pub unshared_alike : (fresh : Fresh ℕ) (task again : Task ℕ) → SameTask task again → (one other : World ℕ)
    → Alike one other → Alike (unshared nat_eq one fresh task) (unshared nat_eq other fresh again)
unshared_alike fresh task again alike one other same = mounts_of_one
    (λ world. Alike one world → Alike (unshared nat_eq one fresh task) (unshared nat_eq world fresh again)) one other
    same (λ same. record {
      mounts = λ i. one.mounts
          ++ map (copied_mount (numbers_by nat_eq (odds fresh) (copied i)) (evens fresh 0)) (copied i);
      master = refl;
      filesystems = same.filesystems;
      namespaces = each_append SameNamespace one.namespaces other.namespaces
          (record { number = evens fresh 0; change = 0 } ∷ []) (record { number = evens fresh 0; change = 0 } ∷ [])
          same.namespaces (refl, tt);
      tasks = replaced_alike one.tasks other.tasks same.tasks _ _
          (λ i. unshared_task nat_eq (copied i) (numbers_by nat_eq (odds fresh) (copied i)) (evens fresh 0) (alike i));
    }) same
  where
    copied : mounts_of nat_eq one task.namespace ≡ mounts_of nat_eq one again.namespace
    copied = λ i. mounts_of nat_eq one (alike i).namespace

pub entered_alike : (namespace : ℕ) (task again : Task ℕ) → SameTask task again → (one other : World ℕ)
    → Alike one other
    → Alike (namespace_entered nat_eq one task namespace) (namespace_entered nat_eq other again namespace)
entered_alike namespace task again alike one other same =
    grind (arith, common_steps, mounts_of_one, with_task_alike, with_mounts_of)

pub pivoted_alike : (namespace : ℕ) (root new : Mount ℕ) (put : Location ℕ) (one other : World ℕ) → Alike one other
    → Alike (pivoted nat_eq one namespace root new put) (pivoted nat_eq other namespace root new put)
pivoted_alike namespace root new put = grind (arith, common_steps, of_one, each_map, chosen)
