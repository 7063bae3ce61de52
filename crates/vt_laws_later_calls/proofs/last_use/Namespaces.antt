-- A namespace ends with its last task.
use Rattle.std.proofs.Common.{arith, ◌≡◌, refl, ap, ◌∙◌, ℕ, nat_eq, eqb-true, eq-eqb, Bool, true, false, cond, ◌||◌, List, ◌∷◌, ◌++◌, nat_lt}
use Rattle.vt_spec.proofs.Common.{MountInvariants, Namespace, NamespaceInvariants, Task, World, common_steps, has_tasks, list_any, namespaces_ended, nat_eq-swapped, regrouped_by}
use Rattle.vt_laws_later_calls.proofs.Common.{Among, among_from_list_all, list_all_from_among, no_namespace_ends, one_namespace_ends, with_tasks, without_namespace}
use Rattle.vt_laws_later_calls.specs.LastUse.{NamespaceEndsWithItsLastTask, task_count}
use Rattle.vt_laws_later_calls.proofs.last_use.Groups.{none_lost}
use Rattle.vt_laws_later_calls.proofs.last_use.OneLess.{some_without_another, some_without_it}

module _ {world : World ℕ} (front back : List (Task ℕ)) (task : Task ℕ) (mounts : MountInvariants nat_eq world)
    (namespaces : NamespaceInvariants nat_eq world) (before : world.tasks ≡ front ++ (task ∷ back)) where
  abbrev after : World ℕ
  after = with_tasks world (front ++ back)

  -- some task is in the namespace of this number
  abbrev is_entered : ℕ → Bool
  is_entered number = list_any (λ (other : Task ℕ). nat_eq number other.namespace) (front ++ back)

  -- its own namespace has tasks if it had more
  entered_still : is_entered task.namespace ≡ nat_lt 1 (task_count world task.namespace)
  entered_still = cc (some_without_it (λ (other : Task ℕ). nat_eq task.namespace other.namespace) task
      (eq-eqb task.namespace task.namespace refl) front back)

  -- other namespaces have tasks as before
  entered_as_before : (namespace : Namespace ℕ) → Among namespace world.namespaces
      → nat_eq task.namespace namespace.number ≡ false → has_tasks nat_eq after namespace ≡ true
  entered_as_before namespace m differs = grind
      (arith, common_steps, some_without_another, nat_eq-swapped, among_from_list_all)

  namespace_left : (b : Bool) → is_entered task.namespace ≡ b
      → namespaces_ended nat_eq after ≡ cond b after (without_namespace after task.namespace)
  namespace_left true has = no_namespace_ends after namespaces.mounts_listed (list_all_from_among _ world.namespaces
      (λ namespace m. grind (arith, common_steps, eqb-true, entered_as_before namespace m)))
      ∙ ap (λ lost. regrouped_by nat_eq lost after) (none_lost world mounts)
  namespace_left false none = one_namespace_ends after task.namespace namespaces.mounts_listed none
      (list_all_from_among (λ namespace. nat_eq task.namespace namespace.number || has_tasks nat_eq after namespace)
      world.namespaces (λ namespace m. grind (arith, common_steps, entered_as_before namespace m)))

pub namespace_ends_with_its_last_task : NamespaceEndsWithItsLastTask
namespace_ends_with_its_last_task world front back task mounts namespaces before =
    grind (arith, common_steps, namespace_left, entered_still)
