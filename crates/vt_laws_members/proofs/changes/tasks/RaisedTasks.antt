-- Where tasks change alone, the change numbers of the caller and of the world are raised, and no others.
use Rattle.std.proofs.Common.{arith, ◌≡◌, refl, ℕ, nat_eq, true, List, [], ◌∷◌, map, eq-eqb}
use Rattle.vt_spec.proofs.Common.{Mount, Namespace, Task, TaskName, World, and_from, common_steps, map_same, mounts_of, numbers_raised, raised, raised_if_changed, raised_namespace, raised_task, same_list, same_mount}
use Rattle.vt_laws_sealed.proofs.outsiders.Masters.{same_flags_itself, same_point_itself, same_group_itself, same_propagation_itself}

module _ (before : World ℕ) (name : TaskName) (tasks : List (Task ℕ)) where
  abbrev left : World ℕ
  left = record before { tasks = tasks }

  same_mount_itself : (mount : Mount ℕ) → same_mount nat_eq before left mount mount ≡ true
  same_mount_itself mount = grind (
    arith,
    common_steps,
    and_from,
    eq-eqb,
    same_point_itself,
    same_flags_itself,
    same_propagation_itself,
    same_group_itself,
  )

  pub all_themselves : (list : List (Mount ℕ)) → same_list (same_mount nat_eq before left) list list ≡ true
  all_themselves [] = refl
  all_themselves (mount ∷ list) = and_from _ _ (same_mount_itself mount) (all_themselves list)

  namespace_kept : (namespace : Namespace ℕ) → raised_namespace nat_eq before left namespace ≡ namespace
  namespace_kept namespace = cc (all_themselves (mounts_of nat_eq before namespace.number))

  pub tasks_raised : numbers_raised nat_eq before name [] left
      ≡ record before { tasks = map (raised_task name) tasks; change = raised before.change }
  tasks_raised i = record {
    mounts = before.mounts;
    master = before.master;
    filesystems = map_same (raised_if_changed nat_eq []) before.filesystems (λ f m. refl) i;
    namespaces = map_same (raised_namespace nat_eq before left) before.namespaces (λ n m. namespace_kept n) i;
    tasks = map (raised_task name) tasks;
    change = raised before.change;
  }
