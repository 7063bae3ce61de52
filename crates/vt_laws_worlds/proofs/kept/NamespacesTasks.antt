-- Tasks that change, fork and end, and the namespaces that they are in.
use Rattle.std.proofs.Common.{arith, ◌≡◌, refl, sym, ◌∙◌, ⊎_elim, ℕ, nat_eq, Bool, true, false, true≢false, List, [], ◌∷◌, ◌++◌, map}
use Rattle.vt_spec.proofs.Common.{Among, Mount, Namespace, Task, World, among-append, among-append_left, among-from_map, bytes_decides, common_steps, list_any, none_among, or_parts, pivoted_task, replaced_if_called, same_name}
use Rattle.vt_laws_worlds.proofs.kept.NamespacesListed.{IsListedIn, TasksStay, mapped_tasks_stay}
use Rattle.vt_laws_worlds.proofs.TasksNamed.{AreNamedApart}

-- a task is the only one of its name
one_of_its_name : (tasks : List (Task ℕ)) → AreNamedApart tasks → (a b : Task ℕ) → Among a tasks → Among b tasks
    → a.name ≡ b.name → a ≡ b
one_of_its_name [] apart a b m n same = absurd m
one_of_its_name (first ∷ rest) apart a b m n same = ⊎_elim (λ e. ⊎_elim (λ f. cc)
    (λ later. absurd (not_both b later (cc))) n) (λ before. ⊎_elim (λ f. absurd (not_both a before (cc)))
    (λ later. one_of_its_name rest parts.1 a b before later same) n) m
  where
    parts : (list_any (λ (x : Task ℕ). same_name first.name x.name) rest ≡ false) × AreNamedApart rest
    parts = or_parts _ _ apart

    not_both : (other : Task ℕ) → Among other rest → first.name ≡ other.name → ⊥
    not_both other there e = true≢false (sym ((bytes_decides first.name other.name).1 e)
        ∙ none_among _ rest parts.0 other there)

module _ (world : World ℕ) (task : Task ℕ) (apart : AreNamedApart world.tasks) (there : Among task world.tasks) where
  -- a task that stays in its namespace, in the place of the one of its name
  pub replaced_stays : (new : Task ℕ) → new.name ≡ task.name → new.namespace ≡ task.namespace
      → TasksStay world.tasks (map (replaced_if_called new) world.tasks)
  replaced_stays new name namespace = mapped_tasks_stay _ _ (λ old m. by old m _ refl)
    where
      by : (old : Task ℕ) → Among old world.tasks → (b : Bool) → same_name new.name old.name ≡ b
          → (replaced_if_called new old).namespace ≡ old.namespace
      by old m true e =
          let one : task ≡ old =
          one_of_its_name _ apart task old there m (sym name ∙ (bytes_decides new.name old.name).0 e) in
          cc
      by old m false e = cc

  -- and a further one in the same
  pub forked_stays : (new child : Task ℕ) → new.name ≡ task.name → new.namespace ≡ task.namespace
      → child.namespace ≡ task.namespace
      → TasksStay world.tasks (map (replaced_if_called new) world.tasks ++ (child ∷ []))
  forked_stays new child name namespace inside =
      let others = replaced_stays new name namespace in
      let these = map (replaced_if_called new) world.tasks in
      record {
        come = λ other m. ⊎_elim (others.come other) (λ last. ⊎_elim (λ e. (task, there, cc)) (λ none. absurd none)
            last) (among-append these (child ∷ []) other m);
        stay = λ old m.
            let now = others.stay old m in
            (now.0, among-append_left these _ now.0 now.1, now.2);
      }

-- the root and the directory of tasks are others
pub pivoted_stay : (namespace : ℕ) (root new : Mount ℕ) (tasks : List (Task ℕ))
    → TasksStay tasks (map (pivoted_task nat_eq namespace root new) tasks)
pivoted_stay namespace root new tasks = grind (arith, common_steps, mapped_tasks_stay)

-- a task that is in another namespace of the list, in the place of the one of its name
pub replaced_listed : (namespaces : List (Namespace ℕ)) (new : Task ℕ) (tasks : List (Task ℕ))
    → IsListedIn namespaces new.namespace → ((task : Task ℕ) → Among task tasks → IsListedIn namespaces task.namespace)
    → (task : Task ℕ) → Among task (map (replaced_if_called new) tasks) → IsListedIn namespaces task.namespace
replaced_listed namespaces new tasks at old task m =
    let from = among-from_map _ tasks task m in grind (arith, common_steps)
