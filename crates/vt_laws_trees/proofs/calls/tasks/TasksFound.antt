-- Tasks by their names, in lists that are changed.
use Rattle.std.proofs.Common.{arith, ◌≡◌, refl, sym, ◌∙◌, ℕ, Bool, true, false, not, cond, List, [], ◌∷◌, ◌++◌, map, filter, find, Option, Some, None, option_map, nat_eq}
use Rattle.vt_spec.proofs.Common.{Mount, Task, TaskName, common_steps, pivoted_task, raised_task, same_name, same_name_itself, same_task_name}

abbrev pub Found : Type 0
Found = Option (Task ℕ)

abbrev pub called : TaskName → List (Task ℕ) → Found
called name tasks = find (λ task. same_name name task.name) tasks

-- what is found by a name has it
pub found_name : (name : TaskName) (tasks : List (Task ℕ)) (task : Task ℕ) → called name tasks ≡ Some task
    → name ≡ task.name
found_name name [] task e = cc
found_name name (first ∷ rest) task e = grind (arith, common_steps, same_task_name, found_name name rest task)

-- a change that keeps names is found changed
pub find_mapped : (change : Task ℕ → Task ℕ) → ((task : Task ℕ) → (change task).name ≡ task.name)
    → (name : TaskName) (tasks : List (Task ℕ)) → called name (map change tasks) ≡ option_map change (called name tasks)
find_mapped change keeps name [] = refl
find_mapped change keeps name (first ∷ rest) = grind (arith, common_steps, find_mapped change keeps name rest)

-- raising changes the change number alone
pub raised_is : (name : TaskName) (task : Task ℕ)
    → raised_task name task ≡ record task { change = (raised_task name task).change }
raised_is name task = grind (arith, common_steps)

pub pivoted_keeps_name : (namespace : ℕ) (root new : Mount ℕ) (task : Task ℕ)
    → (pivoted_task nat_eq namespace root new task).name ≡ task.name
pivoted_keeps_name namespace root new task = grind (arith, common_steps)

-- without those of a name nobody is found by it
pub none_left : (name : TaskName) (tasks : List (Task ℕ))
    → called name (filter (λ task. not (same_name name task.name)) tasks) ≡ None
none_left name [] = refl
none_left name (first ∷ rest) = grind (arith, common_steps, none_left name rest)

-- and each other one as before
pub others_left : (name other : TaskName) → same_name name other ≡ false → (tasks : List (Task ℕ))
    → called other (filter (λ task. not (same_name name task.name)) tasks) ≡ called other tasks
others_left name other apart [] = refl
others_left name other apart (first ∷ rest) = by _ refl _ refl (others_left name other apart rest)
  where
    stay : List (Task ℕ)
    stay = filter (λ task. not (same_name name task.name)) rest

    by : (b : Bool) → same_name name first.name ≡ b → (c : Bool) → same_name other first.name ≡ c
        → called other stay ≡ called other rest
        → called other (cond (not b) (first ∷ stay) stay) ≡ cond c (Some first) (called other rest)
    by true e true f later =
        let same : name ≡ other = same_task_name name first.name e ∙ sym (same_task_name other first.name f) in
        absurd (cc (same_name_itself name, same, apart))
    by true e false f later = later
    by false e c f later = cc (f, later)

-- one more at the end is found where nobody was
pub find_appended : (B : Found → Type 0) (name : TaskName) (new : Task ℕ) (tasks : List (Task ℕ))
    → B (called name tasks) → (called name tasks ≡ None → B (cond (same_name name new.name) (Some new) None))
    → B (called name (tasks ++ (new ∷ [])))
find_appended B name new [] before later = later refl
find_appended B name new (first ∷ rest) before later = by _ before later (find_appended B name new rest)
  where
    by : (b : Bool) → B (cond b (Some first) (called name rest))
        → (cond b (Some first) (called name rest) ≡ None → B (cond (same_name name new.name) (Some new) None))
        → (B (called name rest) → (called name rest ≡ None → B (cond (same_name name new.name) (Some new) None))
        → B (called name (rest ++ (new ∷ [])))) → B (cond b (Some first) (called name (rest ++ (new ∷ []))))
    by true before later next = before
    by false before later next = next before later
