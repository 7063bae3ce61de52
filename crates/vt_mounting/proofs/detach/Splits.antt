-- A list of tasks in which one is replaced.
use Rattle.std.proofs.Common.{◌≡◌, refl, sym, ap, ◌∙◌, ℕ, ◌+◌, Bool, true, false, cond, [], ◌∷◌, ◌++◌, Some, arith}
use Rattle.vt_spec.proofs.Common.{Task, TaskName, flat_map-append, list_any, locations_of, or_parts, same_name}
use Rattle.vt_mounting.proofs.Common.{Tasks, called, locations_in, one_if, replaced, times, writes_of, writes_of_task}
use Rattle.vt_tasks.specs.TasksValue.{AreNamedApart}
use Rattle.vt_tasks.proofs.GivenOnce.{name-of-called}
use Rattle.vt_tasks.proofs.LocationLemmas.{nobody-behind, put-nobody, total, total-replaced}
use Rattle.vt_tasks.proofs.TasksLemmas.{put}

-- one task stands in the place of another
pub record IsSplit (task new : Task ℕ) (tasks after : Tasks) : Type 0 where
  pub front : Tasks
  pub back : Tasks
  pub was : tasks ≡ front ++ (task ∷ back)
  pub is : after ≡ front ++ (new ∷ back)

put_split : (name : TaskName) (tasks : Tasks) {task : Task ℕ} (new : Task ℕ) → AreNamedApart tasks → called name tasks
    ≡ Some task
    → IsSplit task new tasks (put name new tasks)
put_split name [] new apart found = absurd cc
put_split name (first ∷ tasks) {task} new apart found = by (same_name name first.name) refl found
    (put_split name tasks {task = task} new
    (or_parts (list_any (λ (other : Task ℕ). same_name first.name other.name) tasks) _ apart).1)
  where
    by : (b : Bool) → same_name name first.name ≡ b → cond b (Some first) (called name tasks) ≡ Some task
        → (called name tasks ≡ Some task → IsSplit task new tasks (put name new tasks))
        → IsSplit task new (first ∷ tasks) (cond b new first ∷ put name new tasks)
    by true is here rest = record {
      front = [];
      back = tasks;
      was = ap (λ one. one ∷ tasks) (let same : first ≡ task = cc in same);
      is = ap (λ others. new ∷ others) (put-nobody name new tasks (nobody-behind name first tasks apart is));
    }
    by false is here rest = let later = rest here in record {
      front = first ∷ later.front;
      back = later.back;
      was = ap (λ others. first ∷ others) later.was;
      is = ap (λ others. first ∷ others) later.is;
    }

-- the task of a name is replaced in its place
pub replaced_split : (name : TaskName) (tasks : Tasks) (task new : Task ℕ) → AreNamedApart tasks
    → called name tasks ≡ Some task → new.name ≡ task.name → IsSplit task new tasks (replaced new tasks)
replaced_split name tasks task new apart found same =
    let own : new.name ≡ name = same ∙ name-of-called name tasks task found in
    let split = put_split name tasks new apart found in
    record {
      front = split.front;
      back = split.back;
      was = split.was;
      is = ap (λ called_so. put called_so new tasks) own ∙ split.is;
    }

-- the locations of tasks around one
pub locations_around : (front : Tasks) (task : Task ℕ) (back : Tasks)
    → locations_in (front ++ (task ∷ back)) ≡ locations_in front ++ (locations_of task ++ locations_in back)
locations_around front task back = flat_map-append locations_of front (task ∷ back)

-- where a task is replaced by one with the same locations, all locations stay
pub locations_stay : (task new : Task ℕ) (tasks after : Tasks) → IsSplit task new tasks after
    → locations_of new ≡ locations_of task → locations_in after ≡ locations_in tasks
locations_stay task new tasks after split same = ap locations_in split.is ∙ locations_around split.front new split.back
    ∙ ap (λ own. locations_in split.front ++ (own ++ locations_in split.back)) same
    ∙ sym (locations_around split.front task split.back) ∙ sym (ap locations_in split.was)

-- Counts as sums

pub times_total : (test : Task ℕ → Bool) (tasks : Tasks) → times test tasks ≡ total (λ task. one_if (test task)) tasks
times_total test [] = refl
times_total test (task ∷ tasks) = ap (λ rest. one_if (test task) + rest) (times_total test tasks)

pub writes_total : (mount : ℕ) (tasks : Tasks) → writes_of mount tasks ≡ total (writes_of_task mount) tasks
writes_total mount [] = refl
writes_total mount (task ∷ tasks) = ap (λ rest. writes_of_task mount task + rest) (writes_total mount tasks)

module _ (name : TaskName) (tasks : Tasks) (task new : Task ℕ) (apart : AreNamedApart tasks)
    (found : called name tasks ≡ Some task) (same : new.name ≡ task.name) where
  pub times_replaced : (test : Task ℕ → Bool)
      → times test (replaced new tasks) + one_if (test task) ≡ times test tasks + one_if (test new)
  times_replaced test =
      let all = total-replaced (λ other. one_if (test other)) name tasks task new apart found same in
      let was = times_total test tasks in let is = times_total test (replaced new tasks) in omega (arith, all, was, is)

  pub writes_replaced : (mount : ℕ) → writes_of mount (replaced new tasks) + writes_of_task mount task
      ≡ writes_of mount tasks + writes_of_task mount new
  writes_replaced mount =
      let all = total-replaced (writes_of_task mount) name tasks task new apart found same in
      let was = writes_total mount tasks in let is = writes_total mount (replaced new tasks) in omega
      (arith, all, was, is)
