-- How many roots and working directories of tasks are at a location, in whatever order the tasks are kept.
use Rattle.std.proofs.Common.{◌≡◌, ◌<◌, ◌≤◌, ℕ, ◌+◌, Bool, true, false, cond, List, [], ◌∷◌, get_or, length, map, nat_eq, refl, sym, ap, take, ◌∙◌, arith, sum_by}
use Rattle.vt_spec.proofs.Common.{Location, Task, nat_eq_turned, same_location, sum_by-IsPermutation, sum_by-cons}
use Rattle.std.specs.Int.{from_bool}
use Rattle.std.specs.List.{IsDistinct}
use Rattle.std.specs.declared.vec.Vec.{Vec}
use Rattle.std.proofs.lemmas.List.Sums.{sum_by_more}
use Rattle.vt_location.specs.declared.locations.Location.{Location as At}
use Rattle.vt_location.specs.declared.numbers.NamespaceId.{NamespaceId}
use Rattle.vt_location.specs.Locations.{location_of}
use Rattle.vt_location.specs.Numbers.{counted}
use Rattle.vt_location.proofs.NumberLemmas.{counted_test}
use Rattle.vt_tasks.specs.Counts.{all_places_at, one_if, places_at}
use Rattle.vt_tasks.specs.declared.task.Task.{Task as Held}
use Rattle.vt_tasks.specs.TaskValue.{task_of}
use Rattle.vt_tasks.specs.TasksValue.{Tasks, births_of, in_order, tasks_of}
use Rattle.vt_tasks.proofs.BirthOrder.{permuted}

-- a test as a number
as_number : (b : Bool) → from_bool b ≡ one_if b
as_number true = refl
as_number false = refl

-- of a task in the namespace
pub places_told : (namespace : NamespaceId) (at : At) (held : Held) (root directory : Bool)
    → nat_eq held.namespace.count namespace.count ≡ true
    → root ≡ same_location nat_eq (location_of held.root) (location_of at)
    → directory ≡ same_location nat_eq (location_of held.directory) (location_of at)
    → (one other : ℕ) → one ≡ from_bool root → other ≡ from_bool directory
    → one + other ≡ places_at (counted namespace.count) (location_of at) (task_of held)
places_told namespace at held root directory inside root_is directory_is one other one_is other_is =
    (λ i. (one_is ∙ as_number root ∙ ap one_if root_is) i + (other_is ∙ as_number directory ∙ ap one_if directory_is) i)
    ∙ ap (λ b. cond b (one_if (same_location nat_eq (location_of held.root) (location_of at))
    + one_if (same_location nat_eq (location_of held.directory) (location_of at))) 0)
    (sym (counted_test namespace.count held.namespace.count
    ∙ nat_eq_turned namespace.count held.namespace.count ∙ inside))

module _ (namespace : ℕ) (place : Location ℕ) where
  -- those of a task as it is kept
  abbrev pub held_places : Held → ℕ
  held_places held = places_at namespace place (task_of held)

  pub two_at_most : (task : Task ℕ) → places_at namespace place task ≤ 2
  two_at_most task = by (nat_eq namespace task.namespace) (same_location nat_eq task.root place)
      (same_location nat_eq task.directory place)
    where
      by : (b root directory : Bool) → cond b (one_if root + one_if directory) 0 ≤ 2
      by true true true = omega arith
      by true true false = omega arith
      by true false true = omega arith
      by true false false = omega arith
      by false root directory = omega arith

  -- one more is counted
  pub next_told : (items : List Held) (i : ℕ) (item : Held) (count more : ℕ) → i < length items
      → item ≡ get_or items i item → count ≡ sum_by held_places (take i items) → more ≡ held_places item
      → count + more ≡ sum_by held_places (take (i + 1) items)
  next_told items i item count more within is told more_is =
      (λ j. told j + (more_is ∙ ap held_places is) j) ∙ sym (sum_by_more held_places items i item within)

  as_sum : (tasks : Tasks) → sum_by (places_at namespace place) tasks ≡ all_places_at namespace place tasks
  as_sum [] = refl
  as_sum (task ∷ tasks) = sum_by-cons (places_at namespace place) task tasks
      ∙ ap (λ n. places_at namespace place task + n) (as_sum tasks)

  module _ {A : Type 0} where
    abbrev entry_places : Vec ℕ A × Held → ℕ
    entry_places entry = held_places entry.1

    held_sum : (es : List (Vec ℕ A × Held)) → sum_by held_places (map (λ e. e.1) es) ≡ sum_by entry_places es
    held_sum [] = refl
    held_sum (e ∷ es) = sum_by-cons held_places e.1 (map (λ e. e.1) es) ∙ ap (λ n. held_places e.1 + n) (held_sum es)
        ∙ sym (sum_by-cons entry_places e es)

    tasks_sum : (es : List (Vec ℕ A × Held)) → sum_by (places_at namespace place) (tasks_of es) ≡ sum_by entry_places es
    tasks_sum [] = refl
    tasks_sum (e ∷ es) = sum_by-cons (places_at namespace place) (task_of e.1) (tasks_of es)
        ∙ ap (λ n. held_places e.1 + n) (tasks_sum es) ∙ sym (sum_by-cons entry_places e es)

    -- the order in which tasks are kept does not matter
    pub counted_in_order : (es : List (Vec ℕ A × Held)) → IsDistinct nat_eq (births_of es)
        → sum_by held_places (map (λ e. e.1) es) ≡ all_places_at namespace place (tasks_of (in_order es))
    counted_in_order es apart = held_sum es ∙ sym (sum_by-IsPermutation entry_places es (in_order es)
        (permuted (Vec ℕ A) Held (λ held. held.birth) es apart)) ∙ sym (tasks_sum (in_order es))
        ∙ as_sum (tasks_of (in_order es))
