-- How often tasks use locations and namespaces, where a pivot moves them.
use Rattle.std.proofs.Common.{◌≡◌, ℕ, ◌+◌, Bool, true, false, cond, [], ◌∷◌, if◌then◌else◌, map, nat_eq, refl, sym, ap, ◌∙◌, arith}
use Rattle.vt_spec.proofs.Common.{Location, Mount, Task, pivoted_location, pivoted_task, root_of, same_location, same_location_is}
use Rattle.vt_tasks.proofs.LocationLemmas.{files, total, uses-total, weight}
use Rattle.vt_tasks.specs.Counts.{PivotedTasks, PivotedUses, all_places_at, one_if, places_at}
use Rattle.vt_tasks.specs.TasksValue.{Tasks}

-- so many, where a test passes
abbrev if_so : Bool → ℕ → ℕ
if_so b n = if b then n else 0

if_so-sum : (b : Bool) (m n : ℕ) → if_so b (m + n) ≡ if_so b m + if_so b n
if_so-sum true m n = refl
if_so-sum false m n = refl

module _ (test : Location ℕ → Bool) (namespace : ℕ) (root new : Mount ℕ) where
  abbrev first : Location ℕ
  first = root_of root

  abbrev second : Location ℕ
  second = root_of new

  one_moved : (at : Location ℕ) → one_if (test (pivoted_location nat_eq root new at)) + if_so (test first)
      (one_if (same_location nat_eq at first))
      ≡ one_if (test at) + if_so (test second) (one_if (same_location nat_eq at first))
  one_moved at = by (same_location nat_eq at first) (same_location_is at first)
    where
      none : (b : Bool) → if_so b 0 ≡ 0
      none true = refl
      none false = refl

      by : (b : Bool) → (b ≡ true → at ≡ first) → one_if (test (cond b second at)) + if_so (test first) (one_if b)
          ≡ one_if (test at) + if_so (test second) (one_if b)
      by true same = so (test second) (test first) (test at) (ap test (same refl))
        where
          so : (s f a : Bool) → a ≡ f → one_if s + if_so f 1 ≡ one_if a + if_so s 1
          so s f a is = swapped (one_if s) (one_if f) ∙ ap (λ b. one_if b + if_so s 1) (sym is)
            where
              swapped : (m n : ℕ) → m + n ≡ n + m
              swapped m n = omega arith
      by false same = ap (λ n. one_if (test at) + n) (none (test first) ∙ sym (none (test second)))

  moved : (task : Task ℕ)
      → weight test (pivoted_task nat_eq namespace root new task) + if_so (test first) (places_at namespace first task)
      ≡ weight test task + if_so (test second) (places_at namespace first task)
  moved task = by (nat_eq namespace task.namespace)
    where
      so : (r d p a b r' d' a' b' x y : ℕ) → r + a ≡ r' + a' → d + b ≡ d' + b' → x ≡ a + b → y ≡ a' + b'
          → (r + (d + p)) + x ≡ (r' + (d' + p)) + y
      so r d p a b r' d' a' b' x y e f is other = omega (arith, e, f, is, other)

      none : (b : Bool) → if_so b 0 ≡ 0
      none true = refl
      none false = refl

      by : (b : Bool)
          → weight test (cond b (record task { root = pivoted_location nat_eq root new task.root; directory = pivoted_location nat_eq root new task.directory }) task)
          + if_so (test first) (cond b (one_if (same_location nat_eq task.root first) + one_if
          (same_location nat_eq task.directory first)) 0) ≡ weight test task
          + if_so (test second) (cond b (one_if (same_location nat_eq task.root first) + one_if
          (same_location nat_eq task.directory first)) 0)
      by true =
          let at_root = one_if (same_location nat_eq task.root first) in
          let at_directory = one_if (same_location nat_eq task.directory first) in
          so (one_if (test (pivoted_location nat_eq root new task.root)))
          (one_if (test (pivoted_location nat_eq root new task.directory))) (files test task.descriptors)
          (if_so (test first) at_root) (if_so (test first) at_directory) (one_if (test task.root))
          (one_if (test task.directory))
          (if_so (test second) at_root) (if_so (test second) at_directory) _ _ (one_moved task.root)
          (one_moved task.directory)
          (if_so-sum (test first) at_root at_directory) (if_so-sum (test second) at_root at_directory)
      by false = ap (λ n. weight test task + n) (none (test first) ∙ sym (none (test second)))

  all_moved : (tasks : Tasks)
      → total (weight test) (map (pivoted_task nat_eq namespace root new) tasks) + if_so (test first)
      (all_places_at namespace first tasks)
      ≡ total (weight test) tasks + if_so (test second) (all_places_at namespace first tasks)
  all_moved [] = none (test first) (test second)
    where
      none : (f s : Bool) → 0 + if_so f 0 ≡ 0 + if_so s 0
      none true true = refl
      none true false = refl
      none false true = refl
      none false false = refl
  all_moved (task ∷ tasks) = so _ _ _ _ _ _ _ _ _ _ (moved task) (all_moved tasks)
      (if_so-sum (test first) (places_at namespace first task) (all_places_at namespace first tasks))
      (if_so-sum (test second) (places_at namespace first task) (all_places_at namespace first tasks))
    where
      so : (w t v u x y a b c d : ℕ) → w + x ≡ v + y → t + a ≡ u + b → c ≡ x + a → d ≡ y + b → (w + t) + c ≡ (v + u) + d
      so w t v u x y a b c d e f is other = omega (arith, e, f, is, other)

pub pivoted_uses : PivotedUses
pivoted_uses test tasks namespace root new =
    ap (λ n. n + if_so (test (root_of root)) (all_places_at namespace (root_of root) tasks))
    (uses-total test (map (pivoted_task nat_eq namespace root new) tasks)) ∙ all_moved test namespace root new tasks
    ∙ ap (λ n. n + if_so (test (root_of new)) (all_places_at namespace (root_of root) tasks))
    (sym (uses-total test tasks))

pub pivoted_tasks : PivotedTasks
pivoted_tasks number [] namespace root new = refl
pivoted_tasks number (task ∷ tasks) namespace root new = λ i. one_if (nat_eq number (stays
    (nat_eq namespace task.namespace) i)) + pivoted_tasks number tasks namespace root new i
  where
    stays : (b : Bool) → (cond b (record task { root = pivoted_location nat_eq root new task.root; directory = pivoted_location nat_eq root new task.directory }) task).namespace
        ≡ task.namespace
    stays true = refl
    stays false = refl
