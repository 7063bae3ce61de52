-- How often tasks use locations and namespaces, where one of them changes.
use Rattle.std.proofs.Common.{◌≡◌, ◌<◌, ℕ, ◌+◌, ◌||◌, Bool, true, false, cond, List, [], ◌∷◌, ◌++◌, filter, map, nat_eq, not, Some, refl, ap, ◌∙◌, arith, ne_eqb, find, nat_lt, eqb-true, leb-true}
use Rattle.vt_spec.proofs.Common.{Descriptor, Location, Task, TaskName, and_true_left, and_true_right, are_ascending_from, child_of, free_number, inserted, list_any, locations_of, one_more_is_some, opens_for_reading, opens_for_writing, or_parts, same_name, same_task_name, with_descriptor, without_descriptor}
use Rattle.std.proofs.lemmas.List.Concat.{flat_map-cons}
use Rattle.vt_tasks.proofs.GivenOnce.{name-of-called}
use Rattle.vt_tasks.proofs.TasksLemmas.{put}
use Rattle.vt_tasks.specs.Counts.{ClosedUses, DirectoryUses, EnteredUses, ExitedTasks, ExitedUses, ForkedTasks, ForkedUses, HasTasksWhileCounted, MovedUses, OpenedUses, ReplacedTasks, ReplacedUses, RootUses, locations_in, one_if, tasks_in, times, uses}
use Rattle.vt_tasks.specs.TasksValue.{AreNamedApart, Tasks, called, forked_once, replaced, without_called}
use Rattle.vt_spec.proofs.Truths.{as_many_with_none}

-- Where no task has a name, none is replaced,
pub put-nobody : (name : TaskName) (new : Task ℕ) (tasks : Tasks)
    → list_any (λ task. same_name name task.name) tasks ≡ false → put name new tasks ≡ tasks
put-nobody name new [] none = refl
put-nobody name new (task ∷ tasks) none =
    let parts = or_parts (same_name name task.name) _ none in
    λ i. cond (parts.0 i) new task ∷ put-nobody name new tasks parts.1 i

-- and none is taken out
pub without-nobody : (name : TaskName) (tasks : Tasks) → list_any (λ task. same_name name task.name) tasks ≡ false
    → without_called name tasks ≡ tasks
without-nobody name [] none = refl
without-nobody name (task ∷ tasks) none =
    let parts = or_parts (same_name name task.name) _ none in
    ap (λ b. cond (not b) (task ∷ without_called name tasks) (without_called name tasks)) parts.0
    ∙ ap (λ rest. task ∷ rest) (without-nobody name tasks parts.1)

-- behind a task with a name, no task has that name
pub nobody-behind : (name : TaskName) (first : Task ℕ) (tasks : Tasks) → AreNamedApart (first ∷ tasks)
    → same_name name first.name ≡ true → list_any (λ task. same_name name task.name) tasks ≡ false
nobody-behind name first tasks apart is =
    ap (λ own. list_any (λ (task : Task ℕ). same_name own task.name) tasks) (same_task_name name first.name is)
    ∙ (or_parts (list_any (λ (task : Task ℕ). same_name first.name task.name) tasks) _ apart).0

apart-behind-first : (first : Task ℕ) (tasks : Tasks) → AreNamedApart (first ∷ tasks) → AreNamedApart tasks
apart-behind-first first tasks apart =
    (or_parts (list_any (λ (task : Task ℕ). same_name first.name task.name) tasks) _ apart).1

-- A sum over tasks, where one changes or goes

module _ (weigh : Task ℕ → ℕ) where
  abbrev pub total : Tasks → ℕ
  total [] = 0
  total (task ∷ tasks) = weigh task + total tasks

  total-put : (name : TaskName) (tasks : Tasks) (task new : Task ℕ) → AreNamedApart tasks
      → called name tasks ≡ Some task → total (put name new tasks) + weigh task ≡ total tasks + weigh new
  total-put name [] task new apart found = absurd cc
  total-put name (first ∷ tasks) task new apart found =
      by (same_name name first.name) refl found (total-put name tasks task new (apart-behind-first first tasks apart))
    where
      here_so : (a b w v u t : ℕ) → u ≡ w → a ≡ t → (v + a) + w ≡ (u + t) + v
      here_so a b w v u t first_is rest_is = omega (arith, first_is, rest_is)

      later_so : (a u w v t : ℕ) → a + w ≡ t + v → (u + a) + w ≡ (u + t) + v
      later_so a u w v t e = omega (arith, e)

      by : (b : Bool) → same_name name first.name ≡ b → cond b (Some first) (called name tasks) ≡ Some task
          → (called name tasks ≡ Some task → total (put name new tasks) + weigh task ≡ total tasks + weigh new)
          → total (cond b new first ∷ put name new tasks) + weigh task ≡ total (first ∷ tasks) + weigh new
      by true is here rest =
          let same : first ≡ task = cc in
          here_so _ 0 (weigh task) (weigh new) (weigh first) (total tasks) (ap weigh same)
          (ap total (put-nobody name new tasks (nobody-behind name first tasks apart is)))
      by false is here rest = later_so (total (put name new tasks)) (weigh first) (weigh task) (weigh new) (total tasks)
          (rest here)

  pub total-replaced : (name : TaskName) (tasks : Tasks) (task new : Task ℕ) → AreNamedApart tasks
      → called name tasks ≡ Some task → new.name ≡ task.name
      → total (replaced new tasks) + weigh task ≡ total tasks + weigh new
  total-replaced name tasks task new apart found same =
      ap (λ own. total (put own new tasks) + weigh task) (same ∙ name-of-called name tasks task found)
      ∙ total-put name tasks task new apart found

  pub total-without : (name : TaskName) (tasks : Tasks) (task : Task ℕ) → AreNamedApart tasks
      → called name tasks ≡ Some task → total (without_called name tasks) + weigh task ≡ total tasks
  total-without name [] task apart found = absurd cc
  total-without name (first ∷ tasks) task apart found =
      by (same_name name first.name) refl found (total-without name tasks task (apart-behind-first first tasks apart))
    where
      here_so : (a w u t : ℕ) → u ≡ w → a ≡ t → a + w ≡ u + t
      here_so a w u t first_is rest_is = omega (arith, first_is, rest_is)

      later_so : (a u w t : ℕ) → a + w ≡ t → (u + a) + w ≡ u + t
      later_so a u w t e = omega (arith, e)

      by : (b : Bool) → same_name name first.name ≡ b → cond b (Some first) (called name tasks) ≡ Some task
          → (called name tasks ≡ Some task → total (without_called name tasks) + weigh task ≡ total tasks)
          → total (cond (not b) (first ∷ without_called name tasks) (without_called name tasks)) + weigh task
          ≡ total (first ∷ tasks)
      by true is here rest =
          let same : first ≡ task = cc in
          here_so _ (weigh task) (weigh first) (total tasks) (ap weigh same)
          (ap total (without-nobody name tasks (nobody-behind name first tasks apart is)))
      by false is here rest = later_so (total (without_called name tasks)) (weigh first) (weigh task) (total tasks)
          (rest here)

  pub total-behind : (tasks : Tasks) (last : Task ℕ) → total (tasks ++ last ∷ []) ≡ total tasks + weigh last
  total-behind [] last = omega arith
  total-behind (first ∷ tasks) last = more (weigh first) _ _ _ (total-behind tasks last)
    where
      more : (u a t w : ℕ) → a ≡ t + w → u + a ≡ (u + t) + w
      more u a t w e = omega (arith, e)

  -- a task that is replaced by one of the same weight, and a child behind
  pub total-forked : (name : TaskName) (tasks : Tasks) (task new child : Task ℕ) → AreNamedApart tasks
      → called name tasks ≡ Some task → new.name ≡ task.name → weigh new ≡ weigh task
      → total (replaced new tasks ++ child ∷ []) ≡ total tasks + weigh child
  total-forked name tasks task new child apart found same weight =
      so _ _ _ _ _ _ (total-behind (replaced new tasks) child)
      (total-replaced name tasks task new apart found same) weight
    where
      so : (a r w v c t : ℕ) → a ≡ r + c → r + w ≡ t + v → v ≡ w → a ≡ t + c
      so a r w v c t is rest weight = omega (arith, is, rest, weight)

-- Counts are such sums

module _ {A : Type 0} (test : A → Bool) where
  pub times-append : (xs ys : List A) → times test (xs ++ ys) ≡ times test xs + times test ys
  times-append [] ys = omega arith
  times-append (x ∷ xs) ys = more (one_if (test x)) _ _ _ (times-append xs ys)
    where
      more : (u a b c : ℕ) → a ≡ b + c → u + a ≡ (u + b) + c
      more u a b c e = omega (arith, e)

  any_counted : (list : List A) → list_any test list ≡ nat_lt 0 (times test list)
  any_counted [] = refl
  any_counted (a ∷ rest) = by (test a) (any_counted rest)
    where
      by : (b : Bool) → list_any test rest ≡ nat_lt 0 (times test rest)
          → (b || list_any test rest) ≡ nat_lt 0 (one_if b + times test rest)
      by true e = one_more_is_some (times test rest)
      by false e = e ∙ as_many_with_none (times test rest)

module _ (test : Location ℕ → Bool) where
  abbrev pub weight : Task ℕ → ℕ
  weight task = times test (locations_of task)

  pub uses-total : (tasks : Tasks) → uses test tasks ≡ total weight tasks
  uses-total [] = refl
  uses-total (task ∷ tasks) = ap (times test) (flat_map-cons locations_of task tasks)
      ∙ times-append test (locations_of task) (locations_in tasks) ∙ ap (λ n. weight task + n) (uses-total tasks)

pub tasks_in-total : (namespace : ℕ) (tasks : Tasks)
    → tasks_in namespace tasks ≡ total (λ task. one_if (nat_eq namespace task.namespace)) tasks
tasks_in-total namespace [] = refl
tasks_in-total namespace (task ∷ tasks) = ap (λ n. one_if (nat_eq namespace task.namespace) + n)
    (tasks_in-total namespace tasks)

-- Open files

abbrev pub place_of : Descriptor ℕ → Location ℕ
place_of descriptor = descriptor.location

module _ (test : Location ℕ → Bool) where
  abbrev pub files : List (Descriptor ℕ) → ℕ
  files descriptors = times test (map place_of descriptors)

  files-inserted : (new : Descriptor ℕ) (descriptors : List (Descriptor ℕ))
      → files (inserted new descriptors) ≡ files descriptors + one_if (test new.location)
  files-inserted new [] = omega arith
  files-inserted new (d ∷ ds) = by (nat_lt new.number d.number) (files-inserted new ds)
    where
      before : (n a b : ℕ) → n + (a + b) ≡ (a + b) + n
      before n a b = omega arith

      behind : (a x b n : ℕ) → x ≡ b + n → a + x ≡ (a + b) + n
      behind a x b n e = omega (arith, e)

      by : (b : Bool) → files (inserted new ds) ≡ files ds + one_if (test new.location)
          → files (cond b (new ∷ d ∷ ds) (d ∷ inserted new ds)) ≡ files (d ∷ ds) + one_if (test new.location)
      by true rest = before (one_if (test new.location)) (one_if (test d.location)) (files ds)
      by false rest = behind (one_if (test d.location)) _ (files ds) (one_if (test new.location)) rest

  -- the numbers behind are greater
  others-above : (number least : ℕ) (ds : List (Descriptor ℕ)) → number < least → are_ascending_from least ds ≡ true
      → filter (λ d. not (nat_eq number d.number)) ds ≡ ds
  others-above number least [] less rising = refl
  others-above number least (d ∷ ds) less rising =
      let at = leb-true least d.number (and_true_left _ _ rising) in
      ap (λ b. cond (not b) (d ∷ filter (λ d. not (nat_eq number d.number)) ds)
      (filter (λ d. not (nat_eq number d.number)) ds)) (ne_eqb number d.number (λ same. omega (arith, less, same, at)))
      ∙ ap (λ rest. d ∷ rest)
      (others-above number (d.number + 1) ds (omega (arith, less, at)) (and_true_right _ _ rising))

  files-closed : (number least : ℕ) (ds : List (Descriptor ℕ)) (descriptor : Descriptor ℕ)
      → are_ascending_from least ds ≡ true → find (λ d. nat_eq number d.number) ds ≡ Some descriptor
      → files (filter (λ d. not (nat_eq number d.number)) ds) + one_if (test descriptor.location) ≡ files ds
  files-closed number least [] descriptor rising found = absurd cc
  files-closed number least (d ∷ ds) descriptor rising found =
      by (nat_eq number d.number) (eqb-true number d.number) found
      (files-closed number (d.number + 1) ds descriptor (and_true_right _ _ rising))
    where
      here_so : (a w u t : ℕ) → u ≡ w → a ≡ t → a + w ≡ u + t
      here_so a w u t first_is rest_is = omega (arith, first_is, rest_is)

      later_so : (a u w t : ℕ) → a + w ≡ t → (u + a) + w ≡ u + t
      later_so a u w t e = omega (arith, e)

      by : (b : Bool) → (b ≡ true → number ≡ d.number)
          → cond b (Some d) (find (λ d. nat_eq number d.number) ds) ≡ Some descriptor
          → (find (λ d. nat_eq number d.number) ds ≡ Some descriptor
          → files (filter (λ d. not (nat_eq number d.number)) ds) + one_if (test descriptor.location) ≡ files ds)
          → files (cond (not b) (d ∷ filter (λ d. not (nat_eq number d.number)) ds)
          (filter (λ d. not (nat_eq number d.number)) ds)) + one_if (test descriptor.location) ≡ files (d ∷ ds)
      by true same here rest =
          let is : d ≡ descriptor = cc in
          here_so _ (one_if (test descriptor.location)) (one_if (test d.location)) (files ds)
          (ap (λ (e : Descriptor ℕ). one_if (test e.location)) is)
          (ap files (others-above number (d.number + 1) ds (omega (arith, same refl)) (and_true_right _ _ rising)))
      by false same here rest = later_so _ (one_if (test d.location)) (one_if (test descriptor.location)) (files ds)
          (rest here)

-- The laws

pub replaced_uses : ReplacedUses
replaced_uses test name tasks task new apart found same =
    so _ _ _ _ _ _ (uses-total test (replaced new tasks)) (uses-total test tasks)
    (total-replaced (weight test) name tasks task new apart found same)
  where
    so : (a r b t w v : ℕ) → a ≡ r → b ≡ t → r + w ≡ t + v → a + w ≡ b + v
    so a r b t w v is was e = omega (arith, is, was, e)

pub moved_uses : MovedUses
moved_uses test name tasks task namespace root directory apart found =
    so _ _ (one_if (test task.root)) (one_if (test task.directory)) (one_if (test root)) (one_if (test directory))
    (files test task.descriptors) (replaced_uses test name tasks task
    (record task { namespace = namespace; root = root; directory = directory }) apart found refl)
  where
    so : (a b r d s e p : ℕ) → a + (r + (d + p)) ≡ b + (s + (e + p)) → a + (r + d) ≡ b + (s + e)
    so a b r d s e p is = omega (arith, is)

pub entered_uses : EnteredUses
entered_uses test name tasks task namespace root apart found = moved_uses test name tasks task namespace root root apart found

pub directory_uses : DirectoryUses
directory_uses test name tasks task directory apart found =
    so _ _ (one_if (test task.root)) (one_if (test task.directory)) (one_if (test directory))
    (files test task.descriptors)
    (replaced_uses test name tasks task (record task { directory = directory }) apart found refl)
  where
    so : (a b r d e p : ℕ) → a + (r + (d + p)) ≡ b + (r + (e + p)) → a + d ≡ b + e
    so a b r d e p is = omega (arith, is)

pub root_uses : RootUses
root_uses test name tasks task root apart found =
    so _ _ (one_if (test task.root)) (one_if (test root)) (one_if (test task.directory)) (files test task.descriptors)
    (replaced_uses test name tasks task (record task { root = root }) apart found refl)
  where
    so : (a b r s d p : ℕ) → a + (r + (d + p)) ≡ b + (s + (d + p)) → a + r ≡ b + s
    so a b r s d p is = omega (arith, is)

pub opened_uses : OpenedUses
opened_uses test name tasks task file access apart found =
    so _ _ (one_if (test task.root)) (one_if (test task.directory)) (files test task.descriptors) _ (one_if (test file))
    (replaced_uses test name tasks task (with_descriptor task file access) apart found refl) (files-inserted test
    (record {
      number = free_number task;
      location = file;
      reads = opens_for_reading access;
      writes = opens_for_writing access;
    }) task.descriptors)
  where
    so : (a b r d p q f : ℕ) → a + (r + (d + p)) ≡ b + (r + (d + q)) → q ≡ p + f → a ≡ b + f
    so a b r d p q f is files = omega (arith, is, files)

pub closed_uses : ClosedUses
closed_uses test name tasks task number descriptor apart found rising there =
    so _ _ (one_if (test task.root)) (one_if (test task.directory)) (files test task.descriptors) _
    (one_if (test descriptor.location))
    (replaced_uses test name tasks task (without_descriptor task number) apart found refl)
    (files-closed test number 0 task.descriptors descriptor rising there)
  where
    so : (a b r d p q f : ℕ) → a + (r + (d + p)) ≡ b + (r + (d + q)) → q + f ≡ p → a + f ≡ b
    so a b r d p q f is files = omega (arith, is, files)

pub forked_uses : ForkedUses
forked_uses test name tasks task credentials apart found =
    so _ _ _ _ (one_if (test task.root)) (one_if (test task.directory))
    (uses-total test (replaced (forked_once task) tasks ++ child_of task credentials ∷ [])) (uses-total test tasks)
    (total-forked (weight test) name tasks task (forked_once task) (child_of task credentials) apart found refl refl)
  where
    so : (a x b t r d : ℕ) → a ≡ x → b ≡ t → x ≡ t + (r + (d + 0)) → a ≡ b + (r + d)
    so a x b t r d is was e = omega (arith, is, was, e)

pub exited_uses : ExitedUses
exited_uses test name tasks task apart found =
    so _ _ _ _ _ (uses-total test (without_called name tasks)) (uses-total test tasks)
    (total-without (weight test) name tasks task apart found)
  where
    so : (a x b t w : ℕ) → a ≡ x → b ≡ t → x + w ≡ t → a + w ≡ b
    so a x b t w is was e = omega (arith, is, was, e)

pub has_tasks_while_counted : HasTasksWhileCounted
has_tasks_while_counted world namespace = any_counted (λ task. nat_eq namespace.number task.namespace) world.tasks

pub replaced_tasks : ReplacedTasks
replaced_tasks namespace name tasks task new apart found same =
    so _ _ _ _ (one_if (nat_eq namespace task.namespace)) (one_if (nat_eq namespace new.namespace))
    (tasks_in-total namespace (replaced new tasks)) (tasks_in-total namespace tasks)
    (total-replaced (λ task. one_if (nat_eq namespace task.namespace)) name tasks task new apart found same)
  where
    so : (a r b t w v : ℕ) → a ≡ r → b ≡ t → r + w ≡ t + v → a + w ≡ b + v
    so a r b t w v is was e = omega (arith, is, was, e)

pub forked_tasks : ForkedTasks
forked_tasks namespace name tasks task credentials apart found = so _ _ _ _ (one_if (nat_eq namespace task.namespace))
    (tasks_in-total namespace (replaced (forked_once task) tasks ++ child_of task credentials ∷ []))
    (tasks_in-total namespace tasks)
    (total-forked (λ task. one_if (nat_eq namespace task.namespace)) name tasks task (forked_once task)
    (child_of task credentials) apart found refl refl)
  where
    so : (a x b t w : ℕ) → a ≡ x → b ≡ t → x ≡ t + w → a ≡ b + w
    so a x b t w is was e = omega (arith, is, was, e)

pub exited_tasks : ExitedTasks
exited_tasks namespace name tasks task apart found =
    so _ _ _ _ (one_if (nat_eq namespace task.namespace)) (tasks_in-total namespace (without_called name tasks))
    (tasks_in-total namespace tasks)
    (total-without (λ task. one_if (nat_eq namespace task.namespace)) name tasks task apart found)
  where
    so : (a x b t w : ℕ) → a ≡ x → b ≡ t → x + w ≡ t → a + w ≡ b
    so a x b t w is was e = omega (arith, is, was, e)
