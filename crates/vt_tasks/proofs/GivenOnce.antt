-- Names are given once, and no two tasks have one name.
use Rattle.std.proofs.Common.{◌≡◌, ◌≢◌, ℕ, ◌+◌, ◌≤◌, ◌<◌, Bool, true, false, cond, ◌&&◌, List, [], ◌∷◌, ◌++◌, filter, not, nat_eq, Option, Some, None, refl, sym, ap, ◌∙◌, true≢false, arith, eq-eqb, ne_eqb, nat_le, eqb-true, leb-true, le-leb}
use Rattle.vt_spec.proofs.Common.{Credentials, Task, TaskName, all-filter, and_from, and_true_left, and_true_right, child_name, child_of, list_all, list_any, name-replaced_if_called, or_from, or_parts, pair-filter, pair-map, pointwise, replaced_if_called, same_name, same_name-swapped, same_name_itself}
use Rattle.vt_tasks.specs.TasksValue.{AreNamedApart, Tasks, are_given_once, called, forked_once, has_given, is_of_forks, names_of, replaced, with_child_behind, without_called}
pub use Rattle.vt_spec.proofs.Worlds.{same_task_name}

names_differ : (a b : TaskName) → same_name a b ≡ false → a ≢ b
names_differ a b differs same = true≢false (sym (same_name_itself a) ∙ ap (same_name a) same ∙ differs)

-- a child's name is no name of the parent
pub other-child : (name : TaskName) (number : ℕ) → same_name name (name ++ number ∷ []) ≡ false
other-child [] number = refl
other-child (x ∷ name) number = ap (λ b. b && pointwise nat_eq name (name ++ number ∷ [])) (eq-eqb x x refl)
    ∙ other-child name number

module _ {X : Type 0} where
  all-kept : (p q : X → Bool) (xs : List X) → ((x : X) → p x ≡ true → q x ≡ true) → list_all p xs ≡ true
      → list_all q xs ≡ true
  all-kept p q [] keeps e = refl
  all-kept p q (x ∷ xs) keeps e =
      and_from _ _ (keeps x (and_true_left _ _ e)) (all-kept p q xs keeps (and_true_right _ _ e))

  pub all-behind : (p : X → Bool) (xs : List X) (y : X) → list_all p xs ≡ true → p y ≡ true
      → list_all p (xs ++ y ∷ []) ≡ true
  all-behind p [] y e last = and_from _ _ last refl
  all-behind p (x ∷ xs) y e last = and_from _ _ (and_true_left _ _ e) (all-behind p xs y (and_true_right _ _ e) last)

  none-behind : (p : X → Bool) (xs : List X) (y : X) → list_any p xs ≡ false → p y ≡ false
      → list_any p (xs ++ y ∷ []) ≡ false
  none-behind p [] y e last = or_from (p y) false last refl
  none-behind p (x ∷ xs) y e last =
      let parts = or_parts (p x) (list_any p xs) e in
      or_from (p x) _ parts.0 (none-behind p xs y parts.1 last)

-- the task of a name has that name
pub name-of-called : (name : TaskName) (tasks : Tasks) (task : Task ℕ) → called name tasks ≡ Some task
    → task.name ≡ name
name-of-called name [] task found = absurd cc
name-of-called name (first ∷ tasks) task found =
    by (same_name name first.name) (same_task_name name first.name) found (name-of-called name tasks task)
  where
    by : (b : Bool) → (b ≡ true → name ≡ first.name) → cond b (Some first) (called name tasks) ≡ Some task
        → (called name tasks ≡ Some task → task.name ≡ name) → task.name ≡ name
    by true same here rest = (let is : first ≡ task = cc in λ i. (sym is i).name) ∙ sym (same refl)
    by false same here rest = rest here

-- what holds of each task holds of the one of a name
pub all-called : (p : Task ℕ → Bool) (name : TaskName) (task : Task ℕ) (tasks : Tasks)
    → list_all p tasks ≡ true → called name tasks ≡ Some task → p task ≡ true
all-called p name task [] e found = absurd cc
all-called p name task (first ∷ tasks) e found = by (same_name name first.name) found
    (all-called p name task tasks (and_true_right _ _ e))
  where
    by : (b : Bool) → cond b (Some first) (called name tasks) ≡ Some task
        → (called name tasks ≡ Some task → p task ≡ true) → p task ≡ true
    by true here rest = (let is : first ≡ task = cc in λ i. p (sym is i)) ∙ and_true_left _ _ e
    by false here rest = rest here

-- and what holds of each name holds of its own
name-called : (p : TaskName → Bool) (name : TaskName) (task : Task ℕ) (tasks : Tasks)
    → list_all p (names_of tasks) ≡ true → called name tasks ≡ Some task → p name ≡ true
name-called p name task [] e found = absurd cc
name-called p name task (first ∷ tasks) e found = by (same_name name first.name) (same_task_name name first.name) found
    (name-called p name task tasks (and_true_right _ _ e))
  where
    by : (b : Bool) → (b ≡ true → name ≡ first.name) → cond b (Some first) (called name tasks) ≡ Some task
        → (called name tasks ≡ Some task → p name ≡ true) → p name ≡ true
    by true same here rest = ap p (same refl) ∙ and_true_left _ _ e
    by false same here rest = rest here

-- a task gives way to another of its name: what holds of that and of the others
pub all-replaced : (p q : Task ℕ → Bool) (new : Task ℕ) (tasks : Tasks) → list_all p tasks ≡ true → q new ≡ true
    → ((other : Task ℕ) → new.name ≢ other.name → p other ≡ true → q other ≡ true)
    → list_all q (replaced new tasks) ≡ true
all-replaced p q new [] e here others = refl
all-replaced p q new (first ∷ tasks) e here others = and_from _ _ (by (same_name new.name first.name) refl)
    (all-replaced p q new tasks (and_true_right _ _ e) here others)
  where
    by : (b : Bool) → same_name new.name first.name ≡ b → q (cond b new first) ≡ true
    by true is = here
    by false is = others first (names_differ new.name first.name is) (and_true_left _ _ e)

-- names stay where a task changes
pub names-replaced : (new : Task ℕ) (tasks : Tasks) → names_of (replaced new tasks) ≡ names_of tasks
names-replaced new [] = refl
names-replaced new (first ∷ tasks) = λ i. name-replaced_if_called new first i ∷ names-replaced new tasks i

-- Names that go on from others

-- more forks have given no fewer names
more_forks : (forks more : ℕ) (name other : TaskName) → forks ≤ more → is_of_forks forks name other ≡ true
    → is_of_forks more name other ≡ true
more_forks forks more [] [] le e = refl
more_forks forks more [] (number ∷ other) le e = le-leb number more (omega (arith, le, leb-true number forks e))
more_forks forks more (x ∷ name) [] le e = refl
more_forks forks more (x ∷ name) (y ∷ other) le e = by (nat_eq x y) e (more_forks forks more name other le)
  where
    by : (b : Bool) → cond b (is_of_forks forks name other) true ≡ true
        → (is_of_forks forks name other ≡ true → is_of_forks more name other ≡ true)
        → cond b (is_of_forks more name other) true ≡ true
    by true e rest = rest e
    by false e rest = refl

-- the name of a child goes on from its parent by the number of its fork
pub goes-on : (forks number : ℕ) (name : TaskName) → is_of_forks forks name (name ++ number ∷ []) ≡ nat_le number forks
goes-on forks number [] = refl
goes-on forks number (x ∷ name) = ap (λ b. cond b (is_of_forks forks name (name ++ number ∷ [])) true) (eq-eqb x x refl)
    ∙ goes-on forks number name

-- from the names before its parent's it goes on as its parent's does
as-parent : (forks number : ℕ) (first name : TaskName) → first ≢ name → is_of_forks forks first name ≡ true
    → is_of_forks forks first (name ++ number ∷ []) ≡ true
as-parent forks number [] [] apart e = absurd (apart refl)
as-parent forks number [] (y ∷ name) apart e = e
as-parent forks number (x ∷ []) [] apart e = by (nat_eq x number)
  where
    by : (b : Bool) → cond b true true ≡ true
    by true = refl
    by false = refl
as-parent forks number (x ∷ z ∷ first) [] apart e = by (nat_eq x number)
  where
    by : (b : Bool) → cond b true true ≡ true
    by true = refl
    by false = refl
as-parent forks number (x ∷ first) (y ∷ name) apart e =
    by (nat_eq x y) (eqb-true x y) e (as-parent forks number first name)
  where
    by : (b : Bool) → (b ≡ true → x ≡ y) → cond b (is_of_forks forks first name) true ≡ true
        → (first ≢ name → is_of_forks forks first name ≡ true → is_of_forks forks first (name ++ number ∷ []) ≡ true)
        → cond b (is_of_forks forks first (name ++ number ∷ [])) true ≡ true
    by true same e rest = rest (λ is. apart (λ i. same refl i ∷ is i)) e
    by false same e rest = refl

-- and none goes on from it, where its parent gave only lower numbers
none-from : (given forks number : ℕ) (name other : TaskName) → forks < number → is_of_forks forks name other ≡ true
    → is_of_forks given (name ++ number ∷ []) other ≡ true
none-from given forks number [] [] lt e = refl
none-from given forks number [] (y ∷ other) lt e = ap (λ b. cond b (is_of_forks given [] other) true)
    (ne_eqb number y (λ is. omega (arith, lt, is, leb-true y forks e)))
none-from given forks number (x ∷ name) [] lt e = refl
none-from given forks number (x ∷ name) (y ∷ other) lt e = by (nat_eq x y) e
    (none-from given forks number name other lt)
  where
    by : (b : Bool) → cond b (is_of_forks forks name other) true ≡ true
        → (is_of_forks forks name other ≡ true → is_of_forks given (name ++ number ∷ []) other ≡ true)
        → cond b (is_of_forks given (name ++ number ∷ []) other) true ≡ true
    by true e rest = rest e
    by false e rest = refl

from-itself : (forks : ℕ) (name : TaskName) → is_of_forks forks name name ≡ true
from-itself forks [] = refl
from-itself forks (x ∷ name) = ap (λ b. cond b (is_of_forks forks name name) true) (eq-eqb x x refl)
    ∙ from-itself forks name

-- Names stay given once

-- where a task changes that keeps its name and its forks, or forks more
pub given-changed : (name : TaskName) (old new : Task ℕ) (tasks : Tasks) → are_given_once tasks ≡ true
    → called name tasks ≡ Some old
    → new.name ≡ old.name → old.forks ≤ new.forks → are_given_once (replaced new tasks) ≡ true
given-changed name old new tasks given found same le =
    ap (λ names. list_all (has_given names) (replaced new tasks)) (names-replaced new tasks)
    ∙ all-replaced (has_given (names_of tasks)) (has_given (names_of tasks)) new tasks given
    (ap (λ own. list_all (is_of_forks new.forks own) (names_of tasks)) same
    ∙ all-kept _ _ (names_of tasks) (λ other. more_forks old.forks new.forks old.name other le)
    (all-called (has_given (names_of tasks)) name old tasks given found)) (λ other apart e. e)

names-filter : (test : TaskName → Bool) (tasks : Tasks)
    → names_of (filter (λ task. test task.name) tasks) ≡ filter test (names_of tasks)
names-filter test [] = refl
names-filter test (first ∷ tasks) = by (test first.name) (names-filter test tasks)
  where
    by : (b : Bool) → names_of (filter (λ task. test task.name) tasks) ≡ filter test (names_of tasks)
        → names_of (cond b (first ∷ filter (λ task. test task.name) tasks) (filter (λ task. test task.name) tasks))
        ≡ cond b (first.name ∷ filter test (names_of tasks)) (filter test (names_of tasks))
    by true rest = ap (λ names. first.name ∷ names) rest
    by false rest = rest

-- where one leaves
pub given-without : (name : TaskName) (tasks : Tasks) → are_given_once tasks ≡ true
    → are_given_once (without_called name tasks) ≡ true
given-without name tasks given = ap (λ names. list_all (has_given names) (without_called name tasks))
    (names-filter (λ other. not (same_name name other)) tasks)
    ∙ all-kept (has_given (names_of tasks)) _ (without_called name tasks)
    (λ task e. all-filter (is_of_forks task.forks task.name) (λ other. not (same_name name other)) (names_of tasks) e)
    (all-filter (has_given (names_of tasks)) (λ task. not (same_name name task.name)) tasks given)

-- No two tasks have one name

pub apart-replaced : (new : Task ℕ) (tasks : Tasks) → AreNamedApart tasks → AreNamedApart (replaced new tasks)
apart-replaced new tasks apart =
    pair-map (λ a b. same_name a.name b.name) (λ a b. same_name a.name b.name) (replaced_if_called new) tasks
    (λ a b m n differs. (λ i. same_name (name-replaced_if_called new a i) (name-replaced_if_called new b i))
    ∙ differs) apart

pub apart-without : (name : TaskName) (tasks : Tasks) → AreNamedApart tasks → AreNamedApart (without_called name tasks)
apart-without name tasks apart =
    pair-filter (λ a b. same_name a.name b.name) (λ task. not (same_name name task.name)) tasks apart

pub apart-behind : (tasks : Tasks) (new : Task ℕ) → AreNamedApart tasks → called new.name tasks ≡ None
    → AreNamedApart (tasks ++ new ∷ [])
apart-behind [] new apart none = refl
apart-behind (first ∷ tasks) new apart none =
    by (same_name new.name first.name) refl none (apart-behind tasks new parts.1)
  where
    parts : (list_any (λ b. same_name first.name b.name) tasks ≡ false) × AreNamedApart tasks
    parts = or_parts (list_any (λ b. same_name first.name b.name) tasks) _ apart

    by : (b : Bool) → same_name new.name first.name ≡ b → cond b (Some first) (called new.name tasks) ≡ None
        → (called new.name tasks ≡ None → AreNamedApart (tasks ++ new ∷ []))
        → AreNamedApart ((first ∷ tasks) ++ new ∷ [])
    by true is here rest = absurd cc
    by false is here rest = or_from _ _ (none-behind (λ b. same_name first.name b.name) tasks new parts.0
        (same_name-swapped new.name first.name is)) (rest here)

-- where one forks
module _ (name : TaskName) (task : Task ℕ) (tasks : Tasks) (given : are_given_once tasks ≡ true)
    (found : called name tasks ≡ Some task) where
  abbrev pub child : TaskName
  child = child_name task

  gave : list_all (is_of_forks task.forks task.name) (names_of tasks) ≡ true
  gave = all-called (has_given (names_of tasks)) name task tasks given found

  -- no task has the child's name
  new-among : (others : Tasks) → names_of others ≡ names_of tasks → called child others ≡ None
  new-among others are = by (called child others) refl
    where
      by : (r : Option (Task ℕ)) → called child others ≡ r → r ≡ None
      by None e = refl
      by (Some other) e =
          let all : list_all (is_of_forks task.forks task.name) (names_of others)
          ≡ true = ap (list_all (is_of_forks task.forks task.name)) are ∙ gave in
          let within : nat_le (task.forks + 1) task.forks ≡ true = sym (goes-on task.forks (task.forks + 1) task.name)
          ∙ name-called (is_of_forks task.forks task.name) child other others all e in
          absurd (omega (arith, leb-true (task.forks + 1) task.forks within))

  pub child-new : called child tasks ≡ None
  child-new = new-among tasks refl

  names-behind : (new : Task ℕ) (others : Tasks) → names_of (others ++ new ∷ []) ≡ names_of others ++ new.name ∷ []
  names-behind new [] = refl
  names-behind new (first ∷ others) = ap (λ names. first.name ∷ names) (names-behind new others)

  pub apart-forked : (credentials : Credentials) → AreNamedApart tasks
      → AreNamedApart (with_child_behind task (child_of task credentials) tasks)
  apart-forked credentials apart = apart-behind (replaced (forked_once task) tasks) (child_of task credentials)
      (apart-replaced (forked_once task) tasks apart)
      (new-among (replaced (forked_once task) tasks) (names-replaced (forked_once task) tasks))

  pub given-forked : (credentials : Credentials)
      → are_given_once (with_child_behind task (child_of task credentials) tasks) ≡ true
  given-forked credentials = ap (λ all. list_all (has_given all) (replaced parent tasks ++ new ∷ []))
      (names-behind new (replaced parent tasks) ∙ ap (λ all. all ++ child ∷ []) (names-replaced parent tasks))
      ∙ all-behind (has_given names) (replaced parent tasks) new olds news
    where
      parent : Task ℕ
      parent = forked_once task

      new : Task ℕ
      new = child_of task credentials

      names : List TaskName
      names = names_of tasks ++ child ∷ []

      of_parent : has_given names parent ≡ true
      of_parent = all-behind _ (names_of tasks) child (all-kept _ _ (names_of tasks)
          (λ other. more_forks task.forks (task.forks + 1) task.name other (omega arith)) gave)
          (goes-on (task.forks + 1) (task.forks + 1) task.name ∙ le-leb (task.forks + 1) (task.forks + 1) (omega arith))

      of_other : (other : Task ℕ) → task.name ≢ other.name → has_given (names_of tasks) other ≡ true
          → has_given names other ≡ true
      of_other other apart e = all-behind _ (names_of tasks) child e
          (as-parent other.forks (task.forks + 1) other.name task.name (λ same. apart (sym same))
          (ap (is_of_forks other.forks other.name) (name-of-called name tasks task found)
          ∙ name-called (is_of_forks other.forks other.name) name task tasks e found))

      olds : list_all (has_given names) (replaced parent tasks) ≡ true
      olds = all-replaced (has_given (names_of tasks)) (has_given names) parent tasks given of_parent of_other

      news : has_given names new ≡ true
      news = all-behind _ (names_of tasks) child (all-kept _ _ (names_of tasks)
          (λ other. none-from 0 task.forks (task.forks + 1) task.name other (omega arith)) gave) (from-itself 0 child)
