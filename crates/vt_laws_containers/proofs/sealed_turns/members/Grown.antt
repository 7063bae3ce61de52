-- Of the tasks in a world, those of the set that a call leaves were of the set before it.
use Rattle.std.proofs.Common.{◌≡◌, refl, ℕ, nat_eq, Bool, true, false, not, List, [], ◌+◌, ◌||◌, Option, Some, None, Ok, Err, Result, is_ok, is_some, arith}
use Rattle.vt_spec.proofs.Common.{Answer, Call, Child, Fresh, IsWorld, Judgement, Outcome, Permit, Task, TaskName, World, after, among-from_filter, any_among, any_from_among, apply, child_name, common_steps, contains_from_among, filesystems_changed_by, finished_unless, found_among, is_among, judge_in, only_looks, or_cases, policy, same_name, same_task_name, some_from_is_some, task_called, ⊤}
use Rattle.vt_laws_containers.proofs.Common.{Deny, grown, left, name_found, ran}

-- a child that is answered has the name of the task's next child
abbrev NamesItsChild : Task ℕ → Result Answer Deny → Type 0
NamesItsChild task (Ok (Child child)) = child ≡ child_name task
NamesItsChild task answer = ⊤

applied : (fresh : Fresh ℕ) (world : World ℕ) (task : Task ℕ) (permit : Permit ℕ)
    → NamesItsChild task (apply nat_eq fresh world task permit).answer
applied fresh world task permit = grind (arith, common_steps)

-- a set without a task that ends has no more names
left_less : (names : List TaskName) (name : TaskName) (call : Call) (other : TaskName)
    → is_among same_name other (left names name call) ≡ true → is_among same_name other names ≡ true
left_less names name call other h = grind (arith, common_steps, any_among, any_from_among, among-from_filter)

module _ {world : World ℕ} (names : List TaskName) (name : TaskName) (call : Call) (fresh : Fresh ℕ)
    (is : IsWorld nat_eq world) where
  -- the tasks of the world that are of the set which an answer leaves
  abbrev pub WereOfTheSet : Result Answer Deny → Type 0
  WereOfTheSet answer = (other : TaskName) → is_some (task_called world other) ≡ true
      → is_among same_name other (grown names name call answer) ≡ true → is_among same_name other names ≡ true

  -- no task has the name of a task's next child
  no_child_yet : (task : Task ℕ) → task_called world name ≡ Some task → (other : TaskName)
      → is_some (task_called world other) ≡ true → other ≡ child_name task → ⊥
  no_child_yet task e other there same =
      let found = some_from_is_some _ there in
      let less = is.tasks.forks_counted task found.0 (task.forks + 1) []
      (contains_from_among _ task (found_among (λ (t : Task ℕ). same_name name _) _ task e)) (contains_from_among _ _
      (found_among (λ (t : Task ℕ). same_name other _) _ _ found.1)) (cc (name_found world other _ found.1)) in
      absurd (omega (arith, less))

  by_answer : (task : Task ℕ) → task_called world name ≡ Some task → (answer : Result Answer Deny)
      → NamesItsChild task answer → WereOfTheSet answer
  by_answer task e answer its other there h =
      grind (arith, common_steps, no_child_yet, same_task_name, or_cases, left_less)

  by_judgement : (task : Task ℕ) → task_called world name ≡ Some task → (judgement : Judgement ℕ)
      → WereOfTheSet (after world judgement (apply nat_eq fresh world task)).answer
  by_judgement task e (Ok permit) =
      by_answer task e (apply nat_eq fresh world task permit).answer (applied fresh world task permit)
  by_judgement task e (Err deny) = λ other there h. h

  by_end : (b : Bool) (changed : List ℕ) (outcome : Outcome ℕ) → WereOfTheSet outcome.answer
      → WereOfTheSet (finished_unless nat_eq b world name changed outcome).answer
  by_end true changed outcome were = were
  by_end false changed outcome were = were

  by_caller : (found : Option (Task ℕ)) → task_called world name ≡ found
      → WereOfTheSet (ran name call world fresh found).answer
  by_caller None e = λ other there h. h
  by_caller (Some task) e =
      let judgement : Judgement ℕ = judge_in nat_eq fresh world task call in
      let outcome : Outcome ℕ = after world judgement (apply nat_eq fresh world task) in
      by_end (only_looks call || not (is_ok outcome.answer)) (filesystems_changed_by nat_eq world judgement) outcome
      (by_judgement task e judgement)

  pub were_of_the_set : WereOfTheSet (policy nat_eq fresh world name call).answer
  were_of_the_set = by_caller (task_called world name) refl
