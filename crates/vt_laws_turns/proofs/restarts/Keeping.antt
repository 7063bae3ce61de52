-- Each turn keeps the conditions of a scheduler's state.
use Rattle.std.proofs.Common.{◌≡◌, refl, sym, ap, subst, ◌∙◌, ⊎_elim, ℕ, suc, Bool, true, false, true≢false, cond, not, List, [], ◌∷◌, ◌≤◌, Option, Some, filter, map, length, arith, Contains}
use Rattle.vt_spec.proofs.Common.{Among, Fresh, Progress, Queue, Queued, Sched, Someone, Task, TaskName, Turned, Who, World, among-from_filter, among_from_contains, common_steps, contains_from_among, first_of_list, found_among, found_passes, holds_of, most_restarts, queue_of, same_name, same_name-swapped, same_task_name, same_who, shortened, without_progress}
use Rattle.vt_laws_turns.specs.Restarts.{IsSched, SchedulersBegin, ScriptsBegin, TurnsKeepSchedulers, all_under_way_of, has_call_first, is_call}
use Rattle.vt_laws_turns.proofs.TurnShapes.{Before, Shape, is_task_call, turn_shape}
use Rattle.vt_laws_turns.proofs.TurnShapes.Before.{Again, AtStart, OnWay}
use Rattle.vt_laws_turns.proofs.TurnShapes.Shape.{CallDone, Further, Idle, OtherDone}
use Rattle.vt_laws_turns.proofs.played.Fronts.{same_whos, shorter}

-- a filter makes no list longer
shrinks : {A : Type 0} (p q : A → Bool) (xs : List A) → length (filter p (filter q xs)) ≤ length (filter p xs)
shrinks p q [] = omega arith
shrinks {A = A} p q (x ∷ xs) = grind (arith, common_steps, shrinks p q xs)

-- what does not pass is not left
none_left : {A : Type 0} (p : A → Bool) (xs : List A) → filter p (filter (λ x. not (p x)) xs) ≡ []
none_left p [] = refl
none_left {A = A} p (x ∷ xs) = grind (arith, common_steps, none_left p xs)

-- a queue that is not shortened has the call first that it had
other_first : (who : Who) (queues : List Queue) (name : TaskName) → same_who (Someone name) who ≡ false
    → has_call_first queues name ≡ true → has_call_first (map (shortened who) queues) name ≡ true
other_first who queues name e h = cc (shorter who (Someone name) queues)

-- what goes on is of the task
pub named : (sched : Sched ℕ) (task : Task ℕ) (before : Progress ℕ) → Before sched task before → before.task ≡ task.name
named sched task before (AtStart none e) = ap (λ (p : Progress ℕ). p.task) e
named sched task before (OnWay found current) = sym (same_task_name task.name before.task (found_passes
    (λ (p : Progress ℕ). same_name task.name p.task) sched.under_way before found))
named sched task before (Again progress found stale few e) = ap (λ (p : Progress ℕ). p.task) e

module _ (sched : Sched ℕ) (is : IsSched sched) where
  -- what is under way but for a task's
  kept_among : (name : TaskName) (progress : Progress ℕ) → Among progress (without_progress name sched.under_way)
      → Contains sched.under_way progress × (same_name name progress.task ≡ false)
  kept_among name progress m = search (arith, common_steps, among-from_filter, contains_from_among, true≢false)

  -- a call is answered
  call_done : (name : TaskName) (world : World ℕ) → IsSched (record {
    world = world;
    queues = map (shortened (Someone name)) sched.queues;
    under_way = without_progress name sched.under_way;
  })
  call_done name world = record {
    one = λ other.
        let less = shrinks (λ (p : Progress ℕ). same_name other p.task)
        (λ (p : Progress ℕ). not (same_name name p.task)) sched.under_way in
        let most = is.one other in
        omega (arith, less, most);
    first = λ progress c.
        let kept = kept_among name progress (among_from_contains _ progress c) in
        other_first (Someone name) sched.queues progress.task (same_name-swapped name progress.task kept.1)
        (is.first progress kept.0);
    restarts = λ progress c. is.restarts progress (kept_among name progress (among_from_contains _ progress c)).0;
  }

  -- what is no call of a task is answered
  other_done : (who : Who) (first : Queued) → first_of_list (queue_of sched.queues who) ≡ Some first
      → is_task_call who first.item ≡ false → (world : World ℕ)
      → IsSched (record { world = world; queues = map (shortened who) sched.queues; under_way = sched.under_way })
  other_done who first f none world = record {
    one = is.one;
    first = λ progress c.
        other_first who sched.queues progress.task (apart progress c (same_who (Someone progress.task) who) refl)
        (is.first progress c);
    restarts = is.restarts;
  }
    where
      apart : (progress : Progress ℕ) → Contains sched.under_way progress → (b : Bool)
          → same_who (Someone progress.task) who ≡ b → b ≡ false
      apart progress c false e = refl
      apart progress c true e =
          let same : Someone progress.task ≡ who = same_whos (Someone progress.task) who e in
          let found : first_of_list (queue_of sched.queues (Someone progress.task)) ≡ Some first =
          cc (same, f) in
          absurd (cc (is.first progress c, found, same, none))

  -- the number of restarts of what goes on is within the limit
  few : (task : Task ℕ) (before : Progress ℕ) → Before sched task before → before.restarts ≤ most_restarts
  few task before (AtStart none e) = subst (λ (p : Progress ℕ). p.restarts ≤ most_restarts) (sym e) (omega arith)
  few task before (OnWay found current) = is.restarts before (contains_from_among sched.under_way before
      (found_among (λ (p : Progress ℕ). same_name task.name p.task) sched.under_way before found))
  few task before (Again progress found stale fewer e) = grind (arith, common_steps)

  -- a call goes on
  goes_on : (name : TaskName) (progress : Progress ℕ) → progress.task ≡ name → progress.restarts ≤ most_restarts
      → has_call_first sched.queues name ≡ true
      → IsSched (record sched { under_way = progress ∷ without_progress progress.task sched.under_way })
  goes_on name progress e less h = record {
    one = λ other. by other (same_name other progress.task) refl;
    first = λ p c. ⊎_elim (λ same. cc) (λ m. is.first p (kept_among progress.task p m).0)
        (among_from_contains (progress ∷ without_progress progress.task sched.under_way) p c);
    restarts = λ p c. ⊎_elim (λ same. subst (λ (q : Progress ℕ). q.restarts ≤ most_restarts) (sym same) less)
        (λ m. is.restarts p (kept_among progress.task p m).0)
        (among_from_contains (progress ∷ without_progress progress.task sched.under_way) p c);
  }
    where
      by : (other : TaskName) (b : Bool) → same_name other progress.task ≡ b
          → length (cond b (progress ∷ all_under_way_of (without_progress progress.task sched.under_way) other)
          (all_under_way_of (without_progress progress.task sched.under_way) other)) ≤ 1
      by other true f =
          let same : other ≡ progress.task = same_task_name other progress.task f in
          let none : all_under_way_of (without_progress progress.task sched.under_way) other ≡ [] =
          ap (all_under_way_of (without_progress progress.task sched.under_way)) same
          ∙ none_left (λ (p : Progress ℕ). same_name progress.task p.task) sched.under_way in
          subst (λ l. suc (length l) ≤ 1) (sym none) (omega arith)
      by other false f = grind (arith, common_steps, shrinks)

  by_shape : (who : Who) (fresh : Option (Fresh ℕ)) (turned : Turned ℕ) → Shape sched who fresh turned
      → IsSched turned.sched
  by_shape who fresh turned (Idle e is_idle) = subst (λ (t : Turned ℕ). IsSched t.sched) (sym is_idle) is
  by_shape who fresh turned (OtherDone first f none outcome e) =
      subst (λ (t : Turned ℕ). IsSched t.sched) (sym e) (other_done who first f none outcome.world)
  by_shape who fresh turned (CallDone name w line call f outcome e) =
      subst (λ (t : Turned ℕ). IsSched t.sched) (sym e) (call_done name outcome.world)
  by_shape who fresh turned (Further task w line call given g next before at further) =
      subst (λ (t : Turned ℕ). IsSched t.sched) (sym further.is) (goes_on task.name _ (named sched task before at)
      (few task before at) (ap (holds_of (λ (queued : Queued). is_call queued.item)) next.first))

pub turns_keep_schedulers : TurnsKeepSchedulers
turns_keep_schedulers sched given is = by_shape sched is given.0 given.1 _ (turn_shape sched given.0 given.1)

pub schedulers_begin : SchedulersBegin
schedulers_begin world queues = grind (arith, common_steps, among_from_contains)

pub scripts_begin : ScriptsBegin
scripts_begin version script = schedulers_begin _ _
