-- The kinds of a call's turn.
use Rattle.std.proofs.Common.{◌≡◌, refl, sym, ap, subst, ◌⊎◌, inl, inr, ℕ, nat_eq, Bool, true, false, List, [], ◌∷◌, Option, Some, None, Ok, Err, Result, ◌+◌, nat_le, slice_get, unwrap_or}
use Rattle.vt_spec.proofs.Common.{Call, Calls, Fresh, Progress, Queued, Route, Sched, Someone, Task, Turned, call_turn_of, entry_rules, first_of_list, first_progress, first_turn, first_turn_by, found_passes, further, is_failing, is_overtaken, later_turn, looks_of, most_restarts, next_word, none_is_some, one_further, queue_of, queue_turn, restarted, routes, same_name, same_task_name, turn, turn_under_way, unless, word_walked_by, words_of}
use Rattle.vt_laws_turns.proofs.Common.{Deny, run_whole, went_on}
use Rattle.vt_laws_turns.specs.Restarts.{IsNextOf, under_way_of}

module _ (sched : Sched ℕ) (task : Task ℕ) (line : ℕ) (call : Call) (fresh : Fresh ℕ) where
  -- the routes of the call
  abbrev pub ways : List (Route ℕ)
  ways = routes nat_eq (looks_of nat_eq sched.world) task call

  -- the call is run whole
  abbrev pub whole_turn : Turned ℕ
  whole_turn = run_whole nat_eq sched task.name line call fresh

  -- one word is walked, and the call goes on
  pub record GoesFurther (before : Progress ℕ) (turned : Turned ℕ) : Type 0 where
    pub met : List ℕ
    pub word : slice_get (words_of ways) before.walked ≡ Some met
    pub leads : is_failing ways before.walked ≡ false
    pub is : turned ≡ went_on sched (one_further nat_eq sched.world met before)

  -- the turn is the last, or walks one word
  abbrev pub IsWalked : Progress ℕ → Turned ℕ → Type 0
  IsWalked before turned = (turned ≡ whole_turn) ⊎ GoesFurther before turned

  -- a first turn, a word, a restart, or a call run whole after three of them
  pub data TurnKind (turned : Turned ℕ) : Type 0 where
    Begins : under_way_of sched.under_way task.name ≡ None
        → IsWalked (first_progress nat_eq sched.world task 0) turned → TurnKind turned
    GoesOn : (progress : Progress ℕ) → under_way_of sched.under_way task.name ≡ Some progress
        → is_overtaken nat_eq sched.world task progress ≡ false → IsWalked progress turned → TurnKind turned
    Restarts : (progress : Progress ℕ) → under_way_of sched.under_way task.name ≡ Some progress
        → is_overtaken nat_eq sched.world task progress ≡ true → nat_le most_restarts progress.restarts ≡ false
        → IsWalked (first_progress nat_eq sched.world task (progress.restarts + 1)) turned → TurnKind turned
    Whole : (progress : Progress ℕ) → under_way_of sched.under_way task.name ≡ Some progress
        → is_overtaken nat_eq sched.world task progress ≡ true → nat_le most_restarts progress.restarts ≡ true
        → turned ≡ whole_turn → TurnKind turned

  by_word : (fails : Bool) (before : Progress ℕ) (met : List ℕ) → before.task ≡ task.name
      → slice_get (words_of ways) before.walked ≡ Some met → is_failing ways before.walked ≡ fails
      → IsWalked before (word_walked_by nat_eq fails sched line call fresh before met)
  by_word true before met e w f = inl (ap (λ n. run_whole nat_eq sched n line call fresh) e)
  by_word false before met e w f = inr (record { met = met; word = w; leads = f; is = refl })

  by_next : (before : Progress ℕ) (next : Option (List ℕ)) → before.task ≡ task.name
      → slice_get (words_of ways) before.walked ≡ next
      → IsWalked before (next_word nat_eq sched line call fresh before ways next)
  by_next before None e w = inl (ap (λ n. run_whole nat_eq sched n line call fresh) e)
  by_next before (Some met) e w = by_word (is_failing ways before.walked) before met e w refl

  goes_further : (before : Progress ℕ) → before.task ≡ task.name
      → IsWalked before (further nat_eq sched task line call fresh before)
  goes_further before e = by_next before (slice_get (words_of ways) before.walked) e refl

  by_entry : (rules : Result Call Deny) (restarts : ℕ) → IsWalked (first_progress nat_eq sched.world task restarts)
      (first_turn_by nat_eq rules sched task line call fresh restarts)
  by_entry (Err deny) restarts = inl refl
  by_entry (Ok same) restarts = goes_further (first_progress nat_eq sched.world task restarts) refl

  first_is : (restarts : ℕ) → IsWalked (first_progress nat_eq sched.world task restarts)
      (first_turn nat_eq sched task line call fresh restarts)
  first_is restarts = by_entry (unless (entry_rules nat_eq (looks_of nat_eq sched.world) task call) (Ok call)) restarts

  by_most : (most : Bool) (p : Progress ℕ) → under_way_of sched.under_way task.name ≡ Some p
      → is_overtaken nat_eq sched.world task p ≡ true → nat_le most_restarts p.restarts ≡ most
      → TurnKind (restarted nat_eq most sched task line call fresh p)
  by_most true p e o m = Whole p e o m refl
  by_most false p e o m = Restarts p e o m (first_is (p.restarts + 1))

  by_stale : (stale : Bool) (p : Progress ℕ) → under_way_of sched.under_way task.name ≡ Some p
      → is_overtaken nat_eq sched.world task p ≡ stale → TurnKind (later_turn nat_eq stale sched task line call fresh p)
  by_stale true p e o = by_most (nat_le most_restarts p.restarts) p e o refl
  by_stale false p e o = GoesOn p e o (goes_further p (sym (same_task_name task.name p.task
      (found_passes (λ (progress : Progress ℕ). same_name task.name progress.task) sched.under_way p e))))

  by_progress : (p : Option (Progress ℕ)) → under_way_of sched.under_way task.name ≡ p
      → TurnKind (turn_under_way nat_eq sched task line call fresh p)
  by_progress None e = Begins e (first_is 0)
  by_progress (Some p) e = by_stale (is_overtaken nat_eq sched.world task p) p e refl

  -- the turn of the first call of a task's queue is of one of these kinds
  pub turn_of_call : IsNextOf sched task line call → TurnKind (turn nat_eq sched (Someone task.name) (Some fresh))
  unfolding turn
  turn_of_call next = by_queue (queue_of sched.queues (Someone task.name)) next.first
    where
      by_task : (found : Option (Task ℕ)) → found ≡ Some task
          → TurnKind (call_turn_of nat_eq sched task.name line call fresh found)
      by_task None e = none_is_some task e
      by_task (Some other) e = subst (λ (t : Task ℕ). TurnKind (turn_under_way nat_eq sched t line call fresh
          (under_way_of sched.under_way task.name))) (sym (ap (λ o. unwrap_or o other) e)) (by_progress _ refl)

      by_item : (q : Queued) → q ≡ record { line = line; item = Calls call }
          → TurnKind (queue_turn nat_eq sched (Someone task.name) (q ∷ []) (Some fresh))
      by_item q e = subst (λ (one : Queued). TurnKind (queue_turn nat_eq sched (Someone task.name) (one ∷ [])
          (Some fresh))) (sym e) (by_task _ next.called)

      by_queue : (items : List Queued) → first_of_list items ≡ Some (record { line = line; item = Calls call })
          → TurnKind (queue_turn nat_eq sched (Someone task.name) items (Some fresh))
      by_queue [] e = none_is_some _ e
      by_queue (q ∷ rest) e = by_item q (ap (λ o. unwrap_or o q) e)
