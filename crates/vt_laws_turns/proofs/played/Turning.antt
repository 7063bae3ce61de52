-- What one turn does.
use Rattle.std.proofs.Common.{arith, ◌≡◌, refl, sym, subst, ◌∙◌, ◌⊎◌, inl, inr, ⊎_elim, ℕ, nat_eq, Bool, true, false, true≢false, List, [], ◌∷◌, ◌++◌, Option, Some, None, Ok, Result, map, ◌+◌, nat_le, option_to_list}
use Rattle.vt_spec.proofs.Common.{Call, Calls, Fresh, Item, Progress, Queued, Route, Sched, Someone, Task, TaskName, Turned, Who, World, call_turn, call_turn_of, common_steps, entry_rules, first_of_list, first_turn, first_turn_by, found_passes, is_failing, is_overtaken, item_turn, later_turn, looks_of, most_restarts, next_word, none_is_some, queue_of, queue_turn, restarted, routes, same_name, same_task_name, shortened, task_called, turn, turn_under_way, unless, word_walked_by}
use Rattle.vt_laws_turns.proofs.Common.{Deny, run_whole}
use Rattle.vt_laws_turns.specs.Commits.{Commit, FailedAllocationsAnswerS5, RepliesAreOfCommits, Turn, UnansweredTurnsChangeNothing, commit_by, commit_of, commits, committed, replies_of, run_item, world_after}

-- a turn goes on: no reply, and the world and the queues as they were
pub record GoesOn (sched : Sched ℕ) (turned : Turned ℕ) : Type 0 where
  pub reply : turned.reply ≡ None
  pub world : turned.sched.world ≡ sched.world
  pub queues : turned.sched.queues ≡ sched.queues

-- a turn answers the first of a queue, which is run whole
pub record Answers (sched : Sched ℕ) (who : Who) (first : Queued) (fresh : Option (Fresh ℕ))
    (turned : Turned ℕ) : Type 0 where
  pub reply : turned.reply
      ≡ Some (record { line = first.line; answer = (run_item sched.world who first.item fresh).answer })
  pub world : turned.sched.world ≡ (run_item sched.world who first.item fresh).world
  pub queues : turned.sched.queues ≡ map (shortened who) sched.queues

module _ (sched : Sched ℕ) (name : TaskName) (line : ℕ) (call : Call) (given : Fresh ℕ) where
  abbrev Done : Turned ℕ → Type 0
  Done turned = GoesOn sched turned
      ⊎ Answers sched (Someone name) (record { line = line; item = Calls call }) (Some given) turned

  whole : Done (run_whole nat_eq sched name line call given)
  whole = inr (record { reply = refl; world = refl; queues = refl })

  word : (fails : Bool) (progress : Progress ℕ) (met : List ℕ) → progress.task ≡ name
      → Done (word_walked_by nat_eq fails sched line call given progress met)
  word true progress met e = subst (λ n. Done (run_whole nat_eq sched n line call given)) (sym e) whole
  word false progress met e = inl (record { reply = refl; world = refl; queues = refl })

  next : (progress : Progress ℕ) (ways : List (Route ℕ)) (met : Option (List ℕ)) → progress.task ≡ name
      → Done (next_word nat_eq sched line call given progress ways met)
  next progress ways None e = subst (λ n. Done (run_whole nat_eq sched n line call given)) (sym e) whole
  next progress ways (Some met) e = word (is_failing ways progress.walked) progress met e

  first_by : (rules : Result Call Deny) (task : Task ℕ) (restarts : ℕ) → task.name ≡ name
      → Done (first_turn_by nat_eq rules sched task line call given restarts)
  first_by rules task restarts e = grind (arith, common_steps, whole, next)

  first : (task : Task ℕ) (restarts : ℕ) → task.name ≡ name
      → Done (first_turn nat_eq sched task line call given restarts)
  first task restarts e = first_by (unless (entry_rules nat_eq (looks_of nat_eq sched.world) task call) (Ok call)) task restarts e

  again : (most : Bool) (task : Task ℕ) (progress : Progress ℕ) → task.name ≡ name
      → Done (restarted nat_eq most sched task line call given progress)
  again true task progress e = subst (λ n. Done (run_whole nat_eq sched n line call given)) (sym e) whole
  again false task progress e = first task (progress.restarts + 1) e

  later_by : (stale : Bool) (task : Task ℕ) (progress : Progress ℕ) → task.name ≡ name → progress.task ≡ name
      → Done (later_turn nat_eq stale sched task line call given progress)
  later_by true task progress e f = again (nat_le most_restarts progress.restarts) task progress e
  later_by false task progress e f = next progress (routes nat_eq (looks_of nat_eq sched.world) task call) _ f

  under_way_by : (task : Task ℕ) (progress : Option (Progress ℕ)) → task.name ≡ name
      → ((p : Progress ℕ) → progress ≡ Some p → p.task ≡ name)
      → Done (turn_under_way nat_eq sched task line call given progress)
  under_way_by task None e f = first task 0 e
  under_way_by task (Some p) e f = later_by (is_overtaken nat_eq sched.world task p) task p e (f p refl)

  called : (task : Option (Task ℕ)) → ((t : Task ℕ) → task ≡ Some t → t.name ≡ name)
      → Done (call_turn_of nat_eq sched name line call given task)
  called None e = whole
  called (Some t) e = under_way_by t _ (e t refl) (λ p h. sym (same_task_name name p.task
      (found_passes (λ progress. same_name name progress.task) sched.under_way p h)))

-- so does each turn
abbrev pub Turns : Sched ℕ → Who → Option (Fresh ℕ) → List Queued → Turned ℕ → Type 0
Turns sched who fresh [] turned = GoesOn sched turned
Turns sched who fresh (first ∷ rest) turned = GoesOn sched turned ⊎ Answers sched who first fresh turned

module _ (sched : Sched ℕ) where
  task_of_call : (name : TaskName) (line : ℕ) (call : Call) (fresh : Option (Fresh ℕ))
      → GoesOn sched (call_turn nat_eq sched name line call fresh)
      ⊎ Answers sched (Someone name) (record { line = line; item = Calls call }) fresh
      (call_turn nat_eq sched name line call fresh)
  task_of_call name line call None = inr (record { reply = refl; world = refl; queues = refl })
  task_of_call name line call (Some given) = called sched name line call given (task_called sched.world name)
      (λ t h. sym (same_task_name name t.name
      (found_passes (λ (task : Task ℕ). same_name name task.name) sched.world.tasks t h)))

  by_item : (who : Who) (line : ℕ) (item : Item) (fresh : Option (Fresh ℕ))
      → GoesOn sched (item_turn nat_eq sched who line item fresh)
      ⊎ Answers sched who (record { line = line; item = item }) fresh (item_turn nat_eq sched who line item fresh)
  by_item who line item fresh = grind (arith, common_steps, task_of_call)

  by_queue : (who : Who) (items : List Queued) (fresh : Option (Fresh ℕ))
      → Turns sched who fresh items (queue_turn nat_eq sched who items fresh)
  by_queue who [] fresh = record { reply = refl; world = refl; queues = refl }
  by_queue who (first ∷ rest) fresh = by_item who first.line first.item fresh

  pub turn_is : (who : Who) (fresh : Option (Fresh ℕ))
      → Turns sched who fresh (queue_of sched.queues who) (turn nat_eq sched who fresh)
  unfolding turn
  turn_is who fresh = by_queue who (queue_of sched.queues who) fresh

-- a turn's reply and world are those of what it commits
step : (sched : Sched ℕ) (given : Turn) (items : List Queued) (turned : Turned ℕ)
    → Turns sched given.0 given.1 items turned
    → let made : List Commit = option_to_list (commit_by given.0 given.1 (first_of_list items) turned.reply) in
    (option_to_list turned.reply ≡ replies_of sched.world made) × (turned.sched.world ≡ world_after sched.world made)
step sched given items turned goes = grind (arith, common_steps, first)

-- commits one after the other
more_replies : (world : World ℕ) (ones others : List Commit)
    → replies_of world (ones ++ others) ≡ replies_of world ones ++ replies_of (world_after world ones) others
more_replies world [] others = refl
more_replies world (commit ∷ ones) others =
    grind (arith, common_steps, more_replies (committed world commit).world ones others)

more_world : (world : World ℕ) (ones others : List Commit)
    → world_after world (ones ++ others) ≡ world_after (world_after world ones) others
more_world world [] others = refl
more_world world (commit ∷ ones) others = more_world (committed world commit).world ones others

pub replies_are_of_commits : RepliesAreOfCommits
replies_are_of_commits sched [] = (refl, refl)
replies_are_of_commits sched (given ∷ rest) =
    let turned : Turned ℕ = turn nat_eq sched given.0 given.1 in
    let made : List Commit = option_to_list (commit_of sched given) in
    let now = step sched given (queue_of sched.queues given.0) turned (turn_is sched given.0 given.1) in
    let then = replies_are_of_commits turned.sched rest in (
      cc (now.0, then.0, now.1, more_replies sched.world made (commits turned.sched rest)),
      cc (then.1, now.1, more_world sched.world made (commits turned.sched rest)),
    )

-- a turn without a reply
pub unanswered_turns_change_nothing : UnansweredTurnsChangeNothing
unanswered_turns_change_nothing sched given none = by _ _ (turn_is sched given.0 given.1) none
  where
    by : (items : List Queued) (turned : Turned ℕ) → Turns sched given.0 given.1 items turned → turned.reply ≡ None
        → (turned.sched.world ≡ sched.world) × (turned.sched.queues ≡ sched.queues)
    by [] turned goes e = (goes.world, goes.queues)
    by (first ∷ rest) turned is e = ⊎_elim (λ goes. (goes.world, goes.queues))
        (λ done. none_is_some _ (sym e ∙ done.reply)) is

-- a turn in which an allocation fails
pub failed_allocations_answer_s5 : FailedAllocationsAnswerS5
unfolding turn
failed_allocations_answer_s5 sched who first e run = grind (arith, common_steps, first, true≢false, none_is_some)
