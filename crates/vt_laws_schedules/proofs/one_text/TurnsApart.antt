-- A turn replies the same whatever filesystems calls under way hold that are behind.
use Rattle.std.proofs.Common.{◌≡◌, refl, sym, ap, subst, ◌∙◌, inr, ⊎_elim, ℕ, nat_eq, Bool, true, false, List, [], ◌∷◌, ◌+◌, ◌||◌, Option, Some, None, Ok, Err, Result, find, nat_le, not, slice_get}
use Rattle.vt_spec.proofs.Common.{Asks, Call, Calls, Directive, Fresh, Item, Nobody, Outcome, Progress, Queue, Queued, Refused, Route, Sched, Someone, Task, TaskName, Turned, Who, World, call_turn, call_turn_of, denial, denied, directed, entry_rules, false≢true, filesystem_change_of, first_progress, first_turn, first_turn_by, found_passes, further, holds_of, is_failing, is_overtaken, is_stale, item_turn, later_turn, list_any, looks_of, most_restarts, namespace_change_of, next_word, policy, queue_of, queue_turn, restarted, routes, same_name, same_task_name, task_called, turn, turn_under_way, unless, without_progress, word_walked_by, words_of}
use Rattle.vt_laws_trees.proofs.runs.Each.{Each, IfAny, each_filter, each_find}
use Rattle.vt_laws_turns.proofs.Common.{Deny, S2, S5, replied, run_whole}
use Rattle.vt_spec.specs.Machine.Turns.{directive_turn}
use Rattle.vt_laws_schedules.proofs.one_text.Behind.{AlikeUnderWay, is_behind, is_behind_by}

-- one reply or none, and states that are the same but for such calls, as they are in this world
pub record TurnedApart (here : World ℕ) (turned again : Turned ℕ) : Type 0 where
  pub reply : turned.reply ≡ again.reply
  pub world : turned.sched.world ≡ again.sched.world
  pub queues : turned.sched.queues ≡ again.sched.queues
  pub under_way : Each (AlikeUnderWay here) turned.sched.under_way again.sched.under_way

or_first : (a b c : Bool) → (a || b) ≡ true → (a || b || c) ≡ true
or_first true b c e = refl
or_first false true c e = refl
or_first false false c e = absurd (false≢true e)

-- the same queues in one world
module _ (here : World ℕ) (queues : List Queue) (ones others : List (Progress ℕ))
    (each : Each (AlikeUnderWay here) ones others) where
  abbrev this : Sched ℕ
  this = record { world = here; queues = queues; under_way = ones }

  abbrev that : Sched ℕ
  that = record { world = here; queues = queues; under_way = others }

  others_alike : (name : TaskName) → Each (AlikeUnderWay here) (without_progress name ones) (without_progress name others)
  others_alike name =
      each_filter (AlikeUnderWay here) (λ p. not (same_name name p.task)) (λ p. not (same_name name p.task))
      (λ a b alike. ap (λ (p : Progress ℕ). not (same_name name p.task)) alike.bare) ones others each

  answered : (who : Who) (line : ℕ) (outcome : Outcome ℕ)
      → TurnedApart here (replied this who line ones outcome) (replied that who line others outcome)
  answered who line outcome = record { reply = refl; world = refl; queues = refl; under_way = each }

  call_answered : (name : TaskName) (line : ℕ) (outcome : Outcome ℕ)
      → TurnedApart here (replied this (Someone name) line (without_progress name ones) outcome)
      (replied that (Someone name) line (without_progress name others) outcome)
  call_answered name line outcome =
      record { reply = refl; world = refl; queues = refl; under_way = others_alike name }

  -- the call of a task
  module _ (fresh : Fresh ℕ) (line : ℕ) (call : Call) where
    whole : (name : TaskName)
        → TurnedApart here (run_whole nat_eq this name line call fresh) (run_whole nat_eq that name line call fresh)
    whole name = call_answered name line (policy nat_eq fresh here name call)

    word : (fails : Bool) (progress : Progress ℕ) (met : List ℕ)
        → TurnedApart here (word_walked_by nat_eq fails this line call fresh progress met)
        (word_walked_by nat_eq fails that line call fresh progress met)
    word true progress met = whole progress.task
    word false progress met = record {
      reply = refl;
      world = refl;
      queues = refl;
      under_way = (record { bare = refl; held = inr refl }, others_alike progress.task);
    }

    next : (progress : Progress ℕ) (ways : List (Route ℕ)) (met : Option (List ℕ))
        → TurnedApart here (next_word nat_eq this line call fresh progress ways met)
        (next_word nat_eq that line call fresh progress ways met)
    next progress ways None = whole progress.task
    next progress ways (Some met) = word (is_failing ways progress.walked) progress met

    goes_further : (task : Task ℕ) (progress : Progress ℕ)
        → TurnedApart here (further nat_eq this task line call fresh progress)
        (further nat_eq that task line call fresh progress)
    goes_further task progress = next progress (routes nat_eq (looks_of nat_eq here) task call)
        (slice_get (words_of (routes nat_eq (looks_of nat_eq here) task call)) progress.walked)

    first_by : (rules : Result Call Deny) (task : Task ℕ) (restarts : ℕ)
        → TurnedApart here (first_turn_by nat_eq rules this task line call fresh restarts)
        (first_turn_by nat_eq rules that task line call fresh restarts)
    first_by (Err deny) task restarts = whole task.name
    first_by (Ok same) task restarts = goes_further task (first_progress nat_eq here task restarts)

    first : (task : Task ℕ) (restarts : ℕ)
        → TurnedApart here (first_turn nat_eq this task line call fresh restarts)
        (first_turn nat_eq that task line call fresh restarts)
    first task restarts =
        first_by (unless (entry_rules nat_eq (looks_of nat_eq here) task call) (Ok call)) task restarts

    -- where both restart, for the same time
    again : (most : Bool) (task : Task ℕ) (one other : Progress ℕ) → one.restarts ≡ other.restarts
        → TurnedApart here (restarted nat_eq most this task line call fresh one)
        (restarted nat_eq most that task line call fresh other)
    again true task one other e = whole task.name
    again false task one other e =
        subst (λ n. TurnedApart here (first_turn nat_eq this task line call fresh (one.restarts + 1))
        (first_turn nat_eq that task line call fresh (n + 1))) e (first task (one.restarts + 1))

    both_stale : (task : Task ℕ) (one other : Progress ℕ) → one.restarts ≡ other.restarts
        → is_overtaken nat_eq here task one ≡ true → is_overtaken nat_eq here task other ≡ true
        → TurnedApart here (turn_under_way nat_eq this task line call fresh (Some one))
        (turn_under_way nat_eq that task line call fresh (Some other))
    both_stale task one other e stale overtaken =
        subst (λ b. TurnedApart here (later_turn nat_eq b this task line call fresh one)
        (turn_under_way nat_eq that task line call fresh (Some other))) (sym stale)
        (subst (λ b. TurnedApart here (later_turn nat_eq true this task line call fresh one)
        (later_turn nat_eq b that task line call fresh other)) (sym overtaken)
        (subst (λ n. TurnedApart here (restarted nat_eq (nat_le most_restarts one.restarts) this task line call fresh one)
        (restarted nat_eq (nat_le most_restarts n) that task line call fresh other)) e
        (again (nat_le most_restarts one.restarts) task one other e)))

    -- the very same call
    by_stale : (stale : Bool) (task : Task ℕ) (progress : Progress ℕ)
        → TurnedApart here (later_turn nat_eq stale this task line call fresh progress)
        (later_turn nat_eq stale that task line call fresh progress)
    by_stale true task progress = again (nat_le most_restarts progress.restarts) task progress progress refl
    by_stale false task progress = goes_further task progress

    one_alike : (task : Task ℕ) (one other : Progress ℕ) → task_called here one.task ≡ Some task
        → AlikeUnderWay here one other
        → TurnedApart here (turn_under_way nat_eq this task line call fresh (Some one))
        (turn_under_way nat_eq that task line call fresh (Some other))
    one_alike task one other called alike = ⊎_elim behind same alike.held
      where
        same : one.filesystems ≡ other.filesystems
            → TurnedApart here (turn_under_way nat_eq this task line call fresh (Some one))
            (turn_under_way nat_eq that task line call fresh (Some other))
        same held = subst (λ (p : Progress ℕ).
            TurnedApart here (turn_under_way nat_eq this task line call fresh (Some one))
            (turn_under_way nat_eq that task line call fresh (Some p)))
            (λ i. record (alike.bare i) { filesystems = held i })
            (by_stale (is_overtaken nat_eq here task one) task one)

        overtaken : (p : Progress ℕ) → is_behind_by here p task ≡ true → is_overtaken nat_eq here task p ≡ true
        overtaken p is = or_first (is_stale p.task_change task.change)
            (is_stale p.namespace_change (namespace_change_of nat_eq here task.namespace))
            (list_any (λ held. is_stale held.1 (filesystem_change_of nat_eq here held.0)) p.filesystems) is

        behind : is_behind here one ≡ true
            → TurnedApart here (turn_under_way nat_eq this task line call fresh (Some one))
            (turn_under_way nat_eq that task line call fresh (Some other))
        behind is =
            let is_one : is_behind_by here one task ≡ true =
            sym (ap (holds_of (is_behind_by here one)) called) ∙ is in
            both_stale task one other (ap (λ (p : Progress ℕ). p.restarts) alike.bare) (overtaken one is_one)
            (overtaken other (sym (ap (λ (p : Progress ℕ). is_behind_by here p task) alike.bare) ∙ is_one))

    by_found : (name : TaskName) (task : Task ℕ) → task_called here name ≡ Some task
        → (found again : Option (Progress ℕ)) → ((p : Progress ℕ) → found ≡ Some p → name ≡ p.task)
        → IfAny (AlikeUnderWay here) found again
        → TurnedApart here (turn_under_way nat_eq this task line call fresh found)
        (turn_under_way nat_eq that task line call fresh again)
    by_found name task called None None of alike = first task 0
    by_found name task called None (Some other) of alike = absurd alike
    by_found name task called (Some one) None of alike = absurd alike
    by_found name task called (Some one) (Some other) of alike =
        one_alike task one other (ap (task_called here) (sym (of one refl)) ∙ called) alike

    by_task : (name : TaskName) (found : Option (Task ℕ)) → task_called here name ≡ found
        → TurnedApart here (call_turn_of nat_eq this name line call fresh found)
        (call_turn_of nat_eq that name line call fresh found)
    by_task name None e = whole name
    by_task name (Some task) e = by_found name task e
        (find (λ (p : Progress ℕ). same_name name p.task) ones) (find (λ (p : Progress ℕ). same_name name p.task) others)
        (λ p h. same_task_name name p.task (found_passes (λ (q : Progress ℕ). same_name name q.task) ones p h))
        (each_find (AlikeUnderWay here) (λ p. same_name name p.task) (λ p. same_name name p.task)
        (λ a b alike. ap (λ (p : Progress ℕ). same_name name p.task) alike.bare) ones others each)

  module _ (fresh : Option (Fresh ℕ)) where
    call_alike : (given : Option (Fresh ℕ)) (name : TaskName) (line : ℕ) (call : Call)
        → TurnedApart here (call_turn nat_eq this name line call given) (call_turn nat_eq that name line call given)
    call_alike None name line call = call_answered name line (denied here (denial S5))
    call_alike (Some new) name line call = by_task new line call name (task_called here name) refl

    directed_alike : (given : Option (Fresh ℕ)) (who : Who) (line : ℕ) (directive : Directive)
        → TurnedApart here (directive_turn nat_eq this who line directive given)
        (directive_turn nat_eq that who line directive given)
    directed_alike None who line directive = answered who line (denied here (denial S5))
    directed_alike (Some new) who line directive = answered who line (directed nat_eq here directive)

    by_item : (who : Who) (line : ℕ) (item : Item)
        → TurnedApart here (item_turn nat_eq this who line item fresh) (item_turn nat_eq that who line item fresh)
    by_item (Someone name) line (Calls call) = call_alike fresh name line call
    by_item Nobody line (Calls call) = answered Nobody line (denied here (denial S2))
    by_item (Someone name) line (Asks directive) = directed_alike fresh (Someone name) line directive
    by_item Nobody line (Asks directive) = directed_alike fresh Nobody line directive
    by_item (Someone name) line (Refused deny) = answered (Someone name) line (denied here deny)
    by_item Nobody line (Refused deny) = answered Nobody line (denied here deny)

    by_queue : (who : Who) (items : List Queued)
        → TurnedApart here (queue_turn nat_eq this who items fresh) (queue_turn nat_eq that who items fresh)
    by_queue who [] = record { reply = refl; world = refl; queues = refl; under_way = each }
    by_queue who (first ∷ rest) = by_item who first.line first.item

    pub turned_apart : (who : Who) → TurnedApart here (turn nat_eq this who fresh) (turn nat_eq that who fresh)
    unfolding turn
    turned_apart who = by_queue who (queue_of queues who)
