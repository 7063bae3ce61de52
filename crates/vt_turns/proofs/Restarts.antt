-- Turns that are played restart no call more than three times.
use Rattle.std.proofs.Common.{◌≡◌, refl, sym, ap, subst, ◌∙◌, ℕ, nat_eq, true, List, [], ◌∷◌, ◌++◌, ◌≤◌, arith, Contains, length}
use Rattle.std.proofs.lemmas.List.{length-append}
use Rattle.vt_spec.proofs.Common.{Progress, Queue, Reply, Sched, Someone, Who, World, queue_of, turn}
use Rattle.vt_laws_turns.proofs.restarts.Counting.{at_most_three_restarts}
use Rattle.vt_laws_turns.proofs.restarts.Keeping.{turns_keep_schedulers}
use Rattle.vt_laws_turns.proofs.same_states.PlaysAlike.{played_turns_are_whole_calls}
use Rattle.vt_laws_turns.specs.Commits.{Turn, commits, items_of, left_by}
use Rattle.vt_laws_turns.specs.Restarts.{IsSched, all_under_way_of, has_call_first}
use Rattle.vt_queues.specs.QueuesValue.{queues_meant}
use Rattle.vt_turns.specs.SchedValue.{Sched as SchedCode, sched_meant}
use Rattle.vt_turns.specs.Turned.{IsPlayedBy, RestartsFew}

-- turns keep the conditions of a scheduler's state
turns_keep : (sched : Sched ℕ) (turns : List Turn) → IsSched sched → IsSched (left_by sched turns)
turns_keep sched [] is = is
turns_keep sched (given ∷ rest) is =
    turns_keep (turn nat_eq sched given.0 given.1).sched rest (turns_keep_schedulers sched given is)

-- they are conditions of the queues and of the calls under way
pub same_conditions : (one other : Sched ℕ) → one.queues ≡ other.queues → one.under_way ≡ other.under_way → IsSched one
    → IsSched other
same_conditions one other queues under_way is = record {
  one = λ name. subst (λ (list : List (Progress ℕ)). length (all_under_way_of list name) ≤ 1) under_way (is.one name);
  first = λ progress c. subst (λ (list : List Queue). has_call_first list progress.task ≡ true) queues
      (is.first progress (subst (λ (list : List (Progress ℕ)). Contains list progress) (sym under_way) c));
  restarts = λ progress c. is.restarts progress
      (subst (λ (list : List (Progress ℕ)). Contains list progress) (sym under_way) c);
}

-- nothing stands before the whole of a list
none_before : {A : Type 0} (before all : List A) → before ++ all ≡ all → before ≡ []
none_before [] all e = refl
none_before (a ∷ before) all e =
    let count = sym (length-append (a ∷ before) all) ∙ ap length e in
    absurd (omega (arith, count))

module _ {C : Type 0} (seen : C → World ℕ) where
  pub restarts_few : (schedule : List Who) (replies : List Reply) (old now : SchedCode C) → IsSched (sched_meant seen old)
      → IsPlayedBy seen old schedule replies now → RestartsFew seen old schedule replies now
  restarts_few schedule replies old now is by =
      let first : Sched ℕ = sched_meant seen old in
      let whole = played_turns_are_whole_calls first (sched_meant seen now) by.turns replies by.played in
      record {
        by = by;
        at_most_three = λ name same. at_most_three_restarts first by.turns name is
            (none_before (items_of (Someone name) (commits first by.turns)) (queue_of (queues_meant old.queues) (Someone name))
            (ap (λ list. items_of (Someone name) (commits first by.turns) ++ list) (sym same) ∙ whole.fronts (Someone name)));
        conditions = same_conditions (left_by first by.turns) (sched_meant seen now) by.played.left.queues
            by.played.left.under_way (turns_keep first by.turns is);
      }
