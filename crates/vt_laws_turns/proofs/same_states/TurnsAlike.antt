-- In two states that are the same, with all change numbers, a turn replies the same and leaves two such states.
use Rattle.std.proofs.Common.{◌≡◌, refl, sym, ap, subst, ◌∙◌, ℕ, nat_eq, Bool, true, false, cond, List, [], ◌∷◌, ◌++◌, ◌+◌, Option, Some, None, Ok, Err, Result, find, map, nat_le, option_map, slice_get, unwrap_or, ◌||◌}
use Rattle.vt_spec.proofs.Common.{Asks, Call, Calls, Directive, Filesystem, Fresh, IsWorld, Item, Looks, Nobody, Outcome, Progress, Queue, Queued, Refused, Route, SameFilesystems, Sched, Serves, Someone, Task, TaskName, Who, World, call_turn, call_turn_of, denial, denied, entry_rules, filesystem_change_of, first_progress, first_turn, first_turn_by, folded, further, is_failing, is_overtaken, is_stale, item_turn, last_number, later_turn, list_any, looks_of, most_restarts, namespace_change_of, next_word, one_further, queue_of, queue_turn, restarted, routes, same_name, task_called, turn, turn_under_way, unless, without_progress, word_walked_by, words_of}
use Rattle.vt_laws_turns.proofs.Common.{Deny, S2, S5, hold_one, replied, run_whole}
use Rattle.vt_laws_turns.proofs.dated.AnsweredAlike.{dated_sameness_is_an_equivalence, same_dated_worlds_are_answered_alike, same_dated_worlds_are_directed_alike}
use Rattle.vt_laws_turns.proofs.same_states.TaskNumbers.{worlds_look_the_same}
use Rattle.vt_laws_turns.specs.Alike.{AreDatedAlike}
use Rattle.vt_laws_turns.specs.Dated.{SameDated}
use Rattle.vt_spec.specs.Machine.Turns.{directive_turn}
use Rattle.vt_laws_turns.specs.SameStates.{AreTurnedAlike, SameSchedIsAnEquivalence, SameSchedsTurnAlike}

-- the change number of what is found, if it is
abbrev change_in : ℕ → Option (Filesystem ℕ) → ℕ
change_in none found = unwrap_or (option_map (λ (f : Filesystem ℕ). f.change) found) none

-- what is found by its number has one change number in both
found_change : (number none : ℕ) (ones others : List (Filesystem ℕ)) → SameFilesystems ones others
    → map (λ (f : Filesystem ℕ). f.change) ones ≡ map (λ (f : Filesystem ℕ). f.change) others
    → change_in none (find (λ (f : Filesystem ℕ). nat_eq number f.number) ones)
    ≡ change_in none (find (λ (f : Filesystem ℕ). nat_eq number f.number) others)
found_change number none [] [] same e = refl
found_change number none [] (b ∷ others) same e = absurd same
found_change number none (a ∷ ones) [] same e = absurd same
found_change number none (a ∷ ones) (b ∷ others) same e =
    let change : a.change ≡ b.change = cc in
    by change (nat_eq number a.number) (nat_eq number b.number) (ap (nat_eq number) same.0.number)
    (found_change number none ones others same.1 cc)
  where
    by : a.change ≡ b.change → (one other : Bool) → one ≡ other
        → change_in none (find (λ (f : Filesystem ℕ). nat_eq number f.number) ones)
        ≡ change_in none (find (λ (f : Filesystem ℕ). nat_eq number f.number) others)
        → change_in none (cond one (Some a) (find (λ (f : Filesystem ℕ). nat_eq number f.number) ones))
        ≡ change_in none (cond other (Some b) (find (λ (f : Filesystem ℕ). nat_eq number f.number) others))
    by change true true f later = change
    by change true false f later = absurd cc
    by change false true f later = absurd cc
    by change false false f later = later

-- the same queues and calls under way in two worlds that are the same
module _ (one other : World ℕ) (same : SameDated one other) (is : IsWorld nat_eq one) (queues : List Queue)
    (under_way : List (Progress ℕ)) where
  abbrev state : World ℕ → Sched ℕ
  state world = record { world = world; queues = queues; under_way = under_way }

  abbrev this : Sched ℕ
  this = state one

  abbrev that : Sched ℕ
  that = state other

  looks : looks_of nat_eq one ≡ looks_of nat_eq other
  looks = worlds_look_the_same one other same.same is

  namespace_change : (number : ℕ) → namespace_change_of nat_eq one number ≡ namespace_change_of nat_eq other number
  namespace_change number = λ i. namespace_change_of nat_eq (record one { namespaces = same.namespaces i }) number

  filesystem_change : filesystem_change_of nat_eq one ≡ filesystem_change_of nat_eq other
  filesystem_change = λ i number. found_change number last_number one.filesystems other.filesystems
      same.same.filesystems same.filesystems i

  held_same : (held : List (ℕ × ℕ)) (met : List ℕ)
      → folded (hold_one nat_eq one) held met ≡ folded (hold_one nat_eq other) held met
  held_same held met = λ i. folded (λ held number. cond (list_any (λ (other : ℕ × ℕ). nat_eq number other.0) held) held
      (held ++ ((number, filesystem_change i number) ∷ []))) held met

  overtaken_same : (task : Task ℕ) (progress : Progress ℕ)
      → is_overtaken nat_eq one task progress ≡ is_overtaken nat_eq other task progress
  overtaken_same task progress = λ i. is_stale progress.task_change task.change
      || is_stale progress.namespace_change (namespace_change task.namespace i)
      || list_any (λ (held : ℕ × ℕ). is_stale held.1 (filesystem_change i held.0)) progress.filesystems

  began_same : (task : Task ℕ) (restarts : ℕ)
      → first_progress nat_eq one task restarts ≡ first_progress nat_eq other task restarts
  began_same task restarts = λ i. record (first_progress nat_eq one task restarts) {
    namespace_change = namespace_change task.namespace i;
  }

  -- an answer, by outcomes that are alike
  answered : (who : Who) (line : ℕ) (left : List (Progress ℕ)) (outcome again : Outcome ℕ)
      → AreDatedAlike outcome again
      → AreTurnedAlike (replied this who line left outcome) (replied that who line left again)
  answered who line left outcome again alike = record {
    reply = λ i. Some (record { line = line; answer = alike.answer i });
    sched = record { world = alike.worlds; queues = refl; under_way = refl };
  }

  -- a denial
  denied_alike : (who : Who) (line : ℕ) (left : List (Progress ℕ)) (deny : Deny)
      → AreTurnedAlike (replied this who line left (denied one deny)) (replied that who line left (denied other deny))
  denied_alike who line left deny =
      answered who line left (denied one deny) (denied other deny) (record { answer = refl; worlds = same })

  -- the call of a task
  module _ (fresh : Fresh ℕ) (serves : Serves nat_eq one fresh) (line : ℕ) (call : Call) where
    whole : (name : TaskName)
        → AreTurnedAlike (run_whole nat_eq this name line call fresh) (run_whole nat_eq that name line call fresh)
    whole name = answered (Someone name) line (without_progress name under_way) _ _
        (same_dated_worlds_are_answered_alike one other same is fresh serves name call)

    word : (fails : Bool) (progress : Progress ℕ) (met : List ℕ)
        → AreTurnedAlike (word_walked_by nat_eq fails this line call fresh progress met)
        (word_walked_by nat_eq fails that line call fresh progress met)
    word true progress met = whole progress.task
    word false progress met = record {
      reply = refl;
      sched = record {
        world = same;
        queues = refl;
        under_way = λ i. record (one_further nat_eq one met progress) {
          filesystems = held_same progress.filesystems met i;
        } ∷ without_progress progress.task under_way;
      };
    }

    next : (progress : Progress ℕ) (ways : List (Route ℕ)) (met : Option (List ℕ))
        → AreTurnedAlike (next_word nat_eq this line call fresh progress ways met)
        (next_word nat_eq that line call fresh progress ways met)
    next progress ways None = whole progress.task
    next progress ways (Some met) = word (is_failing ways progress.walked) progress met

    goes_further : (task : Task ℕ) (progress : Progress ℕ)
        → AreTurnedAlike (further nat_eq this task line call fresh progress)
        (further nat_eq that task line call fresh progress)
    goes_further task progress = subst (λ (seen : Looks ℕ).
        AreTurnedAlike (further nat_eq this task line call fresh progress)
        (next_word nat_eq that line call fresh progress (routes nat_eq seen task call)
        (slice_get (words_of (routes nat_eq seen task call)) progress.walked))) looks
        (next progress (routes nat_eq (looks_of nat_eq one) task call) _)

    first_by : (rules : Result Call Deny) (task : Task ℕ) (restarts : ℕ)
        → AreTurnedAlike (first_turn_by nat_eq rules this task line call fresh restarts)
        (first_turn_by nat_eq rules that task line call fresh restarts)
    first_by (Err deny) task restarts = whole task.name
    first_by (Ok same) task restarts = subst (λ (before : Progress ℕ).
        AreTurnedAlike (further nat_eq this task line call fresh (first_progress nat_eq one task restarts))
        (further nat_eq that task line call fresh before)) (began_same task restarts)
        (goes_further task (first_progress nat_eq one task restarts))

    first : (task : Task ℕ) (restarts : ℕ)
        → AreTurnedAlike (first_turn nat_eq this task line call fresh restarts)
        (first_turn nat_eq that task line call fresh restarts)
    first task restarts = subst (λ (seen : Looks ℕ).
        AreTurnedAlike (first_turn nat_eq this task line call fresh restarts)
        (first_turn_by nat_eq (unless (entry_rules nat_eq seen task call) (Ok call)) that task line call fresh
        restarts)) looks (first_by (unless (entry_rules nat_eq (looks_of nat_eq one) task call) (Ok call)) task restarts)

    again : (most : Bool) (task : Task ℕ) (progress : Progress ℕ)
        → AreTurnedAlike (restarted nat_eq most this task line call fresh progress)
        (restarted nat_eq most that task line call fresh progress)
    again true task progress = whole task.name
    again false task progress = first task (progress.restarts + 1)

    later_by : (stale : Bool) (task : Task ℕ) (progress : Progress ℕ)
        → AreTurnedAlike (later_turn nat_eq stale this task line call fresh progress)
        (later_turn nat_eq stale that task line call fresh progress)
    later_by true task progress = again (nat_le most_restarts progress.restarts) task progress
    later_by false task progress = goes_further task progress

    under_way_by : (task : Task ℕ) (progress : Option (Progress ℕ))
        → AreTurnedAlike (turn_under_way nat_eq this task line call fresh progress)
        (turn_under_way nat_eq that task line call fresh progress)
    under_way_by task None = first task 0
    under_way_by task (Some progress) = subst (λ stale.
        AreTurnedAlike (turn_under_way nat_eq this task line call fresh (Some progress))
        (later_turn nat_eq stale that task line call fresh progress)) (overtaken_same task progress)
        (later_by (is_overtaken nat_eq one task progress) task progress)

    by_task : (name : TaskName) (found : Option (Task ℕ))
        → AreTurnedAlike (call_turn_of nat_eq this name line call fresh found)
        (call_turn_of nat_eq that name line call fresh found)
    by_task name None = whole name
    by_task name (Some task) =
        under_way_by task (find (λ (progress : Progress ℕ). same_name name progress.task) under_way)

    called : (name : TaskName)
        → AreTurnedAlike (call_turn nat_eq this name line call (Some fresh))
        (call_turn nat_eq that name line call (Some fresh))
    called name = subst (λ (tasks : List (Task ℕ)).
        AreTurnedAlike (call_turn nat_eq this name line call (Some fresh))
        (call_turn_of nat_eq that name line call fresh (find (λ (task : Task ℕ). same_name name task.name) tasks)))
        same.tasks (by_task name (task_called one name))

  -- a directive
  directed_alike : (who : Who) (line : ℕ) (directive : Directive) (fresh : Option (Fresh ℕ))
      → AreTurnedAlike (directive_turn nat_eq this who line directive fresh)
      (directive_turn nat_eq that who line directive fresh)
  directed_alike who line directive None = denied_alike who line under_way (denial S5)
  directed_alike who line directive (Some fresh) =
      answered who line under_way _ _ (same_dated_worlds_are_directed_alike one other same directive)

  module _ (fresh : Option (Fresh ℕ)) (unused : (new : Fresh ℕ) → fresh ≡ Some new → Serves nat_eq one new) where
    call_alike : (given : Option (Fresh ℕ)) → fresh ≡ given → (name : TaskName) (line : ℕ) (call : Call)
        → AreTurnedAlike (call_turn nat_eq this name line call given) (call_turn nat_eq that name line call given)
    call_alike None e name line call = denied_alike (Someone name) line (without_progress name under_way) (denial S5)
    call_alike (Some new) e name line call = called new (unused new e) line call name

    by_item : (who : Who) (line : ℕ) (item : Item)
        → AreTurnedAlike (item_turn nat_eq this who line item fresh) (item_turn nat_eq that who line item fresh)
    by_item (Someone name) line (Calls call) = call_alike fresh refl name line call
    by_item Nobody line (Calls call) = denied_alike Nobody line under_way (denial S2)
    by_item (Someone name) line (Asks directive) = directed_alike (Someone name) line directive fresh
    by_item Nobody line (Asks directive) = directed_alike Nobody line directive fresh
    by_item (Someone name) line (Refused deny) = denied_alike (Someone name) line under_way deny
    by_item Nobody line (Refused deny) = denied_alike Nobody line under_way deny

    by_queue : (who : Who) (items : List Queued)
        → AreTurnedAlike (queue_turn nat_eq this who items fresh) (queue_turn nat_eq that who items fresh)
    by_queue who [] = record { reply = refl; sched = record { world = same; queues = refl; under_way = refl } }
    by_queue who (first ∷ rest) = by_item who first.line first.item

    pub turned_alike : (who : Who) → AreTurnedAlike (turn nat_eq this who fresh) (turn nat_eq that who fresh)
    unfolding turn
    turned_alike who = by_queue who (queue_of queues who)

pub same_states_turn_alike : SameSchedsTurnAlike
same_states_turn_alike one other given same is unused =
    subst (λ (state : Sched ℕ). AreTurnedAlike (turn nat_eq one given.0 given.1) (turn nat_eq state given.0 given.1))
    (λ i. record other { queues = same.queues i; under_way = same.under_way i })
    (turned_alike one.world other.world same.world is one.queues one.under_way given.1 unused given.0)

pub same_state_is_an_equivalence : SameSchedIsAnEquivalence
same_state_is_an_equivalence = record {
  itself = λ sched. record {
    world = dated_sameness_is_an_equivalence.itself sched.world;
    queues = refl;
    under_way = refl;
  };
  back = λ one other same. record {
    world = dated_sameness_is_an_equivalence.back one.world other.world same.world;
    queues = sym same.queues;
    under_way = sym same.under_way;
  };
  onward = λ one other last same next. record {
    world = dated_sameness_is_an_equivalence.onward one.world other.world last.world same.world next.world;
    queues = same.queues ∙ next.queues;
    under_way = same.under_way ∙ next.under_way;
  };
}
