-- Schedules of two states that are the same, and turns that are made one by one.
use Rattle.std.proofs.Common.{arith, ◌≡◌, refl, sym, ap, subst, ◌∙◌, ℕ, nat_eq, List, [], ◌∷◌, ◌++◌, append_assoc, option_to_list}
use Rattle.vt_spec.proofs.Common.{IsWorld, Sched, common_steps, first_of_list, queue_of, turn}
use Rattle.vt_laws_turns.proofs.played.Fronts.{commits_are_fronts}
use Rattle.vt_laws_turns.proofs.played.Leaving.{Leaves, turn_leaves}
use Rattle.vt_laws_turns.proofs.played.Leaving.Leaves.{After, Same}
use Rattle.vt_laws_turns.proofs.played.Turning.{replies_are_of_commits}
use Rattle.vt_laws_turns.proofs.same_states.TurnsAlike.{same_state_is_an_equivalence, same_states_turn_alike}
use Rattle.vt_laws_turns.proofs.holds.Holding.{later_is}
use Rattle.vt_laws_turns.specs.Commits.{Turn, commit_by, commit_of, commits, items_of, left_by, replies}
use Rattle.vt_laws_turns.specs.Dated.{SameDated}
use Rattle.vt_laws_turns.specs.Holds.Held.{IsFitTurn}
use Rattle.vt_laws_turns.specs.SameStates.{AreTurnedAlike, PlayedTurnsAreWholeCalls, PlaysBegin, PlaysGoOn, SameSched, SameSchedsPlayAlike}

-- a fit turn keeps the invariants of the world
keeps_world : (sched : Sched ℕ) (given : Turn) → IsWorld nat_eq sched.world → IsFitTurn sched given
    → IsWorld nat_eq (turn nat_eq sched given.0 given.1).sched.world
keeps_world sched given is fit = by (turn_leaves sched given)
  where
    by : Leaves sched given (turn nat_eq sched given.0 given.1).sched
        → IsWorld nat_eq (turn nat_eq sched given.0 given.1).sched.world
    by (Same same) = subst (IsWorld nat_eq) (sym same) is
    by (After name call fresh commits) = subst (IsWorld nat_eq) (sym commits.world)
        (later_is is (fit.serves fresh commits.handed) name call (fit.few_groups commits.line call commits.first))

commits_alike : (one other : Sched ℕ) (given : Turn) → SameSched one other
    → AreTurnedAlike (turn nat_eq one given.0 given.1) (turn nat_eq other given.0 given.1)
    → commit_of one given ≡ commit_of other given
commits_alike one other given same alike = λ i.
    commit_by given.0 given.1 (first_of_list (queue_of (same.queues i) given.0)) (alike.reply i)

pub same_states_play_alike : SameSchedsPlayAlike
same_states_play_alike one other [] same is fit = record { replies = refl; commits = refl; left = same }
same_states_play_alike one other (given ∷ rest) same is fit =
    let alike = same_states_turn_alike one other given same is fit.0.serves in
    let then = same_states_play_alike (turn nat_eq one given.0 given.1).sched (turn nat_eq other given.0 given.1).sched
    rest alike.sched (keeps_world one given is fit.0) fit.1 in
    record {
      replies = λ i. option_to_list (alike.reply i) ++ then.replies i;
      commits = λ i. option_to_list (commits_alike one other given same alike i) ++ then.commits i;
      left = then.left;
    }

-- turns in two parts
replies-append : (sched : Sched ℕ) (ones others : List Turn)
    → replies sched (ones ++ others) ≡ replies sched ones ++ replies (left_by sched ones) others
replies-append sched [] others = refl
replies-append sched (given ∷ ones) others =
    ap (λ list. option_to_list (turn nat_eq sched given.0 given.1).reply ++ list)
    (replies-append (turn nat_eq sched given.0 given.1).sched ones others)
    ∙ sym (append_assoc (option_to_list (turn nat_eq sched given.0 given.1).reply) _ _)

left_by-append : (sched : Sched ℕ) (ones others : List Turn)
    → left_by sched (ones ++ others) ≡ left_by (left_by sched ones) others
left_by-append sched [] others = refl
left_by-append sched (given ∷ ones) others = left_by-append (turn nat_eq sched given.0 given.1).sched ones others

append-nil : {A : Type 0} (list : List A) → list ++ [] ≡ list
append-nil list = grind (arith, common_steps)

pub plays_begin : PlaysBegin
plays_begin first = record { replies = refl; left = same_state_is_an_equivalence.itself first }

pub plays_go_on : PlaysGoOn
plays_go_on first now next schedule told given reply played is unused answer same =
    let left = left_by first schedule in
    let alike = same_states_turn_alike now left given
    (same_state_is_an_equivalence.back left now played.left) is unused in
    record {
      replies = replies-append first schedule (given ∷ [])
          ∙ (λ i. played.replies i ++ append-nil (option_to_list ((sym alike.reply ∙ answer) i)) i);
      left = subst (λ state. SameSched state next) (sym (left_by-append first schedule (given ∷ [])))
          (same_state_is_an_equivalence.onward _ _ _
          (same_state_is_an_equivalence.back _ _ alike.sched) same);
    }

pub played_turns_are_whole_calls : PlayedTurnsAreWholeCalls
played_turns_are_whole_calls first now schedule given played =
    let whole = replies_are_of_commits first schedule in
    record {
      replies = sym played.replies ∙ whole.0;
      world = subst (λ world. SameDated world now.world) whole.1 played.left.world;
      fronts = λ who. ap (λ queues. items_of who (commits first schedule) ++ queue_of queues who)
          (sym played.left.queues) ∙ commits_are_fronts first schedule who;
    }
