-- Each turn of a task of a sealed set is one of the part of the set.
use Rattle.std.proofs.Common.{arith, ◌≡◌, refl, sym, ap, subst, ◌∙◌, ⊎_elim, ℕ, nat_eq, Bool, true, true≢false, not, List, [], ◌∷◌, Option, Some, None, filter, is_some}
use Rattle.vt_spec.proofs.Common.{Asks, Call, Calls, Fresh, IsWorld, Item, Progress, Queue, Queued, Refused, Sched, Someone, TaskName, Turned, World, common_steps, denied, first_of_list, is_among, part_of, policy, queue_of, queue_turn, same_name, turn, without_progress}
use Rattle.vt_laws_containers.proofs.Common.{Deny, Turns, each_call_ends_alike, filter_again, filters_swapped, grown, replied, turn_is, unanswered_turns_change_nothing}
use Rattle.vt_laws_members.proofs.changes.part.PartAgain.{part_of_the_part}
use Rattle.vt_laws_containers.specs.SealedTurns.MembersTurns.{TurnsAlikeFor, part_of_sched}
use Rattle.vt_laws_containers.specs.SealedTurns.OutsidersTurns.{IsFirst, their_calls}
use Rattle.vt_laws_containers.proofs.sealed_turns.members.Answering.{their_answers_are_of_the_grown_part}
use Rattle.vt_laws_containers.proofs.sealed_turns.members.TurnsAlike.{turns_alike}
use Rattle.vt_laws_containers.specs.MembersTurns.TheirTurns.{EachTurnOfTheirsIsOfTheirPart, IsTurnOfTheirs, grown_after, set_left}

-- two turns have one reply, and leave one part of a set
record LeaveAlike (set : List TaskName) (one two : Turned ℕ) : Type 0 where
  reply : two.reply ≡ one.reply
  left : part_of_sched set two.sched ≡ part_of_sched set one.sched

-- a set stays, where nothing is answered
pub stays : (names : List TaskName) (name : TaskName) (first : Option Queued)
    → grown_after names name first None ≡ names
stays names name None = refl
stays names name (Some first) = refl

module _ (sched : Sched ℕ) (names : List TaskName) (name : TaskName) (is : IsWorld nat_eq sched.world) where
  abbrev part : Sched ℕ
  part = part_of_sched names sched

  abbrev own : Progress ℕ → Bool
  own progress = is_among same_name progress.task names

  abbrev others : Progress ℕ → Bool
  others progress = not (same_name name progress.task)

  cut : (a b : World ℕ) (queues : List Queue) (u v : List (Progress ℕ))
      → part_of nat_eq b names ≡ part_of nat_eq a names → their_calls names v ≡ their_calls names u
      → part_of_sched names (record { world = b; queues = queues; under_way = v })
      ≡ part_of_sched names (record { world = a; queues = queues; under_way = u })
  cut a b queues u v e f = grind (arith, common_steps)

  -- a line that is refused in any world is refused alike
  denied_alike : (line : ℕ) (deny : Deny) (u v : List (Progress ℕ)) → their_calls names v ≡ their_calls names u
      → LeaveAlike names (replied sched (Someone name) line u (denied sched.world deny))
      (replied part (Someone name) line v (denied part.world deny))
  denied_alike line deny u v calls = record {
    reply = refl;
    left = cut sched.world part.world _ u v (part_of_the_part sched.world names is) calls;
  }

  calls_again : their_calls names part.under_way ≡ their_calls names sched.under_way
  calls_again = filter_again own sched.under_way

  others_again : their_calls names (without_progress name part.under_way)
      ≡ their_calls names (without_progress name sched.under_way)
  others_again = cc (filters_swapped others own sched.under_way, filter_again own (filter others sched.under_way))

  module _ (fresh : Option (Fresh ℕ)) where
    abbrev whole : Turned ℕ
    whole = turn nat_eq sched (Someone name) fresh

    abbrev in_part : Turned ℕ
    in_part = turn nat_eq part (Someone name) fresh

    abbrev Alike : Type 0
    Alike = TurnsAlikeFor sched names (set_left sched names name fresh) name fresh

    as_turned : (set : List TaskName) → set_left sched names name fresh ≡ set → LeaveAlike set whole in_part → Alike
    as_turned set e alike = subst (λ (s : List TaskName). TurnsAlikeFor sched names s name fresh) (sym e)
        (record { reply = alike.reply; left = alike.left })

    -- a turn that answers nothing
    unanswered : whole.reply ≡ None → in_part ≡ record { sched = part_of_sched names whole.sched; reply = None } → Alike
    unanswered none same =
        let world : World ℕ = whole.sched.world in
        let still : IsWorld nat_eq world =
        subst (IsWorld nat_eq) (sym (unanswered_turns_change_nothing sched (Someone name, fresh) none).0) is in
        as_turned names (cc (stays names name _)) (record {
          reply = cc;
          left = ap (λ (t : Turned ℕ). part_of_sched names t.sched) same
              ∙ cut world (part_of nat_eq world names) _ _ _ (part_of_the_part world names still) (filter_again own _);
        })

    -- the turn, by the items of the queue
    turned_by : (items : List Queued) → queue_of sched.queues (Someone name) ≡ items
        → (whole ≡ queue_turn nat_eq sched (Someone name) items fresh)
        × (in_part ≡ queue_turn nat_eq part (Someone name) items fresh)
    unfolding turn
    turned_by items e = (
      ap (λ (l : List Queued). queue_turn nat_eq sched (Someone name) l fresh) e,
      ap (λ (l : List Queued). queue_turn nat_eq part (Someone name) l fresh) e,
    )

    -- a turn that refuses what stands first, and leaves the set
    refused : (first : Queued) (rest : List Queued) → queue_of sched.queues (Someone name) ≡ first ∷ rest
        → grown_after names name (Some first) (queue_turn nat_eq sched (Someone name) (first ∷ rest) fresh).reply
        ≡ names → LeaveAlike names (queue_turn nat_eq sched (Someone name) (first ∷ rest) fresh)
        (queue_turn nat_eq part (Someone name) (first ∷ rest) fresh) → Alike
    refused first rest e stay alike =
        let turned = turned_by (first ∷ rest) e in
        grind (arith, common_steps, as_turned)

  module _ (given : Fresh ℕ) (it : IsTurnOfTheirs sched names name (Some given))
      (answers : is_some (turn nat_eq sched (Someone name) (Some given)).reply ≡ true) where
    -- the set that a call leaves, where it is answered
    grown_is : (line : ℕ) (call : Call) (rest : List Queued)
        → queue_of sched.queues (Someone name) ≡ record { line = line; item = Calls call } ∷ rest
        → set_left sched names name (Some given)
        ≡ grown names name call (policy nat_eq given sched.world name call).answer
    grown_is line call rest e =
        let turned : Turned ℕ = turn nat_eq sched (Someone name) (Some given) in
        ap (λ (o : Option Queued). grown_after names name o turned.reply) (ap first_of_list e)
        ∙ ⊎_elim (λ goes. absurd (cc (goes.reply)))
        (λ done. ap (grown_after names name (Some (record { line = line; item = Calls call }))) done.reply)
        (subst (λ (items : List Queued). Turns sched (Someone name) (Some given) items turned) e
        (turn_is sched (Someone name) (Some given)))

    called : (line : ℕ) (call : Call) (rest : List Queued)
        → queue_of sched.queues (Someone name) ≡ record { line = line; item = Calls call } ∷ rest → Alike (Some given)
    called line call rest e =
        let first = ap first_of_list e in
        subst (λ (s : List TaskName). TurnsAlikeFor sched names s name (Some given)) (sym (grown_is line call rest e))
        (their_answers_are_of_the_grown_part sched names name call given
        (record { has = it.has; theirs = it.theirs; line = line; first = first; answers = answers })
        (each_call_ends_alike sched.world names name call (record {
          is = is;
          sealed_off = it.sealed_off;
          theirs = it.theirs;
          among_them = λ member same. it.among_them member (subst (IsFirst sched (Someone name)) same (line, first));
        }) given (it.serves given refl)))

  by_item : (fresh : Option (Fresh ℕ)) → IsTurnOfTheirs sched names name fresh
      → is_some (turn nat_eq sched (Someone name) fresh).reply ≡ true → (line : ℕ) (item : Item) (rest : List Queued)
      → queue_of sched.queues (Someone name) ≡ record { line = line; item = item } ∷ rest → Alike fresh
  by_item None it answers line (Calls call) rest e =
      refused None (record { line = line; item = Calls call }) rest e refl (denied_alike line _ _ _ others_again)
  by_item (Some given) it answers line (Calls call) rest e = called given it answers line call rest e
  by_item fresh it answers line (Asks directive) rest e = absurd (true≢false (it.no_directive _ (ap first_of_list e)))
  by_item fresh it answers line (Refused deny) rest e =
      refused fresh (record { line = line; item = Refused deny }) rest e refl (denied_alike line deny _ _ calls_again)

  by_queue : (fresh : Option (Fresh ℕ)) → IsTurnOfTheirs sched names name fresh
      → is_some (turn nat_eq sched (Someone name) fresh).reply ≡ true
      → (items : List Queued) → queue_of sched.queues (Someone name) ≡ items → Alike fresh
  by_queue fresh it answers [] e =
      absurd (true≢false (sym answers ∙ ap (λ (t : Turned ℕ). is_some t.reply) (turned_by fresh [] e).0))
  by_queue fresh it answers (first ∷ rest) e = by_item fresh it answers first.line first.item rest e

pub each_turn_of_theirs_is_of_their_part : EachTurnOfTheirsIsOfTheirPart
each_turn_of_theirs_is_of_their_part sched names name fresh it = ⊎_elim
    (λ both. by_queue sched names name it.has.is fresh it both.0 (queue_of sched.queues (Someone name)) refl)
    (λ none. unanswered sched names name it.has.is fresh none.0 none.1)
    (turns_alike sched names it.has name it.theirs fresh)
