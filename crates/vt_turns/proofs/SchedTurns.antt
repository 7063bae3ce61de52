-- The turns of a scheduler.
use Rattle.std.proofs.Common.{◌+◌, ◌<◌, add-one, length, slice_index_or, take, Err, Ok, OnErr, append-nil, append_assoc, if◌then◌else◌, is_ok, map, option_to_list, ◌++◌, ◌≡◌, refl, sym, ap, subst, ◌∙◌, ℕ, nat_eq, Bool, List, [], ◌∷◌, Option, Some, None, Result}
use Rattle.vt_spec.specs.declared.errors.Deny.{Deny}
use Rattle.vt_spec.proofs.Common.{Fresh, Queued, Reply, Sched, Turned, Who, World, first_of_list, item_turn, none_is_some, queue_of, queue_turn, turn}
use Rattle.std.proofs.Math.Seq.{take-suc}
use Rattle.std.proofs.lemmas.List.{map-append}
use Rattle.vt_spec.specs.Lists.{holds_of}
use Rattle.vt_laws_rules.specs.Numbers.{Allotment}
use Rattle.vt_spec.specs.Machine.Run.{Serves}
use Rattle.vt_laws_rules.proofs.numbers.Texts.{room_serves}
use Rattle.vt_laws_trees.specs.Runs.Handed.{may_be_given}
use Rattle.vt_laws_turns.specs.Commits.{Turn}
use Rattle.vt_laws_turns.proofs.same_states.PlaysAlike.{played_turns_are_whole_calls, plays_begin, plays_go_on}
use Rattle.vt_laws_turns.specs.Dated.{SameDated}
use Rattle.vt_request.specs.declared.answer.Answer.{Answer}
use Rattle.vt_queues.specs.QueuesValue.{queues_meant, who_meant}
use Rattle.vt_queues.specs.declared.item.Who.{Who as WhoCode}
use Rattle.vt_queues.specs.declared.queues.Queues.{Queues}
use Rattle.vt_turns.specs.Ends.{IsReady}
use Rattle.vt_turns.specs.SchedValue.{Sched as SchedCode, reply_meant, sched_at, sched_meant}
use Rattle.vt_turns.specs.Turned.{AreRunWhole, IsHanded, IsPlayedBy, PlaysAs, Turns, TurnsAndKeeps, TurnsAs, allocates, answered, first_allocates, queues_after, supply}
use Rattle.vt_turns.specs.declared.sched.Reply.{Reply as ReplyCode}
use Rattle.vt_turns.specs.declared.state.State.{State}
use Rattle.vt_turns.proofs.StateTurns.{dated_itself}

-- the turn of the first item of a queue
turn_of_first : (sched : Sched ℕ) (who : Who) (first : Queued) (fresh : Option (Fresh ℕ))
    → first_of_list (queue_of sched.queues who) ≡ Some first
    → turn nat_eq sched who fresh ≡ item_turn nat_eq sched who first.line first.item fresh
unfolding turn
turn_of_first sched who first fresh there = by (queue_of sched.queues who) there
  where
    by : (items : List Queued) → first_of_list items ≡ Some first
        → queue_turn nat_eq sched who items fresh ≡ item_turn nat_eq sched who first.line first.item fresh
    by [] e = none_is_some first e
    by (one ∷ rest) e =
        let same : one ≡ first = cc in
        ap (λ (q : Queued). item_turn nat_eq sched who q.line q.item fresh) same

turn_of_none : (sched : Sched ℕ) (who : Who) (fresh : Option (Fresh ℕ))
    → first_of_list (queue_of sched.queues who) ≡ None
    → turn nat_eq sched who fresh ≡ record { sched = sched; reply = None }
unfolding turn
turn_of_none sched who fresh none = by (queue_of sched.queues who) none
  where
    by : (items : List Queued) → first_of_list items ≡ None
        → queue_turn nat_eq sched who items fresh ≡ record { sched = sched; reply = None }
    by [] e = refl
    by (one ∷ rest) e = absurd cc

module _ {C : Type 0} (seen : C → World ℕ) (old : SchedCode C) (who : Who) where
  abbrev first : Option Queued
  first = first_of_list (queue_of (queues_meant old.queues) who)

  -- for an empty queue nothing is done
  pub idle_turn : IsReady (seen old.state.world) → first ≡ None → TurnsAs seen old who None old
  idle_turn ready none =
      let is = turn_of_none (sched_meant seen old) who (Some ready.0.0.new) none in
      record {
        given = Some ready.0.0;
        handed = ready.0.1;
        replies = ap (λ (t : Turned ℕ). t.reply) is;
        queues_left = ap (λ (t : Turned ℕ). t.sched.queues) is;
        under_way = ap (λ (t : Turned ℕ). t.sched.under_way) is;
        world = subst (λ (t : Turned ℕ). SameDated t.sched.world (seen old.state.world)) (sym is)
            (dated_itself (seen old.state.world));
        ready = ready;
      }

  -- the turn of what is first
  pub turn_of_item : (queued : Queued) → first ≡ Some queued → (answer : Option (Result Answer Deny)) (state : State C)
      (queues : Queues) → Turns seen (λ waiting number fresh. item_turn nat_eq (sched_at seen old.state waiting) who number
      queued.item fresh) (allocates who queued.item) who old.state answer state
      → queues_meant queues ≡ queues_after who answer (queues_meant old.queues)
      → TurnsAs seen old who (answered queued.line answer) (record { queues = queues; state = state })
  turn_of_item queued there answer state queues turns left =
      let is = turn_of_first (sched_meant seen old) who queued (supply turns.given) there in
      let turned = turns.turned (queues_meant old.queues) queued.line in
      record {
        given = turns.given;
        handed = subst (λ b. IsHanded b (seen old.state.world) turns.given)
            (sym (ap (holds_of (λ (q : Queued). allocates who q.item)) there)) turns.handed;
        replies = ap (λ (t : Turned ℕ). t.reply) is ∙ turned.reply;
        queues_left = ap (λ (t : Turned ℕ). t.sched.queues) is ∙ turned.queues_left ∙ sym left;
        under_way = ap (λ (t : Turned ℕ). t.sched.under_way) is ∙ turned.under_way;
        world = subst (λ (t : Turned ℕ). SameDated t.sched.world (seen state.world)) (sym is) turned.world;
        ready = turns.ready;
      }

-- So are turns of a scheduler whose parts are seen.
module _ {C : Type 0} (seen : C → World ℕ) (who : Who) (queues : Queues) (state : State C) (old : SchedCode C)
    (is : record { queues = queues; state = state } ≡ old) where
  pub idle_seen : IsReady (seen old.state.world) → first_of_list (queue_of (queues_meant queues) who) ≡ None
      → TurnsAs seen old who None old
  idle_seen ready none = idle_turn seen old who ready
      (ap (λ (s : SchedCode C). first_of_list (queue_of (queues_meant s.queues) who)) (sym is) ∙ none)

  pub turn_seen : IsReady (seen old.state.world) → (queued : Queued)
      → first_of_list (queue_of (queues_meant queues) who) ≡ Some queued → (answer : Option (Result Answer Deny))
      (after : State C) (left : Queues)
      → (IsReady (seen state.world) → Turns seen (λ waiting number fresh. item_turn nat_eq (sched_at seen state waiting) who
      number queued.item fresh) (allocates who queued.item) who state answer after)
      → queues_meant left ≡ queues_after who answer (queues_meant queues)
      → TurnsAs seen old who (answered queued.line answer) (record { queues = left; state = after })
  turn_seen ready queued there answer after left turns shorter =
      subst (λ (s : SchedCode C). IsReady (seen s.state.world)
      → TurnsAs seen s who (answered queued.line answer) (record { queues = left; state = after })) is
      (λ now. turn_of_item seen (record { queues = queues; state = state }) who queued there answer after left (turns now)
      shorter) ready

-- a schedule up to the next place
longer : (schedule : List WhoCode) (place : ℕ) (one : WhoCode) → place < length schedule
    → one ≡ slice_index_or schedule place one
    → map who_meant (take (place + 1) schedule) ≡ map who_meant (take place schedule) ++ (who_meant one ∷ [])
longer schedule place one within at =
    ap (λ n. map who_meant (take n schedule)) (add-one place)
    ∙ ap (map who_meant) (take-suc schedule place one within)
    ∙ map-append who_meant (take place schedule) (slice_index_or schedule place one ∷ [])
    ∙ ap (λ (w : WhoCode). map who_meant (take place schedule) ++ (who_meant w ∷ [])) (sym at)

module _ {C : Type 0} (seen : C → World ℕ) where
  -- one turn more
  pub plays_on : (schedule : List Who) (replies : List Reply) (old now : SchedCode C) → PlaysAs seen old schedule replies now
      → (who : Who) (reply : Option Reply) (next : SchedCode C) → TurnsAs seen now who reply next
      → PlaysAs seen old (schedule ++ (who ∷ [])) (replies ++ option_to_list reply) next
  plays_on [] replies old now plays who reply next turns =
      let nothing : PlaysAs seen next [] [] next = (refl, refl) in (
        reply,
        next,
        [],
        subst (λ (s : SchedCode C). TurnsAs seen s who reply next) plays.1 turns,
        ap (λ (r : List Reply). r ++ option_to_list reply) plays.0 ∙ sym (append-nil (option_to_list reply)),
        nothing,
      )
  plays_on (first ∷ schedule) replies old now plays who reply next turns = (
    plays.0,
    plays.1,
    plays.2 ++ option_to_list reply,
    plays.3,
    ap (λ (r : List Reply). r ++ option_to_list reply) plays.4
        ∙ append_assoc (option_to_list plays.0) plays.2 (option_to_list reply),
    plays_on schedule plays.2 plays.1 now plays.5 who reply next turns,
  )

  -- and so are those of a schedule up to the next place
  pub plays_next : (schedule : List WhoCode) (place : ℕ) (one : WhoCode) → place < length schedule
      → one ≡ slice_index_or schedule place one → (replies after : List ReplyCode) (old now next : SchedCode C)
      → PlaysAs seen old (map who_meant (take place schedule)) (map reply_meant replies) now
      → TurnsAndKeeps seen now (who_meant one) replies after next
      → PlaysAs seen old (map who_meant (take (place + 1) schedule)) (map reply_meant after) next
  plays_next schedule place one within at replies after old now next plays kept =
      subst (λ (s : List Who). PlaysAs seen old s (map reply_meant after) next) (sym (longer schedule place one within at))
      (subst (λ (r : List Reply). PlaysAs seen old (map who_meant (take place schedule) ++ (who_meant one ∷ [])) r next)
      (sym kept.2) (plays_on (map who_meant (take place schedule)) (map reply_meant replies) old now plays
      (who_meant one) kept.0 next kept.1))

-- Turns of the definitions

-- the numbers that a turn is handed are not in use
pub unused : (may_fail : Bool) (world : World ℕ) (given : Option Allotment) → IsHanded may_fail world given
    → (fresh : Fresh ℕ) → supply given ≡ Some fresh → Serves nat_eq world fresh
unused may_fail world None handed fresh e = absurd cc
unused may_fail world (Some allotment) handed fresh e =
    let same : allotment.new ≡ fresh = cc in
    subst (Serves nat_eq world) same (room_serves may_be_given world allotment handed.serves)

module _ {C : Type 0} (seen : C → World ℕ) where
  pub nothing_played : (old : SchedCode C) → IsPlayedBy seen old [] [] old
  nothing_played old = record { turns = []; whose = refl; played = plays_begin (sched_meant seen old) }

  -- one turn more
  pub played_on : (schedule : List Who) (replies : List Reply) (old now : SchedCode C)
      → IsPlayedBy seen old schedule replies now → IsReady (seen now.state.world) → (who : Who) (reply : Option Reply)
      (next : SchedCode C) → TurnsAs seen now who reply next
      → IsPlayedBy seen old (schedule ++ (who ∷ [])) (replies ++ option_to_list reply) next
  played_on schedule replies old now before ready who reply next turns = record {
    turns = before.turns ++ ((who, supply turns.given) ∷ []);
    whose = map-append (λ (given : Turn). given.0) before.turns ((who, supply turns.given) ∷ [])
        ∙ ap (λ (list : List Who). list ++ (who ∷ [])) before.whose;
    played = plays_go_on (sched_meant seen old) (sched_meant seen now) (sched_meant seen next) before.turns replies
        (who, supply turns.given) reply before.played ready.1
        (unused (first_allocates seen (sched_meant seen now) who) (seen now.state.world) turns.given turns.handed)
        turns.replies
        (record { world = turns.world; queues = turns.queues_left; under_way = turns.under_way });
  }

  -- up to the next place of a schedule
  pub played_next : (schedule : List WhoCode) (place : ℕ) (one : WhoCode) → place < length schedule
      → one ≡ slice_index_or schedule place one → (replies after : List ReplyCode) (old now next : SchedCode C)
      → IsPlayedBy seen old (map who_meant (take place schedule)) (map reply_meant replies) now
      → IsReady (seen now.state.world) → TurnsAndKeeps seen now (who_meant one) replies after next
      → IsPlayedBy seen old (map who_meant (take (place + 1) schedule)) (map reply_meant after) next
  played_next schedule place one within at replies after old now next before ready kept =
      subst (λ (s : List Who). IsPlayedBy seen old s (map reply_meant after) next)
      (sym (longer schedule place one within at))
      (subst (λ (r : List Reply). IsPlayedBy seen old (map who_meant (take place schedule) ++ (who_meant one ∷ [])) r next)
      (sym kept.2) (played_on (map who_meant (take place schedule)) (map reply_meant replies) old now before ready
      (who_meant one) kept.0 next kept.1))

  -- turns that are played are whole calls
  pub run_whole_so : (schedule : List Who) (replies : List Reply) (old now : SchedCode C)
      → IsPlayedBy seen old schedule replies now → AreRunWhole seen old schedule replies now
  run_whole_so schedule replies old now by = record {
    turns = by.turns;
    whose = by.whose;
    whole = played_turns_are_whole_calls (sched_meant seen old) (sched_meant seen now) by.turns replies by.played;
  }

-- what was pushed, where there was room
pub pushed_with_room : {T E : Type 0} (result : Result T E) (old new : List ReplyCode) (reply : ReplyCode) (P : Type 0)
    → ¬ P → OnErr result P → new ≡ (if is_ok result then old ++ reply ∷ [] else old)
    → map reply_meant new ≡ map reply_meant old ++ option_to_list (Some (reply_meant reply))
pushed_with_room (Ok t) old new reply P room full is = ap (map reply_meant) is ∙ map-append reply_meant old (reply ∷ [])
pushed_with_room (Err e) old new reply P room full is = absurd (room full)
