-- The lines of a schedule, played one after the other, and the text of the replies.
use Rattle.std.proofs.Common.{◌+◌, ◌<◌, ◌≡◌, refl, sym, ap, subst, ◌∙◌, ℕ, List, [], ◌∷◌, ◌++◌, Option, None, Some, add-one, append-nil, flat_map, length, map, option_map, slice_index_or, take, Result, Ok, Err, IfOk}
use Rattle.std.specs.List.{cons_option, filter_map}
use Rattle.std.proofs.Math.Seq.{take-suc}
use Rattle.std.proofs.lemmas.List.Elements.{filter_map-append}
use Rattle.vt_spec.proofs.Common.{Reply, Version, Who, World, reply_line}
use Rattle.vt_spec.specs.Language.Script.{overlays}
use Rattle.vt_spec.specs.Machine.Turns.{queues_of}
use Rattle.vt_laws_turns.specs.Commits.{text_of_replies}
use Rattle.vt_laws_turns.specs.Restarts.{IsSched}
use Rattle.vt_answers.specs.Numbers.{IsOpened}
use Rattle.vt_queues.specs.QueuesValue.{who_meant}
use Rattle.vt_queues.specs.declared.item.Who.{Who as WhoCode}
use Rattle.vt_request.specs.Answers.{result_of}
use Rattle.vt_turns.specs.Ends.{IsReady}
use Rattle.vt_turns.specs.SchedValue.{Sched as SchedCode, reply_meant, sched_meant}
use Rattle.vt_turns.specs.Turned.{PlaysAs}
use Rattle.vt_turns.specs.declared.sched.Reply.{Reply as ReplyCode}
use Rattle.vt_turns.proofs.PlayedTurns.{plays_are_played}
use Rattle.vt_turns.proofs.Restarts.{restarts_few}
use Rattle.vt_turns.proofs.SchedTurns.{plays_on, run_whole_so}
use Rattle.vt_turns_run.specs.Played.{IsPlayed, TakesLine, turns_in, turns_of}

-- the turns of lines up to the next place
longer : (turns : List (Option WhoCode)) (place : ℕ) (turn : Option WhoCode) → place < length turns
    → turn ≡ slice_index_or turns place turn
    → turns_in (take (place + 1) turns) ≡ turns_in (take place turns) ++ turns_in (turn ∷ [])
longer turns place turn within at =
    ap (λ n. turns_in (take n turns)) (add-one place)
    ∙ ap turns_in (take-suc turns place turn within)
    ∙ filter_map-append (λ (one : Option WhoCode). option_map who_meant one) (take place turns)
    (slice_index_or turns place turn ∷ [])
    ∙ ap (λ (one : Option WhoCode). turns_in (take place turns) ++ turns_in (one ∷ [])) (sym at)

module _ {C : Type 0} (seen : C → World ℕ) where
  -- one line more
  pub plays_line : (turns : List (Option WhoCode)) (place : ℕ) (turn : Option WhoCode) → place < length turns
      → turn ≡ slice_index_or turns place turn → (before after : List ReplyCode) (old now next : SchedCode C)
      → PlaysAs seen old (turns_in (take place turns)) (map reply_meant before) now
      → TakesLine seen now turn before after next
      → PlaysAs seen old (turns_in (take (place + 1) turns)) (map reply_meant after) next
  plays_line turns place None within at before after old now next plays takes =
      subst (λ (s : List Who). PlaysAs seen old s (map reply_meant after) next)
      (sym (longer turns place None within at ∙ append-nil (turns_in (take place turns))))
      (subst (λ (r : List ReplyCode). PlaysAs seen old (turns_in (take place turns)) (map reply_meant r) next) (sym takes.0)
      (subst (λ (state : SchedCode C). PlaysAs seen old (turns_in (take place turns)) (map reply_meant before) state)
      (sym takes.1) plays))
  plays_line turns place (Some who) within at before after old now next plays takes =
      subst (λ (s : List Who). PlaysAs seen old s (map reply_meant after) next) (sym (longer turns place (Some who) within at))
      (subst (λ (r : List Reply). PlaysAs seen old (turns_in (take place turns) ++ (who_meant who ∷ [])) r next) (sym takes.2)
      (plays_on seen (turns_in (take place turns)) (map reply_meant before) old now plays (who_meant who) takes.0 next takes.1))

  -- the world is ready for the next one
  pub ready_after : (turn : Option WhoCode) (before after : List ReplyCode) (now next : SchedCode C)
      → TakesLine seen now turn before after next → IsReady (sched_meant seen now).world
      → IsReady (sched_meant seen next).world
  ready_after None before after now next takes ready =
      subst (λ (state : SchedCode C). IsReady (sched_meant seen state).world) (sym takes.1) ready
  ready_after (Some who) before after now next takes ready = takes.1.ready

-- lines that give the same turns
filtered : {A B : Type 0} (turn : A → Option B) (list : List A) → filter_map turn list ≡ filter_map (λ one. one) (map turn list)
filtered turn [] = refl
filtered turn (a ∷ list) = ap (cons_option (turn a)) (filtered turn list)

pub same_turns : {A A' B : Type 0} (turn : A → Option B) (turn' : A' → Option B) (list : List A) (list' : List A')
    → map turn list ≡ map turn' list' → filter_map turn list ≡ filter_map turn' list'
same_turns turn turn' list list' e =
    filtered turn list ∙ ap (filter_map (λ one. one)) e ∙ sym (filtered turn' list')

module _ {C : Type 0} (seen : C → World ℕ) (first last : SchedCode C) where
  -- the queues of a script, played from the opening world in the order of a schedule
  pub played_so : (version : Version) (script schedule : List ℕ) (replies : List Reply)
      → IsOpened (sched_meant seen first).world → IsReady (sched_meant seen first).world
      → sched_meant seen first
      ≡ record { world = (sched_meant seen first).world; queues = queues_of (overlays version) script; under_way = [] }
      → IsSched (sched_meant seen first) → PlaysAs seen first (turns_of schedule) replies last
      → IsPlayed seen version script schedule replies
  played_so version script schedule replies opened ready begins is plays =
      let by = plays_are_played seen first (turns_of schedule) replies last ready plays in
      record {
        first = first;
        last = last;
        opened = opened;
        ready = ready;
        begins = begins;
        plays = plays;
        whole = run_whole_so seen (turns_of schedule) replies first last by;
        restarts = restarts_few seen (turns_of schedule) replies first last is by;
      }

-- the text of a reply
abbrev pub text_of : ReplyCode → List ℕ
text_of reply = reply_line reply.line (result_of reply.answer)

pub texts_of : (replies : List ReplyCode) → flat_map text_of replies ≡ text_of_replies (map reply_meant replies)
texts_of [] = refl
texts_of (reply ∷ replies) = ap (λ rest. text_of reply ++ rest) (texts_of replies)

-- what holds of a value that is there, and what it implies
pub if_ok : {T E : Type 0} (result : Result T E) (P Q : T → Type 0) → ((t : T) → P t → Q t) → IfOk result P → IfOk result Q
if_ok (Ok t) P Q implies p = implies t p
if_ok (Err e) P Q implies p = p
