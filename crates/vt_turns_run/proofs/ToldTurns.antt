-- Turns that are made one after the other tell the one text of their script and schedule.
use Rattle.std.proofs.Common.{◌≡◌, refl, sym, ap, subst, ◌∙◌, ℕ, nat_eq, Bool, true, false, List, [], ◌∷◌, ◌++◌, Option, None, Some, option_to_list}
use Rattle.std.specs.List.{cons_option, filter_map}
use Rattle.vt_spec.proofs.Common.{Reply, Sched, Version, Who, World, lines_of, turn}
use Rattle.vt_spec.specs.Language.Script.{overlays}
use Rattle.vt_spec.specs.Machine.Turns.{queues_of, reply_text, schedule_who, turn_of_line}
use Rattle.vt_laws_rules.specs.Numbers.{Allotment}
use Rattle.vt_laws_trees.specs.Runs.Handed.{may_be_given}
use Rattle.vt_laws_turns.proofs.same_states.TurnsAlike.{same_state_is_an_equivalence}
use Rattle.vt_laws_turns.specs.Commits.{text_of_replies}
use Rattle.vt_laws_turns.specs.SameStates.{SameSched}
use Rattle.vt_laws_schedules.proofs.one_text.SchedulesTold.{every_programs_schedule_has_one_text}
use Rattle.vt_laws_schedules.specs.OneText.{TellsTurns, opening_sched, turn_may_fail}
use Rattle.vt_turns.specs.Ends.{IsReady}
use Rattle.vt_turns.specs.SchedValue.{Sched as SchedCode, sched_meant}
use Rattle.vt_turns.specs.Turned.{IsHanded, PlaysAs, allocates, supply}
use Rattle.vt_turns_run.specs.Played.{IsPlayed, IsTextOfTurns}

abbrev Tells : Sched ℕ → List (List ℕ) → List Bool → List ℕ → Type 0
Tells sched lines refused text = TellsTurns allocates may_be_given sched lines refused text

text_of_both : (reply : Option Reply) (later : List Reply)
    → text_of_replies (option_to_list reply ++ later) ≡ reply_text reply ++ text_of_replies later
text_of_both None later = refl
text_of_both (Some reply) later = refl

-- one line more, whose turn is handed this
line_tells : (sched next : Sched ℕ) (line : List ℕ) (lines : List (List ℕ)) (text rest : List ℕ)
    (given : Option Allotment) → IsHanded (turn_may_fail allocates sched (schedule_who line)) sched.world given
    → SameSched (turn_of_line sched (schedule_who line) (supply given)).sched next
    → text ≡ reply_text (turn_of_line sched (schedule_who line) (supply given)).reply ++ rest
    → (refused : List Bool) × Tells next lines refused rest
    → (refused : List Bool) × Tells sched (line ∷ lines) refused text
line_tells sched next line lines text rest None handed same split later =
    (true ∷ later.0, (handed, next, same, rest, split, later.1))
line_tells sched next line lines text rest (Some allotment) handed same split later =
    (false ∷ later.0, (allotment, handed, next, same, rest, split, later.1))

module _ {C : Type 0} (seen : C → World ℕ) where
  tells : (lines : List (List ℕ)) (old new : SchedCode C) (replies : List Reply) → IsReady (seen old.state.world)
      → PlaysAs seen old (filter_map schedule_who lines) replies new
      → (refused : List Bool) × Tells (sched_meant seen old) lines refused (text_of_replies replies)
  tells [] old new replies ready plays = ([], ap text_of_replies plays.0)
  tells (line ∷ lines) old new replies ready plays = by (schedule_who line) refl plays (tells lines)
    where
      by : (given : Option Who) → schedule_who line ≡ given
          → PlaysAs seen old (cons_option given (filter_map schedule_who lines)) replies new
          → ((now last : SchedCode C) (more : List Reply) → IsReady (seen now.state.world)
          → PlaysAs seen now (filter_map schedule_who lines) more last
          → (refused : List Bool) × Tells (sched_meant seen now) lines refused (text_of_replies more))
          → (refused : List Bool) × Tells (sched_meant seen old) (line ∷ lines) refused (text_of_replies replies)
      by None is goes later =
          line_tells (sched_meant seen old) (sched_meant seen old) line lines (text_of_replies replies)
          (text_of_replies replies) (Some ready.0.0) ready.0.1
          (subst (λ (o : Option Who). SameSched (turn_of_line (sched_meant seen old) o (Some ready.0.0.new)).sched
          (sched_meant seen old)) (sym is) (same_state_is_an_equivalence.itself (sched_meant seen old)))
          (ap (λ (o : Option Who). reply_text (turn_of_line (sched_meant seen old) o (Some ready.0.0.new)).reply
          ++ text_of_replies replies) (sym is)) (later old new replies ready goes)
      by (Some who) is goes later =
          let made = goes.3 in
          let same : SameSched (turn nat_eq (sched_meant seen old) who (supply made.given)).sched
          (sched_meant seen goes.1) =
          record { world = made.world; queues = made.queues_left; under_way = made.under_way } in
          line_tells (sched_meant seen old) (sched_meant seen goes.1) line lines (text_of_replies replies)
          (text_of_replies goes.2) made.given
          (subst (λ (o : Option Who). IsHanded (turn_may_fail allocates (sched_meant seen old) o) (seen old.state.world)
          made.given) (sym is) made.handed)
          (subst (λ (o : Option Who). SameSched (turn_of_line (sched_meant seen old) o (supply made.given)).sched
          (sched_meant seen goes.1)) (sym is) same)
          (ap text_of_replies goes.4 ∙ text_of_both goes.0 goes.2
          ∙ ap (λ reply. reply_text reply ++ text_of_replies goes.2) (sym made.replies)
          ∙ ap (λ (o : Option Who). reply_text (turn_of_line (sched_meant seen old) o (supply made.given)).reply
          ++ text_of_replies goes.2) (sym is)) (later goes.1 new goes.2 made.ready goes.5)

  pub text_of_played : (version : Version) (script schedule : List ℕ) (replies : List Reply)
      → IsPlayed seen version script schedule replies → IsTextOfTurns version script schedule (text_of_replies replies)
  text_of_played version script schedule replies played =
      let told = tells (lines_of schedule) played.first played.last replies played.ready played.plays in
      let opened = played.opened in
      let begins : sched_meant seen played.first ≡ opening_sched (overlays version) opened.0 script =
      played.begins
      ∙ (λ i. record { world = opened.2 i; queues = queues_of (overlays version) script; under_way = [] }) in
      let text = every_programs_schedule_has_one_text (overlays version) allocates told.0 script schedule
      (text_of_replies replies) opened.0 opened.1
      (subst (λ sched. Tells sched (lines_of schedule) told.0 (text_of_replies replies)) begins told.1) in
      record { refused = told.0; may_fail = text.may_fail; told = text.told }
