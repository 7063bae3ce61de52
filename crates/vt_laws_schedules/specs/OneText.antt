-- A schedule whose turns go on from states that are the same, and that gives numbers out again, has the one text of its
-- script (profile).
use Rattle.std.specs.Prelude.{Bool, List, None, Option, Some, [], false, nat_eq, true, ℕ, ⊤, ◌++◌, ◌+◌, ◌∷◌, ◌≡◌}
use Rattle.vt_laws_rules.specs.Numbers.{Allotment}
use Rattle.vt_laws_trees.specs.Runs.Handed.{may_be_given}
use Rattle.vt_laws_trees.specs.Runs.Runs.{LeavesEndless, OpensInHand, ServesInHand}
use Rattle.vt_laws_turns.specs.SameStates.{SameSched}
use Rattle.vt_spec.specs.Language.Script.{Grammar, Version, Who, lines_of, overlays, whole}
use Rattle.vt_spec.specs.Lists.{Fresh, first_of_list, holds_of}
use Rattle.vt_spec.specs.Machine.Run.{numbers_for}
use Rattle.vt_spec.specs.Machine.Turns.{Item, Sched, first_sched, played, queue_of, queues_of, reply_text, schedule_who, turn_of_line, turns_text}
use Rattle.vt_spec.specs.Machine.World.{opening}

-- The text of a script's queues in the order of a schedule, in a grammar; an allocation fails in the turns of those lines
-- of the schedule whose place in the list is `true`.
abbrev pub schedule_text : Grammar → List Bool → (script schedule : List ℕ) → List ℕ
schedule_text grammar refused script schedule = played 1 (first_sched grammar script) (lines_of schedule) refused

-- that of the product as it is today, in a version of the script's language
abbrev pub turns_text_as : Version → List Bool → (script schedule : List ℕ) → List ℕ
turns_text_as version refused script schedule = schedule_text (overlays version) refused script schedule

-- The text of the whole machine is that of its grammar.
abbrev pub WholeSchedulesAreTold : Type 0
WholeSchedulesAreTold =
    (version : Version) (refused : List Bool) (script schedule : List ℕ)
    → turns_text version refused script schedule ≡ schedule_text (whole version) refused script schedule

module _ (may : Who → Item → Bool) where
  -- An allocation may fail in the turn that a line of a schedule gives, where this tells in which first items of queues.
  abbrev pub turn_may_fail : Sched ℕ → Option Who → Bool
  turn_may_fail sched given =
      holds_of (λ who. holds_of (λ first. may who first.item) (first_of_list (queue_of sched.queues who))) given

  -- Which text may be written for these lines of a schedule, of which the refused ones are given from the first line on:
  -- each turn is handed a supply with room out of the numbers in hand, and the schedule goes on from any state that is the
  -- same.
  abbrev pub TellsTurns : (ℕ → Bool) → Sched ℕ → List (List ℕ) → List Bool → List ℕ → Type 0
  TellsTurns in_hand sched [] refused text = text ≡ []
  TellsTurns in_hand sched (line ∷ lines) [] text = ⊥
  TellsTurns in_hand sched (line ∷ lines) (true ∷ refused) text =
      (turn_may_fail sched (schedule_who line) ≡ true)
      × (next : Sched ℕ) × SameSched (turn_of_line sched (schedule_who line) None).sched next
      × (rest : List ℕ) × (text ≡ reply_text (turn_of_line sched (schedule_who line) None).reply ++ rest)
      × TellsTurns in_hand next lines refused rest
  TellsTurns in_hand sched (line ∷ lines) (false ∷ refused) text =
      (allotment : Allotment) × ServesInHand in_hand sched.world allotment
      × (next : Sched ℕ) × SameSched (turn_of_line sched (schedule_who line) (Some allotment.new)).sched next
      × (rest : List ℕ) × (text ≡ reply_text (turn_of_line sched (schedule_who line) (Some allotment.new)).reply ++ rest)
      × TellsTurns in_hand next lines refused rest

  -- In those of these lines whose place in the list is `true` an allocation may fail, in the state before it. The first
  -- of them has this number.
  abbrev pub AllocationsMayFail : ℕ → Sched ℕ → List (List ℕ) → List Bool → Type 0
  AllocationsMayFail number sched [] refused = ⊤
  AllocationsMayFail number sched (line ∷ lines) [] = ⊤
  AllocationsMayFail number sched (line ∷ lines) (true ∷ refused) =
      (turn_may_fail sched (schedule_who line) ≡ true)
      × AllocationsMayFail (number + 1) (turn_of_line sched (schedule_who line) None).sched lines refused
  AllocationsMayFail number sched (line ∷ lines) (false ∷ refused) =
      AllocationsMayFail (number + 1) (turn_of_line sched (schedule_who line) (Some (numbers_for number))).sched
      lines refused

-- The text is the one text of a schedule, in some of whose turns an allocation may fail.
pub record IsTextOfSchedule (grammar : Grammar) (may : Who → Item → Bool) (refused : List Bool)
    (script schedule text : List ℕ) : Type 0 where
  pub may_fail : AllocationsMayFail may 1 (first_sched grammar script) (lines_of schedule) refused
  pub told : text ≡ schedule_text grammar refused script schedule

-- the queues of a script in an opening world of these numbers
abbrev pub opening_sched : Grammar → Fresh ℕ → (script : List ℕ) → Sched ℕ
opening_sched grammar fresh script =
    record { world = opening nat_eq fresh; queues = queues_of grammar script; under_way = [] }

-- From any opening world whose numbers are in hand the queues of a script have one text in the order of a schedule,
-- whatever the grammar, and whatever numbers of those in hand each turn is handed.
abbrev pub EveryScheduleHasOneText : Type 0
EveryScheduleHasOneText =
    (grammar : Grammar) (may : Who → Item → Bool) (refused : List Bool) (script schedule text : List ℕ)
    (in_hand : ℕ → Bool) (fresh : Fresh ℕ) → LeavesEndless in_hand → OpensInHand in_hand fresh
    → TellsTurns may in_hand (opening_sched grammar fresh script) (lines_of schedule) refused text
    → IsTextOfSchedule grammar may refused script schedule text

-- So they have where any numbers but `4·c + 3` are handed out.
abbrev pub EveryProgramsScheduleHasOneText : Type 0
EveryProgramsScheduleHasOneText =
    (grammar : Grammar) (may : Who → Item → Bool) (refused : List Bool) (script schedule text : List ℕ)
    (fresh : Fresh ℕ) → OpensInHand may_be_given fresh
    → TellsTurns may may_be_given (opening_sched grammar fresh script) (lines_of schedule) refused text
    → IsTextOfSchedule grammar may refused script schedule text
