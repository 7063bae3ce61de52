-- A script is played in the order of a schedule, as the definitions see it.
use Rattle.std.specs.Prelude.{Bool, List, None, Option, Some, [], filter_map, option_map, ℕ, ◌≡◌}
use Rattle.vt_spec.specs.Language.Script.{Version, Who, lines_of, overlays}
use Rattle.vt_spec.specs.Machine.Turns.{Reply, first_sched, queues_of, schedule_who}
use Rattle.vt_spec.specs.Machine.World.{World}
use Rattle.vt_laws_schedules.specs.OneText.{AllocationsMayFail, turns_text_as}
use Rattle.vt_answers.specs.Numbers.{IsOpened}
use Rattle.vt_io.specs.Sink.{Wrote, WroteFront}
use Rattle.vt_io.specs.declared.output.Sink.{Ghosts}
use Rattle.vt_queues.specs.QueuesValue.{who_meant}
use Rattle.vt_queues.specs.declared.item.Who.{Who as WhoCode}
use Rattle.vt_turns.specs.Ends.{IsReady}
use Rattle.vt_turns.specs.SchedValue.{Sched, sched_meant}
use Rattle.vt_turns.specs.Turned.{AreRunWhole, PlaysAs, RestartsFew, TurnsAndKeeps, allocates}
use Rattle.vt_turns.specs.declared.sched.Reply.{Reply as ReplyCode}

-- the turns that the lines of a schedule give, in order: a line of another form gives none
abbrev pub turns_of : List ℕ → List Who
turns_of schedule = filter_map schedule_who (lines_of schedule)

-- the same, of lines that were read
abbrev pub turns_in : List (Option WhoCode) → List Who
turns_in turns = filter_map (λ turn. option_map who_meant turn) turns

module _ {C : Type 0} (seen : C → World ℕ) where
  -- the turn that a line gives is taken, and its reply, if it has one, kept behind others
  abbrev pub TakesLine : Sched C → Option WhoCode → List ReplyCode → List ReplyCode → Sched C → Type 0
  TakesLine old None before after new = (after ≡ before) × (new ≡ old)
  TakesLine old (Some who) before after new = TurnsAndKeeps seen old (who_meant who) before after new

  -- These are the replies of a script in the order of a schedule: its queues stand in the opening world, none of their
  -- calls is under way, and the turns of the schedule reply so, as the clauses `plays`, `whole` and `restarts` of
  -- `Sched::play` have it.
  pub record IsPlayed (version : Version) (script schedule : List ℕ) (replies : List Reply) : Type 0 where
    pub first : Sched C
    pub last : Sched C
    pub opened : IsOpened (sched_meant seen first).world
    pub ready : IsReady (sched_meant seen first).world
    pub begins : sched_meant seen first
        ≡ record { world = (sched_meant seen first).world; queues = queues_of (overlays version) script; under_way = [] }
    pub plays : PlaysAs seen first (turns_of schedule) replies last
    pub whole : AreRunWhole seen first (turns_of schedule) replies last
    pub restarts : RestartsFew seen first (turns_of schedule) replies last

-- A text is the definitions' text of the script in the order of the schedule, where an allocation may have failed in turns
-- that allocate.
pub record IsTextOfTurns (version : Version) (script schedule text : List ℕ) : Type 0 where
  pub refused : List Bool
  pub may_fail : AllocationsMayFail allocates 1 (first_sched (overlays version) script) (lines_of schedule) refused
  pub told : text ≡ turns_text_as version refused script schedule

module _ {W : Type 0} (sink : Ghosts W) where
  -- such a text is written
  pub record WritesReplies (version : Version) (script schedule : List ℕ) (before after : W) : Type 0 where
    pub text : List ℕ
    pub is : IsTextOfTurns version script schedule text
    pub wrote : Wrote sink before after text

  -- or, where a write failed, a beginning of one
  pub record BeginsToWriteReplies (version : Version) (script schedule : List ℕ) (before after : W) : Type 0 where
    pub text : List ℕ
    pub is : IsTextOfTurns version script schedule text
    pub wrote : WroteFront sink before after text
