-- What the definitions see of a scheduler.
use Rattle.std.specs.Prelude.{List, [], map, ℕ}
use Rattle.vt_spec.specs.Machine.Turns.{Progress, Queue, Reply as ReplyMeant, Sched as SchedMeant}
use Rattle.vt_spec.specs.Machine.World.{World}
use Rattle.vt_request.specs.Answers.{result_of}
use Rattle.vt_queues.specs.QueuesValue.{queues_meant}
use Rattle.vt_queues.specs.declared.queues.Queues.{Queues}
use Rattle.vt_turns.specs.declared.sched.Reply.{Reply}
use Rattle.vt_turns.specs.declared.state.State.{State}
use Rattle.vt_turns.specs.Kept.{progress_of}

-- a scheduler, as contracts see it
pub record Sched (C : Type 0) : Type 0 where
  pub queues : Queues
  pub state : State C

abbrev pub reply_meant : Reply → ReplyMeant
reply_meant reply = record { line = reply.line; answer = result_of reply.answer }

-- a world and queues before the first turn
abbrev pub begins : World ℕ → Queues → SchedMeant ℕ
begins world queues = record { world = world; queues = queues_meant queues; under_way = [] }

module _ {C : Type 0} where
  abbrev pub under_way_meant : State C → List (Progress ℕ)
  under_way_meant state = map progress_of state.under_way.items

  -- of code's worlds, each of which the definitions see so: a state, with these queues
  abbrev pub sched_at : (C → World ℕ) → State C → List Queue → SchedMeant ℕ
  sched_at seen state queues =
      record { world = seen state.world; queues = queues; under_way = under_way_meant state }

  abbrev pub sched_meant : (C → World ℕ) → Sched C → SchedMeant ℕ
  sched_meant seen sched = sched_at seen sched.state (queues_meant sched.queues)
