-- The turns of code, as the definitions have them.
use Rattle.std.specs.Prelude.{Bool, Err, List, None, Option, Result, Some, [], false, if◌then◌else◌, is_some, map, nat_eq, option_map, option_to_list, true, ℕ, ◌++◌, ◌∷◌, ◌≡◌, ◌≤◌, ◌⊎◌}
use Rattle.vt_spec.specs.declared.errors.Deny.{Deny}
use Rattle.vt_spec.specs.declared.errors.Rule.TheVariants.{S5}
use Rattle.vt_spec.specs.Errors.{denial}
use Rattle.vt_spec.specs.Language.Calls.{Call, TaskName}
use Rattle.vt_spec.specs.Language.Calls.Directive.{AskPeers, AskSealed}
use Rattle.vt_spec.specs.Language.Limits.{most_restarts}
use Rattle.vt_spec.specs.Language.Script.{Who}
use Rattle.vt_spec.specs.Language.Script.Who.{Nobody, Someone}
use Rattle.vt_spec.specs.Lists.{Fresh, first_of_list, holds_of}
use Rattle.vt_spec.specs.Machine.Turns.{Item, Queue, Reply, Sched as SchedMeant, Turned, queue_of, shortened, turn}
use Rattle.vt_spec.specs.Machine.Turns.Item.{Asks, Calls, Refused}
use Rattle.vt_spec.specs.Machine.World.{World}
use Rattle.vt_laws_rules.specs.Numbers.{Allotment}
use Rattle.vt_laws_trees.specs.Runs.Handed.{may_be_given}
use Rattle.vt_laws_trees.specs.Runs.Runs.{ServesInHand}
use Rattle.vt_laws_turns.specs.Commits.{Turn}
use Rattle.vt_laws_turns.specs.Dated.{SameDated}
use Rattle.vt_laws_turns.specs.Restarts.{IsSched, restarts_in}
use Rattle.vt_laws_turns.specs.SameStates.{AreWholeCalls, IsPlayed}
use Rattle.vt_request.specs.declared.answer.Answer.{Answer}
use Rattle.vt_request.specs.Answers.{result_of}
use Rattle.vt_queues.specs.QueuesValue.{queues_meant}
use Rattle.vt_turns.specs.declared.state.State.{State}
use Rattle.vt_turns.specs.declared.sched.Reply.{Reply as ReplyCode}
use Rattle.vt_turns.specs.Ends.{EndsDated, IsReady}
use Rattle.vt_turns.specs.SchedValue.{Sched, reply_meant, sched_meant, under_way_meant}

-- an allocation may fail in it: a call of a task, or a directive that makes a list
abbrev pub allocates : Who → Item → Bool
allocates (Someone name) (Calls call) = true
allocates Nobody (Calls call) = false
allocates who (Asks AskPeers) = true
allocates who (Asks (AskSealed tasks)) = false
allocates who (Refused deny) = false

-- what a turn is handed: numbers that serve the world and leave endless numbers over, or none where an allocation fails
abbrev pub IsHanded : (may_fail : Bool) → World ℕ → Option Allotment → Type 0
IsHanded may_fail world None = may_fail ≡ true
IsHanded may_fail world (Some allotment) = ServesInHand may_be_given world allotment

abbrev pub supply : Option Allotment → Option (Fresh ℕ)
supply given = option_map (λ allotment. allotment.new) given

-- the reply to a line, if this is an answer
abbrev pub answered : ℕ → Option (Result Answer Deny) → Option Reply
answered line answer = option_map (λ result. record { line = line; answer = result_of result }) answer

-- the queues after an answer, or after none
abbrev pub queues_after : Who → Option (Result Answer Deny) → List Queue → List Queue
queues_after who answer queues = if is_some answer then map (shortened who) queues else queues

-- Of code's worlds, each of which the definitions see so
module _ {C : Type 0} (seen : C → World ℕ) where
  -- a call is run whole, or was refused memory as it was read
  abbrev pub RunsWhole : C → TaskName → Call → Result Answer Deny → C → Type 0
  RunsWhole old name call result new =
      EndsDated seen old name call result new ⊎ ((result ≡ Err (denial S5)) × (new ≡ old))

  -- a turn replies to this line of these queues by this answer, or not, and leaves this state
  pub record IsTurned (turned : Turned ℕ) (who : Who) (queues : List Queue) (line : ℕ)
      (answer : Option (Result Answer Deny)) (new : State C) : Type 0 where
    pub reply : turned.reply ≡ answered line answer
    pub queues_left : turned.sched.queues ≡ queues_after who answer queues
    pub under_way : turned.sched.under_way ≡ under_way_meant new
    pub world : SameDated turned.sched.world (seen new.world)

  -- Such a turn, in any queues, of whatever line; an allocation may fail in it. The world is ready for the next one.
  pub record Turns (turn : List Queue → ℕ → Option (Fresh ℕ) → Turned ℕ) (may_fail : Bool) (who : Who)
      (old : State C) (answer : Option (Result Answer Deny)) (new : State C) : Type 0 where
    pub given : Option Allotment
    pub handed : IsHanded may_fail (seen old.world) given
    pub turned : (queues : List Queue) (line : ℕ)
        → IsTurned (turn queues line (supply given)) who queues line answer new
    pub ready : IsReady (seen new.world)

  -- what stands first in a queue allocates
  abbrev pub first_allocates : SchedMeant ℕ → Who → Bool
  first_allocates sched who = holds_of (λ first. allocates who first.item) (first_of_list (queue_of sched.queues who))

  -- The turn of the definitions, for numbers that serve the world, or for none where an allocation fails: it replies so,
  -- and leaves these queues and calls under way, and the same world with all change numbers, which is ready for
  -- the next turn.
  pub record TurnsAs (old : Sched C) (who : Who) (reply : Option Reply) (new : Sched C) : Type 0 where
    pub given : Option Allotment
    pub handed : IsHanded (first_allocates (sched_meant seen old) who) (seen old.state.world) given
    pub replies : (turn nat_eq (sched_meant seen old) who (supply given)).reply ≡ reply
    pub queues_left : (turn nat_eq (sched_meant seen old) who (supply given)).sched.queues ≡ queues_meant new.queues
    pub under_way : (turn nat_eq (sched_meant seen old) who (supply given)).sched.under_way ≡ under_way_meant new.state
    pub world : SameDated (turn nat_eq (sched_meant seen old) who (supply given)).sched.world (seen new.state.world)
    pub ready : IsReady (seen new.state.world)

  -- such a turn, whose reply, if there is one, is kept behind others
  abbrev pub TurnsAndKeeps : Sched C → Who → List ReplyCode → List ReplyCode → Sched C → Type 0
  TurnsAndKeeps old who before after new =
      (reply : Option Reply) × TurnsAs old who reply new
      × (map reply_meant after ≡ map reply_meant before ++ option_to_list reply)

  -- such turns, one after the other, and what they reply
  abbrev pub PlaysAs : Sched C → List Who → List Reply → Sched C → Type 0
  PlaysAs old [] replies new = (replies ≡ []) × (new ≡ old)
  PlaysAs old (who ∷ schedule) replies new =
      (reply : Option Reply) × (between : Sched C) × (later : List Reply) × TurnsAs old who reply between
      × (replies ≡ option_to_list reply ++ later) × PlaysAs between schedule later new

  -- Turns of the definitions, whose they are by the schedule, reply so from the one state, and leave the same state as the
  -- other, with all change numbers.
  pub record IsPlayedBy (old : Sched C) (schedule : List Who) (replies : List Reply) (new : Sched C) : Type 0 where
    pub turns : List Turn
    pub whose : map (λ (given : Turn). given.0) turns ≡ schedule
    pub played : IsPlayed (sched_meant seen old) turns replies (sched_meant seen new)

  -- So the replies are those of what such turns commit, run whole in order; the world is theirs, with all change numbers;
  -- and each queue is what was committed of it, in order, and then what is left of it.
  pub record AreRunWhole (old : Sched C) (schedule : List Who) (replies : List Reply) (new : Sched C) : Type 0 where
    pub turns : List Turn
    pub whose : map (λ (given : Turn). given.0) turns ≡ schedule
    pub whole : AreWholeCalls (sched_meant seen old) turns replies (sched_meant seen new)

  -- Of such turns at most three find a call of a task overtaken, while the task's queue is as it was: so no call restarts
  -- more often before it is answered. The conditions of a scheduler's state are kept.
  pub record RestartsFew (old : Sched C) (schedule : List Who) (replies : List Reply) (new : Sched C) : Type 0 where
    pub by : IsPlayedBy old schedule replies new
    pub at_most_three : (name : TaskName)
        → queue_of (queues_meant new.queues) (Someone name) ≡ queue_of (queues_meant old.queues) (Someone name)
        → restarts_in name (sched_meant seen old) by.turns ≤ most_restarts
    pub conditions : IsSched (sched_meant seen new)
