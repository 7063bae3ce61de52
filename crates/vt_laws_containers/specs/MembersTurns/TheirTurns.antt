-- Turns of the tasks of a sealed set, whatever they call (profile).
use Rattle.std.specs.Prelude.{Bool, List, Option, Result, Some, false, nat_eq, true, ℕ, ◌≡◌}
use Rattle.vt_spec.specs.declared.errors.Deny.{Deny}
use Rattle.vt_spec.specs.Language.Answers.{Answer}
use Rattle.vt_spec.specs.Language.Calls.{TaskName, same_name}
use Rattle.vt_spec.specs.Language.Calls.Call.{Setns}
use Rattle.vt_spec.specs.Language.Script.Who.{Someone}
use Rattle.vt_spec.specs.Lists.{Fresh, first_of_list, is_among}
use Rattle.vt_spec.specs.Machine.Run.{Serves}
use Rattle.vt_spec.specs.Machine.Sealed.{part_of, sealed}
use Rattle.vt_spec.specs.Machine.Turns.{Item, Queued, Reply, Sched, queue_of, turn}
use Rattle.vt_spec.specs.Machine.Turns.Item.{Asks, Calls}
use Rattle.vt_laws_members.specs.Changes.Changes.{grown}
use Rattle.vt_laws_containers.specs.SealedTurns.MembersTurns.{HasCallsUnderWay, TurnsAlikeFor}
use Rattle.vt_laws_turns.specs.Commits.{Turn, left_by}
use Rattle.vt_laws_containers.specs.SealedTurns.OutsidersTurns.{AreOutsidersTurns, HasItSealed, IsFirst, their_calls}

-- the item is a directive
abbrev pub is_directive : Item → Bool
is_directive (Asks directive) = true
is_directive item = false

-- the set after an item is answered: the one that a call leaves
abbrev pub grown_by : List TaskName → TaskName → Item → Result Answer Deny → List TaskName
grown_by names name (Calls call) answer = grown names name call answer
grown_by names name item answer = names

-- the set after a turn whose queue has this first item, by its reply
abbrev pub grown_after : List TaskName → TaskName → Option Queued → Option Reply → List TaskName
grown_after names name (Some first) (Some reply) = grown_by names name first.item reply.answer
grown_after names name first reply = names

-- the set that a turn of one of its tasks leaves
abbrev pub set_left : Sched ℕ → List TaskName → TaskName → Option (Fresh ℕ) → List TaskName
set_left sched names name fresh =
    grown_after names name (first_of_list (queue_of sched.queues (Someone name)))
    (turn nat_eq sched (Someone name) fresh).reply

-- a turn of a task of a sealed set, by numbers that are not in use, of no directive and of no call that enters a
-- namespace of others
pub record IsTurnOfTheirs (sched : Sched ℕ) (names : List TaskName) (name : TaskName) (fresh : Option (Fresh ℕ))
    : Type 0 where
  pub has : HasCallsUnderWay sched
  pub sealed_off : sealed nat_eq sched.world names ≡ true
  pub theirs : is_among same_name name names ≡ true
  pub among_them : (member : TaskName) → IsFirst sched (Someone name) (Setns member)
      → is_among same_name member names ≡ true
  pub no_directive : (first : Queued) → first_of_list (queue_of sched.queues (Someone name)) ≡ Some first
      → is_directive first.item ≡ false
  pub serves : (given : Fresh ℕ) → fresh ≡ Some given → Serves nat_eq sched.world given

-- It goes in their part as in the world: it has the same reply, if any, and leaves the same of the set that its call
-- leaves.
abbrev pub EachTurnOfTheirsIsOfTheirPart : Type 0
EachTurnOfTheirsIsOfTheirPart =
    (sched : Sched ℕ) (names : List TaskName) (name : TaskName) (fresh : Option (Fresh ℕ))
    → IsTurnOfTheirs sched names name fresh
    → TurnsAlikeFor sched names (set_left sched names name fresh) name fresh

-- two states have one part of a set, its calls under way, and one queue of each of its tasks
pub record HaveOnePart (one other : Sched ℕ) (names : List TaskName) : Type 0 where
  pub part : part_of nat_eq other.world names ≡ part_of nat_eq one.world names
  pub calls : their_calls names other.under_way ≡ their_calls names one.under_way
  pub queues : (member : TaskName) → is_among same_name member names ≡ true
      → queue_of other.queues (Someone member) ≡ queue_of one.queues (Someone member)

-- a turn of theirs has one reply in two states, and leaves one part of a set, its calls under way, and one queue of each
-- of theirs
pub record TurnsAlikeIn (one other : Sched ℕ) (names set : List TaskName) (name : TaskName) (fresh : Option (Fresh ℕ))
    : Type 0 where
  pub reply : (turn nat_eq other (Someone name) fresh).reply ≡ (turn nat_eq one (Someone name) fresh).reply
  pub part : part_of nat_eq (turn nat_eq other (Someone name) fresh).sched.world set
      ≡ part_of nat_eq (turn nat_eq one (Someone name) fresh).sched.world set
  pub calls : their_calls set (turn nat_eq other (Someone name) fresh).sched.under_way
      ≡ their_calls set (turn nat_eq one (Someone name) fresh).sched.under_way
  pub queues : (member : TaskName) → is_among same_name member names ≡ true
      → queue_of (turn nat_eq other (Someone name) fresh).sched.queues (Someone member)
      ≡ queue_of (turn nat_eq one (Someone name) fresh).sched.queues (Someone member)

-- After turns of outsiders, however many, a turn of theirs goes as it would have gone before them, by the same numbers.
abbrev pub OutsidersChangeNoTurnOfTheirs : Type 0
OutsidersChangeNoTurnOfTheirs =
    (sched : Sched ℕ) (names : List TaskName) (schedule : List Turn) (name : TaskName) (fresh : Option (Fresh ℕ))
    → HasItSealed sched names → AreOutsidersTurns sched names schedule → IsTurnOfTheirs sched names name fresh
    → ((given : Fresh ℕ) → fresh ≡ Some given → Serves nat_eq (left_by sched schedule).world given)
    → TurnsAlikeIn sched (left_by sched schedule) names (set_left sched names name fresh) name fresh
