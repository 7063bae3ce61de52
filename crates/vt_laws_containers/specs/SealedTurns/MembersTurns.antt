-- Turns of the tasks of a set, in the world and in the part of the set (profile).
use Rattle.std.specs.Prelude.{List, None, Option, Some, false, is_ok, is_some, nat_eq, true, ℕ, ◌≡◌}
use Rattle.vt_spec.specs.Language.Calls.{Call, ForkWords, TaskName, same_name}
use Rattle.vt_spec.specs.Language.Calls.Call.{Exit, Fork}
use Rattle.vt_spec.specs.Language.Script.Who.{Someone}
use Rattle.vt_spec.specs.Lists.{Fresh, first_of_list, is_among}
use Rattle.vt_spec.specs.Machine.Invariants.{IsWorld}
use Rattle.vt_spec.specs.Machine.Sealed.{part_of}
use Rattle.vt_spec.specs.Machine.Turns.{Progress, Sched, is_overtaken, queue_of, turn}
use Rattle.vt_spec.specs.Machine.World.{Task}
use Rattle.vt_spec.specs.Machine.Policy.{policy}
use Rattle.vt_spec.specs.Machine.Turns.Item.{Calls}
use Rattle.vt_laws_members.specs.Changes.Changes.{EndsAlike, IsCallOfTheirs, grown}
use Rattle.vt_laws_turns.specs.Commits.{Turn, left_by}
use Rattle.vt_laws_turns.specs.Holds.Held.{HoldsWhatIsSeen, IsUnderWayOf}
use Rattle.vt_laws_containers.specs.SealedTurns.OutsidersTurns.{AreOutsidersTurns, HasItSealed, their_calls}

-- the part of a scheduler's state that is theirs: the part of its world, and their calls under way; queues are whole
abbrev pub part_of_sched : List TaskName → Sched ℕ → Sched ℕ
part_of_sched names sched = record {
  world = part_of nat_eq sched.world names;
  queues = sched.queues;
  under_way = their_calls names sched.under_way;
}

-- a world with all invariants, and calls under way that hold what their tasks see
pub record HasCallsUnderWay (sched : Sched ℕ) : Type 0 where
  pub is : IsWorld nat_eq sched.world
  pub holds : HoldsWhatIsSeen sched

-- A call of theirs is overtaken in the world just if it is in their part.
abbrev pub TheirCallsAreOvertakenAlike : Type 0
TheirCallsAreOvertakenAlike =
    (sched : Sched ℕ) (names : List TaskName) (task : Task ℕ) (progress : Progress ℕ) → HasCallsUnderWay sched
    → IsUnderWayOf sched task progress → is_among same_name progress.task names ≡ true
    → is_overtaken nat_eq (part_of nat_eq sched.world names) task progress
    ≡ is_overtaken nat_eq sched.world task progress

-- A turn of one of their tasks answers something in the world just if it does in their part,
abbrev pub TheirTurnsAnswerAlike : Type 0
TheirTurnsAnswerAlike =
    (sched : Sched ℕ) (names : List TaskName) (name : TaskName) (fresh : Option (Fresh ℕ)) → HasCallsUnderWay sched
    → is_among same_name name names ≡ true
    → is_some (turn nat_eq (part_of_sched names sched) (Someone name) fresh).reply
    ≡ is_some (turn nat_eq sched (Someone name) fresh).reply

-- and where it answers nothing it leaves of the part what it leaves in the part.
abbrev pub TheirWordsAreOfTheirPart : Type 0
TheirWordsAreOfTheirPart =
    (sched : Sched ℕ) (names : List TaskName) (name : TaskName) (fresh : Option (Fresh ℕ)) → HasCallsUnderWay sched
    → is_among same_name name names ≡ true → (turn nat_eq sched (Someone name) fresh).reply ≡ None
    → (turn nat_eq (part_of_sched names sched) (Someone name) fresh).sched
    ≡ part_of_sched names (turn nat_eq sched (Someone name) fresh).sched

-- a turn of theirs answers what it answers where the world is the part, and leaves what it leaves there of the part of
-- a set, which is theirs or the one that a call leaves
pub record TurnsAlikeFor (sched : Sched ℕ) (names set : List TaskName) (name : TaskName) (fresh : Option (Fresh ℕ))
    : Type 0 where
  pub reply : (turn nat_eq (part_of_sched names sched) (Someone name) fresh).reply
      ≡ (turn nat_eq sched (Someone name) fresh).reply
  pub left : part_of_sched set (turn nat_eq (part_of_sched names sched) (Someone name) fresh).sched
      ≡ part_of_sched set (turn nat_eq sched (Someone name) fresh).sched

-- what a turn of theirs answers and leaves of the part is what it answers and leaves where the world is the part
abbrev pub IsOfTheirPart : Sched ℕ → List TaskName → TaskName → Option (Fresh ℕ) → Type 0
IsOfTheirPart sched names name fresh = TurnsAlikeFor sched names names name fresh

-- a turn of a task of theirs that answers this call
pub record AnswersACall (sched : Sched ℕ) (names : List TaskName) (name : TaskName) (call : Call) (fresh : Fresh ℕ)
    : Type 0 where
  pub has : HasCallsUnderWay sched
  pub theirs : is_among same_name name names ≡ true
  pub line : ℕ
  pub first : first_of_list (queue_of sched.queues (Someone name)) ≡ Some (record { line = line; item = Calls call })
  pub answers : is_some (turn nat_eq sched (Someone name) (Some fresh)).reply ≡ true

-- A turn that answers a call which ends alike in the part, and leaves the set its tasks, is of their part.
abbrev pub TheirAnswersAreOfTheirPart : Type 0
TheirAnswersAreOfTheirPart =
    (sched : Sched ℕ) (names : List TaskName) (name : TaskName) (call : Call) (fresh : Fresh ℕ)
    → AnswersACall sched names name call fresh → EndsAlike sched.world names name call fresh fresh
    → grown names name call (policy nat_eq fresh sched.world name call).answer ≡ names
    → IsOfTheirPart sched names name (Some fresh)

-- So is each that refuses a call, where the set is sealed off and the call enters no namespace but one of theirs.
abbrev pub TheirRefusalsAreOfTheirPart : Type 0
TheirRefusalsAreOfTheirPart =
    (sched : Sched ℕ) (names : List TaskName) (name : TaskName) (call : Call) (fresh : Fresh ℕ)
    → AnswersACall sched names name call fresh → IsCallOfTheirs sched.world names name call
    → is_ok (policy nat_eq fresh sched.world name call).answer ≡ false
    → IsOfTheirPart sched names name (Some fresh)

-- A turn that answers any call which ends alike in the part goes alike for the set that the call leaves: with the child
-- that it makes, without a task that ends.
abbrev pub TheirAnswersAreOfTheGrownPart : Type 0
TheirAnswersAreOfTheGrownPart =
    (sched : Sched ℕ) (names : List TaskName) (name : TaskName) (call : Call) (fresh : Fresh ℕ)
    → AnswersACall sched names name call fresh → EndsAlike sched.world names name call fresh fresh
    → TurnsAlikeFor sched names (grown names name call (policy nat_eq fresh sched.world name call).answer) name
    (Some fresh)

-- Where the set is sealed off, so does each that answers a fork of theirs, granted or refused,
abbrev pub TheirForksAreOfTheGrownPart : Type 0
TheirForksAreOfTheGrownPart =
    (sched : Sched ℕ) (names : List TaskName) (name : TaskName) (words : Option ForkWords) (fresh : Fresh ℕ)
    → AnswersACall sched names name (Fork words) fresh → IsCallOfTheirs sched.world names name (Fork words)
    → TurnsAlikeFor sched names (grown names name (Fork words)
    (policy nat_eq fresh sched.world name (Fork words)).answer) name (Some fresh)

-- and each that answers an exit.
abbrev pub TheirExitsAreOfTheGrownPart : Type 0
TheirExitsAreOfTheGrownPart =
    (sched : Sched ℕ) (names : List TaskName) (name : TaskName) (fresh : Fresh ℕ)
    → AnswersACall sched names name Exit fresh → IsCallOfTheirs sched.world names name Exit
    → TurnsAlikeFor sched names (grown names name Exit (policy nat_eq fresh sched.world name Exit).answer) name
    (Some fresh)

-- Turns of outsiders overtake no call of theirs.
abbrev pub OutsidersOvertakeNoCallOfTheirs : Type 0
OutsidersOvertakeNoCallOfTheirs =
    (sched : Sched ℕ) (names : List TaskName) (schedule : List Turn) (task : Task ℕ) (progress : Progress ℕ)
    → HasItSealed sched names → HoldsWhatIsSeen sched → AreOutsidersTurns sched names schedule
    → IsUnderWayOf sched task progress → is_among same_name progress.task names ≡ true
    → IsUnderWayOf (left_by sched schedule) task progress
    × (is_overtaken nat_eq (left_by sched schedule).world task progress ≡ is_overtaken nat_eq sched.world task progress)
