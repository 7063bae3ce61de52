-- The turns of a script's queues in the order of a schedule: those of the tasks of a set, with the turns of others
-- between them and alone (profile).
use Rattle.std.specs.Prelude.{Bool, Contains, List, None, Option, Some, [], cond, false, length, nat_eq, option_map, option_to_list, true, ℕ, ⊤, ◌++◌, ◌+◌, ◌∷◌, ◌≡◌, ◌≤◌}
use Rattle.vt_spec.specs.Language.Calls.{TaskName, same_name}
use Rattle.vt_spec.specs.Language.Calls.Call.{Setns}
use Rattle.vt_spec.specs.Language.Script.{Version, Who, whole}
use Rattle.vt_spec.specs.Language.Script.Who.{Nobody, Someone}
use Rattle.vt_spec.specs.Lists.{Fresh, is_among}
use Rattle.vt_spec.specs.Machine.Run.{later, numbers_for}
use Rattle.vt_spec.specs.Machine.Sealed.{sealed}
use Rattle.vt_spec.specs.Machine.Turns.{Item, Queue, Queued, Reply, Sched, first_sched, queue_of, schedule_who, turn}
use Rattle.vt_spec.specs.Machine.Turns.Item.{Asks, Calls, Refused}
use Rattle.vt_laws_sealed.specs.Outsiders.{are_all_called}
use Rattle.vt_laws_trees.specs.Trees.Limits.{names_few_groups}
use Rattle.vt_laws_turns.specs.Commits.{Turn, left_by, turns_given}
use Rattle.vt_laws_turns.specs.Holds.Held.{HoldsWhatIsSeen}
use Rattle.vt_laws_containers.specs.MembersTurns.TheirTurns.{set_left}
use Rattle.vt_laws_containers.specs.Scripts.{HasEarlierNumbers}
use Rattle.vt_laws_containers.specs.SealedTurns.OutsidersTurns.{HasItSealed, IsFirst, is_of_theirs}

-- what a line of a schedule gives: whose turn it is, if it names a task or `!`, and whether an allocation fails in it
abbrev pub Slot : Type 0
Slot = Option Who × Bool

-- the first of a list of failing allocations; where the list ends none fails
abbrev pub fails : List Bool → Bool
fails [] = false
fails (failed ∷ rest) = failed

-- what the lines of a schedule give; an allocation fails in those whose place in the list is `true`
abbrev pub slots : List (List ℕ) → List Bool → List Slot
slots [] refused = []
slots (line ∷ lines) refused = (schedule_who line, fails refused) ∷ slots lines (later refused)

-- where a schedule stands: before its line of this number, in this state, with the tasks of these names in the set
pub record TurnStand : Type 0 where
  pub number : ℕ
  pub sched : Sched ℕ
  pub names : List TaskName

-- the turn that a line gives there; it is handed the numbers of its line, or none where an allocation fails
abbrev pub turn_at : TurnStand → Slot → Option Turn
turn_at at slot = option_map (λ who. (who, cond slot.1 None (Some (numbers_for at.number)))) slot.0

-- after a line whose turn is not taken
abbrev pub passed_turn : TurnStand → TurnStand
passed_turn at = record at { number = at.number + 1 }

-- the set that a turn leaves
abbrev pub set_by : Sched ℕ → List TaskName → Who → Option (Fresh ℕ) → List TaskName
set_by sched names (Someone name) fresh = set_left sched names name fresh
set_by sched names Nobody fresh = names

-- after a turn, which is theirs or not
abbrev pub after_turn : (theirs : Bool) → TurnStand → Turn → TurnStand
after_turn theirs at given = record {
  number = at.number + 1;
  sched = (turn nat_eq at.sched given.0 given.1).sched;
  names = cond theirs (set_by at.sched at.names given.0 given.1) at.names;
}

-- after a line, if the run takes the turns of others, or if it does not
abbrev pub moved_by : (others theirs : Bool) → TurnStand → Turn → TurnStand
moved_by others true at given = after_turn true at given
moved_by true false at given = after_turn false at given
moved_by false false at given = passed_turn at

abbrev pub next_by : (others : Bool) → TurnStand → Option Turn → TurnStand
next_by others at None = passed_turn at
next_by others at (Some given) = moved_by others (is_of_theirs at.names given.0) at given

abbrev pub next_stand : (others : Bool) → TurnStand → Slot → TurnStand
next_stand others at slot = next_by others at (turn_at at slot)

-- the reply of a turn, if it has one, and if the turn is one of theirs
abbrev pub reply_by : (theirs : Bool) → Option Reply → List Reply
reply_by true reply = option_to_list reply
reply_by false reply = []

abbrev pub reply_of : TurnStand → Option Turn → List Reply
reply_of at None = []
reply_of at (Some given) = reply_by (is_of_theirs at.names given.0) (turn nat_eq at.sched given.0 given.1).reply

-- the replies of the turns of the set, with the turns of others or without them
abbrev pub own_replies : (others : Bool) → TurnStand → List Slot → List Reply
own_replies others at [] = []
own_replies others at (slot ∷ rest) =
    reply_of at (turn_at at slot) ++ own_replies others (next_stand others at slot) rest

-- something holds of each turn of a schedule, where it stands before it
abbrev pub IfTurn : (TurnStand → Turn → Type 0) → TurnStand → Option Turn → Type 0
IfTurn Holds at None = ⊤
IfTurn Holds at (Some given) = Holds at given

abbrev pub AlongTurns : (TurnStand → Turn → Type 0) → (others : Bool) → TurnStand → List Slot → Type 0
AlongTurns Holds others at [] = ⊤
AlongTurns Holds others at (slot ∷ rest) =
    IfTurn Holds at (turn_at at slot) × AlongTurns Holds others (next_stand others at slot) rest

-- after a turn of theirs the set is sealed off
abbrev pub LeavesThemSealed : TurnStand → Turn → Type 0
LeavesThemSealed at given =
    is_of_theirs at.names given.0 ≡ true
    → sealed nat_eq (after_turn true at given).sched.world (after_turn true at given).names ≡ true

-- a call of theirs that is first in its queue enters no namespace but one of theirs, and one of others none of theirs:
-- setns(2)
abbrev pub KeepsToItsSide : TurnStand → Turn → Type 0
KeepsToItsSide at given =
    (member : TaskName) → IsFirst at.sched given.0 (Setns member)
    → is_among same_name member at.names ≡ is_of_theirs at.names given.0

-- the tasks that the set has from here on, with the turns of others
abbrev pub sets_from : TurnStand → List Slot → List TaskName
sets_from at [] = at.names
sets_from at (slot ∷ rest) = at.names ++ sets_from (next_stand true at slot) rest

-- a turn of others is in the name of no task that the set has later
abbrev pub IsOfNoLaterTask : TurnStand → List Slot → Option Turn → Type 0
IsOfNoLaterTask at rest None = ⊤
IsOfNoLaterTask at rest (Some given) =
    is_of_theirs at.names given.0 ≡ false
    → is_of_theirs (sets_from (moved_by true (is_of_theirs at.names given.0) at given) rest) given.0 ≡ false

abbrev pub AreOfNoLaterTask : TurnStand → List Slot → Type 0
AreOfNoLaterTask at [] = ⊤
AreOfNoLaterTask at (slot ∷ rest) =
    IsOfNoLaterTask at rest (turn_at at slot) × AreOfNoLaterTask (next_stand true at slot) rest

-- The set is sealed off after each of its turns, if these are taken alone; no call changes sides; and no child of theirs
-- has a turn before it is born.
pub record StaysSealedInTurns (at : TurnStand) (rest : List Slot) : Type 0 where
  pub alone : AlongTurns LeavesThemSealed false at rest
  pub sides : AlongTurns KeepsToItsSide true at rest
  pub born : AreOfNoLaterTask at rest

-- what may stand in a queue of a script: no directive in that of a task, and no fork that names many groups
abbrev pub may_stand : Who → Item → Bool
may_stand who (Calls call) = names_few_groups call
may_stand (Someone name) (Asks directive) = false
may_stand Nobody (Asks directive) = true
may_stand who (Refused deny) = true

abbrev pub AreOfAScript : List Queue → Type 0
AreOfAScript queues =
    (who : Who) (queued : Queued) → Contains (queue_of queues who) queued → may_stand who queued.item ≡ true

-- Here the set is sealed off, each of its names is the name of a task, and lines are counted from 1. The world has none
-- of the numbers that are handed to this or a later line.
pub record IsSealedOffInTurn (at : TurnStand) : Type 0 where
  pub sealed_in : HasItSealed at.sched at.names
  pub holds : HoldsWhatIsSeen at.sched
  pub queues : AreOfAScript at.sched.queues
  pub counted : 1 ≤ at.number
  pub numbers : HasEarlierNumbers at.number at.sched.world

-- Then the turns of the set have the replies that they have alone, whatever turns of others are between them.
abbrev pub SealedSetsReplyAsIfAlone : Type 0
SealedSetsReplyAsIfAlone =
    (at : TurnStand) (rest : List Slot) → IsSealedOffInTurn at → StaysSealedInTurns at rest
    → own_replies true at rest ≡ own_replies false at rest

-- where a schedule of a script stands after these lines, with a set of tasks; allocations fail in some of them
abbrev pub turn_stand_after : Version → (script : List ℕ) → (lines : List (List ℕ)) → List Bool → List TaskName
    → TurnStand
turn_stand_after version script lines refused names = record {
  number = 1 + length lines;
  sched = left_by (first_sched (whole version) script) (turns_given 1 lines refused);
  names = names;
}

-- There all of this holds, if the set is sealed off and each of its names is the name of a task.
abbrev pub SealedSetsStandSoInTurn : Type 0
SealedSetsStandSoInTurn =
    (version : Version) (script : List ℕ) (lines : List (List ℕ)) (refused : List Bool) (names : List TaskName)
    → are_all_called (turn_stand_after version script lines refused names).sched.world names ≡ true
    → sealed nat_eq (turn_stand_after version script lines refused names).sched.world names ≡ true
    → IsSealedOffInTurn (turn_stand_after version script lines refused names)
