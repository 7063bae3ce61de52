-- Several turns of the tasks of a sealed set, with the turns of others between them and without (profile).
use Rattle.std.specs.Prelude.{Contains, List, Option, Some, [], false, map, nat_eq, true, ℕ, ⊤, ◌++◌, ◌∷◌, ◌≡◌}
use Rattle.vt_spec.specs.Language.Calls.{Call, TaskName, same_name}
use Rattle.vt_spec.specs.Language.Calls.Call.{Setns}
use Rattle.vt_spec.specs.Language.Script.Who.{Someone}
use Rattle.vt_spec.specs.Lists.{Fresh, first_of_list, is_among}
use Rattle.vt_spec.specs.Machine.Run.{Serves}
use Rattle.vt_spec.specs.Machine.Sealed.{sealed}
use Rattle.vt_spec.specs.Machine.Turns.{Queued, Reply, Sched, Turned, queue_of, turn}
use Rattle.vt_laws_trees.specs.Trees.Limits.{names_few_groups}
use Rattle.vt_laws_turns.specs.Commits.{Turn, left_by}
use Rattle.vt_laws_turns.specs.Holds.Held.{HoldsWhatIsSeen}
use Rattle.vt_laws_containers.specs.SealedTurns.OutsidersTurns.{AreOutsidersTurns, HasItSealed, IsFirst, is_of_theirs}
use Rattle.vt_laws_containers.specs.MembersTurns.TheirTurns.{HaveOnePart, is_directive, set_left}

-- turns of others, however many, and then one of a task of the set
pub record Round : Type 0 where
  pub others : List Turn
  pub name : TaskName
  pub fresh : Option (Fresh ℕ)

-- a round without the turns of others
abbrev pub alone : Round → Round
alone round = record round { others = [] }

-- the turn of theirs in a round
abbrev pub turn_of_theirs : Sched ℕ → Round → Turned ℕ
turn_of_theirs sched round = turn nat_eq (left_by sched round.others) (Someone round.name) round.fresh

-- the set after a round
abbrev pub set_after : Sched ℕ → List TaskName → Round → List TaskName
set_after sched names round = set_left (left_by sched round.others) names round.name round.fresh

-- the reply of each turn of theirs, if it has one
abbrev pub their_replies : Sched ℕ → List Round → List (Option Reply)
their_replies sched [] = []
their_replies sched (round ∷ rest) =
    (turn_of_theirs sched round).reply ∷ their_replies (turn_of_theirs sched round).sched rest

-- the state after rounds, and the set
abbrev pub state_after : Sched ℕ → List Round → Sched ℕ
state_after sched [] = sched
state_after sched (round ∷ rest) = state_after (turn_of_theirs sched round).sched rest

abbrev pub set_after_all : Sched ℕ → List TaskName → List Round → List TaskName
set_after_all sched names [] = names
set_after_all sched names (round ∷ rest) =
    set_after_all (turn_of_theirs sched round).sched (set_after sched names round) rest

-- the tasks that the set has before these rounds, and after each of them
abbrev pub sets_in : Sched ℕ → List TaskName → List Round → List TaskName
sets_in sched names [] = names
sets_in sched names (round ∷ rest) =
    names ++ sets_in (turn_of_theirs sched round).sched (set_after sched names round) rest

-- Turns of outsiders, none in the name of a task that the set has now or later (`kin`), and then a turn of theirs.
-- Numbers handed in are not in use.
pub record IsRound (kin : List TaskName) (sched : Sched ℕ) (names : List TaskName) (round : Round) : Type 0 where
  pub outside : AreOutsidersTurns sched names round.others
  pub unborn : (given : Turn) → Contains round.others given → is_of_theirs kin given.0 ≡ false
  pub theirs : is_among same_name round.name names ≡ true
  pub among_them : (member : TaskName) → IsFirst (left_by sched round.others) (Someone round.name) (Setns member)
      → is_among same_name member names ≡ true
  pub no_directive : (first : Queued)
      → first_of_list (queue_of (left_by sched round.others).queues (Someone round.name)) ≡ Some first
      → is_directive first.item ≡ false
  pub few_groups : (call : Call) → IsFirst (left_by sched round.others) (Someone round.name) call
      → names_few_groups call ≡ true
  pub serves : (given : Fresh ℕ) → round.fresh ≡ Some given → Serves nat_eq (left_by sched round.others).world given

-- rounds, each in the state that those before it leave
abbrev pub AreRounds : Sched ℕ → List TaskName → List Round → Type 0
AreRounds sched names [] = ⊤
AreRounds sched names (round ∷ rest) =
    IsRound (sets_in sched names (round ∷ rest)) sched names round
    × AreRounds (turn_of_theirs sched round).sched (set_after sched names round) rest

-- without the turns of others, the numbers handed in are not in use either, and the set is sealed off after each turn
pub record GoesAlone (sched : Sched ℕ) (names : List TaskName) (round : Round) : Type 0 where
  pub serves : (given : Fresh ℕ) → round.fresh ≡ Some given → Serves nat_eq sched.world given
  pub sealed_off : sealed nat_eq (turn_of_theirs sched (alone round)).sched.world
      (set_after sched names (alone round)) ≡ true

abbrev pub GoAlone : Sched ℕ → List TaskName → List Round → Type 0
GoAlone sched names [] = ⊤
GoAlone sched names (round ∷ rest) =
    GoesAlone sched names round
    × GoAlone (turn_of_theirs sched (alone round)).sched (set_after sched names (alone round)) rest

-- Then their turns have the replies that they have without the turns of others.
abbrev pub TheirTurnsReplyAsAlone : Type 0
TheirTurnsReplyAsAlone =
    (sched : Sched ℕ) (names : List TaskName) (rounds : List Round) → HasItSealed sched names
    → HoldsWhatIsSeen sched → AreRounds sched names rounds → GoAlone sched names rounds
    → their_replies sched rounds ≡ their_replies sched (map alone rounds)

-- They leave the set that they leave without them, with one part, its calls under way and its queues.
abbrev pub TheirTurnsLeaveAsAlone : Type 0
TheirTurnsLeaveAsAlone =
    (sched : Sched ℕ) (names : List TaskName) (rounds : List Round) → HasItSealed sched names
    → HoldsWhatIsSeen sched → AreRounds sched names rounds → GoAlone sched names rounds
    → (set_after_all sched names rounds ≡ set_after_all sched names (map alone rounds))
    × HaveOnePart (state_after sched (map alone rounds)) (state_after sched rounds)
    (set_after_all sched names (map alone rounds))

-- The set is sealed off with the turns of others, too.
abbrev pub OthersLeaveThemSealed : Type 0
OthersLeaveThemSealed =
    (sched : Sched ℕ) (names : List TaskName) (rounds : List Round) → HasItSealed sched names
    → HoldsWhatIsSeen sched → AreRounds sched names rounds → GoAlone sched names rounds
    → HasItSealed (state_after sched rounds) (set_after_all sched names rounds)
